-- The aliases of a guard begin at its receiver or at one of its parameters.
use Rattle.std.proofs.Common.{◌≡◌, ℕ, ◌≤◌, Bool, true, false, List, [], ◌∷◌, ◌++◌, length, Option, Some, None, refl, sym, subst, arith, inl, inr}
use Rattle.std.specs.Prelude.{if◌then◌else◌, option_and_then}
use Rattle.std.specs.List.{find}
use Rattle.std.specs.Option.{option_map, option_map_or, option_or}
use Rattle.jp_pred.specs.declared.ty.Ty.{Ty}
use Rattle.jp_pred.specs.declared.ty.Ty.TheVariants as ty
use Rattle.jp_pred.specs.declared.path.Path.{Path}
use Rattle.jp_pred.specs.Names.{Word, In, same}
use Rattle.jp_pred.specs.Paths.{root_path, extend}
use Rattle.jp_pred.proofs.Entries.{split_in}
use Rattle.iface_codec.specs.declared.iface.IfaceField.{IfaceField}
use Rattle.jp_ast.specs.declared.token.Place.{Place}
use Rattle.jp_ast.specs.declared.guard.GuardExpr.{GuardExpr}
use Rattle.jp_ast.specs.declared.guard.GuardKind.{GuardKind, GuardKind-F}
use Rattle.jp_ast.specs.declared.guard.GuardKind.TheOpen as g
use Rattle.jp_ast.specs.declared.guard.GuardKind.TheFolds.{ind-GuardExpr, fold-GuardKind, fold-roll-GuardExpr, fold-roll-GuardKind, map-GuardKind}
use Rattle.jp_ast.specs.declared.guard.PathText.{PathText}
use Rattle.jp_meaning.specs.declared.guard.TypedPath.{TypedPath}
use Rattle.type_rules.specs.declared.fault.TypeFault.{TypeFault}
use Rattle.type_rules.specs.declared.guard_scope.GuardScope.{GuardScope}
use Rattle.type_rules.specs.declared.guard_scope.Alias.{Alias}
use Rattle.type_rules.specs.Types.{is_unknown}
use Rattle.type_rules.specs.Heads.{names_class}
use Rattle.type_rules.specs.Lookups.{field_that}
use Rattle.type_rules.specs.Names.{variable_from}
use Rattle.type_rules.specs.GuardPaths.{path_at, step_named, this_word, alias_of, root_of, further, step_in, step_of, steps_of, path_of}
use Rattle.type_rules.specs.Nodes.{TestsClass, AtAtom, AtPath}
use Rattle.type_rules.specs.Table.{own_faults}
use Rattle.type_rules.specs.Guards.{Guarded, unless_faulty, path_in, inner, with_aliases, alias_at, aliased, tested, behind_test, guarded_of, guarded}
use Rattle.typed_fits.proofs.Looking.{find_in}
use Rattle.typed_code.proofs.Making.{OnMade, so_then}
use Rattle.typed_code.proofs.SeenTold.{slots_below}

module _ (n : ℕ) where
  -- roots are numbers up to n
  abbrev Near : Path → Type 0
  Near path = path.root ≤ n

  abbrev pub AllNear : List Alias → Type 0
  AllNear [] = Unit {0}
  AllNear (a ∷ more) = Near a.path × AllNear more

  near_in : (all : List Alias) (a : Alias) → AllNear all → In a all → Near a.path
  near_in [] a h i = elim i [ ]
  near_in (b ∷ bs) a h i = elim (split_in b a bs i) [
    | inl q ↦ subst (λ (x : Alias). Near x.path) q h.0
    | inr j ↦ near_in bs a h.1 j
  ]

  one_nearer : (all : List Alias) (a : Alias) → AllNear all → Near a.path → AllNear (all ++ a ∷ [])
  one_nearer [] a h k = (k, tt)
  one_nearer (b ∷ bs) a h k = (h.0, one_nearer bs a h.1 k)

  -- a scope with so many parameters, whose aliases are so
  pub record NearScope (c : GuardScope) : Type 0 where
    pub params : length c.params ≤ n
    pub aliases : AllNear c.aliases

  abbrev NearPath : Option TypedPath → Type 0
  NearPath = OnMade (λ (t : TypedPath). Near t.path)

  -- PATHS

  either : (a b : Option TypedPath) → NearPath a → NearPath b → NearPath (option_or a b)
  either None b h k = k
  either (Some t) b h k = h

  by_this : (x : Bool) (a b : Option TypedPath) → NearPath a → NearPath b → NearPath (if x then a else b)
  by_this true a b h k = h
  by_this false a b h k = k

  root_near : (c : GuardScope) (place : Place) (name : Word) → NearScope c → NearPath (root_of c place name)
  root_near c place name s = by_this (same name this_word) (Some (path_at c place (root_path 0) (ty.Class c.class))) (option_or (option_map (λ p. path_at c place (root_path p.0) p.1) (variable_from 1 name c.params)) (option_map (λ a. path_at c place a.path a.declared) (alias_of c name)))
      (omega arith) (either (option_map (λ p. path_at c place (root_path p.0) p.1) (variable_from 1 name c.params)) (option_map (λ a. path_at c place a.path a.declared) (alias_of c name)) (by_param (variable_from 1 name c.params) refl) (by_alias (alias_of c name) refl)) where
        by_param : (o : Option (ℕ × Ty)) → variable_from 1 name c.params ≡ o → NearPath (option_map (λ p. path_at c place (root_path p.0) p.1) o)
        by_param None e = tt
        by_param (Some v) e = let below = slots_below 1 name c.params v e in let few = s.params in omega (arith, below, few)

        by_alias : (o : Option Alias) → find (λ a. same a.name name) c.aliases ≡ o → NearPath (option_map (λ a. path_at c place a.path a.declared) o)
        by_alias None e = tt
        by_alias (Some a) e = near_in c.aliases a s.aliases (find_in (λ a. same a.name name) c.aliases a e).0

  step_near : (c : GuardScope) (before : TypedPath) (name : Word) → Near before.path → NearPath (step_of c before name)
  step_near c before name h = by_this (is_unknown before.ty) (Some (path_at c before.place (extend before.path (step_named name)) ty.Void)) (step_in c before name before.ty) h (in_type before.ty) where
    by_field : (o : Option (Word × IfaceField)) → NearPath (option_map (further c before name) o)
    by_field None = tt
    by_field (Some f) = h

    in_type : (t : Ty) → NearPath (step_in c before name t)
    in_type ty.Void = tt
    in_type ty.Int = tt
    in_type ty.Boolean = tt
    in_type (ty.Class class) = by_field (field_that false c.heads c.class class name)
    in_type ty.IntArray = tt
    in_type ty.BooleanArray = tt
    in_type (ty.ClassArray class) = tt

  steps_near : (c : GuardScope) (before : Option TypedPath) (names : List Word) → NearPath before → NearPath (steps_of c before names)
  steps_near c before [] h = h
  steps_near c before (name ∷ more) h =
      steps_near c (option_and_then (λ p. step_of c p name) before) more (so_then (λ p. step_of c p name) (λ (t : TypedPath). Near t.path) (λ (t : TypedPath). Near t.path) before h (λ p k. step_near c p name k))

  settle : (fs : List TypeFault) (o : Option TypedPath) → NearPath o → NearPath (elim fs [ [] ↦ o | _ ↦ None ])
  settle [] o h = h
  settle (f ∷ fs) o h = tt

  path_near : (c : GuardScope) (compared : Bool) (path : PathText) → NearScope c → NearPath (path_in c compared path)
  path_near c compared path s = settle (own_faults path.place (AtPath c compared path)) (path_of c path) (steps_near c (root_of c path.place path.root) path.steps (root_near c path.place path.root s))

  -- SCOPES

  alias_near : (path : Option TypedPath) (name : Word) (t : Option Ty) → NearPath path → Near (alias_at path name t).path
  alias_near None name t h = omega arith
  alias_near (Some p) name t h = h

  aliased_near : (c : GuardScope) (path : Option TypedPath) (name : Word) (t : Option Ty) → NearScope c → NearPath path → NearScope (aliased c path name t)
  aliased_near c path name t s h = record { params = s.params; aliases = one_nearer c.aliases (alias_at path name t) s.aliases (alias_near path name t h) }

  inner_near : (c : GuardScope) → NearScope c → NearScope (inner c)
  inner_near c s = record { params = s.params; aliases = s.aliases }

  with_near : (c d : GuardScope) → NearScope c → NearScope d → NearScope (with_aliases c d.aliases)
  with_near c d s t = record { params = s.params; aliases = t.aliases }

  tested_near : (c : GuardScope) (path : Path) (class : Word) → NearScope c → NearScope (tested c path class)
  tested_near c path class s = by_class (names_class c.heads class) where
    by_class : (b : Bool) → NearScope (if b then record c { tests = c.tests ++ record { path = path; class = class } ∷ [] } else c)
    by_class true = record { params = s.params; aliases = s.aliases }
    by_class false = s

  test_near : (c : GuardScope) (p : Place) (path : Option TypedPath) (class : Word) (alias : Option Word) → NearScope c → NearPath path → NearScope (behind_test c p path class alias)
  test_near c p path class alias s h = by_alias alias where
    by_path : (o : Option TypedPath) → NearScope (option_map_or (λ t. tested c t.path class) o c)
    by_path None = s
    by_path (Some t) = tested_near c t.path class s

    narrow : GuardScope
    narrow = option_map_or (λ t. tested c t.path class) (unless_faulty p (AtAtom c (TestsClass path class alias)) path) c

    by_alias : (o : Option Word) → NearScope (option_map_or (λ name. aliased narrow path name (Some (ty.Class class))) o narrow)
    by_alias None = by_path (unless_faulty p (AtAtom c (TestsClass path class alias)) path)
    by_alias (Some name) = aliased_near narrow path name (Some (ty.Class class)) (by_path (unless_faulty p (AtAtom c (TestsClass path class alias)) path)) h

  -- THE FOLD

  abbrev Nears : (GuardScope → Guarded) → Type 0
  Nears f = (c : GuardScope) → NearScope c → NearScope (f c).after

  abbrev kind_guarded : GuardKind → Place → GuardScope → Guarded
  kind_guarded = fold-GuardKind (Place → GuardScope → Guarded) (GuardScope → Guarded) guarded_of (λ x. x.kind x.place)

  abbrev NearKind : Type 0
  NearKind = (k : GuardKind) × ((p : Place) → Nears (kind_guarded k p))

  abbrev NearGuard : Type 0
  NearGuard = (x : GuardExpr) × Nears (guarded x)

  layer : (y : GuardKind-F NearKind NearGuard) (p : Place) →
      Nears (guarded_of (map-GuardKind GuardKind GuardExpr (Place → GuardScope → Guarded) (GuardScope → Guarded) kind_guarded guarded (map-GuardKind NearKind NearGuard GuardKind GuardExpr (λ k. k.0) (λ x. x.0) y)) p)
  layer (g.Truth value) p c s = s
  layer (g.Not right) p c s = with_near c (guarded right.0 (inner c)).after s (right.1 (inner c) (inner_near c s))
  layer (g.And left right) p c s = right.1 (guarded left.0 c).after (left.1 c s)
  layer (g.Or left right) p c s =
      let i = inner_near c s in
      let d : GuardScope = with_aliases (inner c) (guarded left.0 (inner c)).after.aliases in
      with_near c (guarded right.0 d).after s (right.1 d (with_near (inner c) (guarded left.0 (inner c)).after i (left.1 (inner c) i)))
  layer (g.Is path class alias) p c s = test_near c p (path_in c false path) class alias s (path_near c false path s)
  layer (g.Alias path name) p c s = aliased_near c (path_in c false path) name None s (path_near c false path s)
  layer (g.NullTest path equal) p c s = s
  layer (g.Flag path) p c s = s
  layer (g.Compare left sign right) p c s = s

  pub guard_near : (x : GuardExpr) → Nears (guarded x)
  guard_near = ind-GuardExpr (λ k. (p : Place) → Nears (kind_guarded k p)) (λ x. Nears (guarded x))
      (λ x y is. subst (λ (z : Place → GuardScope → Guarded). (p : Place) → Nears (z p)) (sym (fold-roll-GuardKind (Place → GuardScope → Guarded) (GuardScope → Guarded) guarded_of (λ x. x.kind x.place) x))
      (subst (λ (z : GuardKind-F GuardKind GuardExpr). (p : Place) → Nears (guarded_of (map-GuardKind GuardKind GuardExpr (Place → GuardScope → Guarded) (GuardScope → Guarded) kind_guarded guarded z) p)) is (layer y)))
      (λ x y is. subst Nears (sym (fold-roll-GuardExpr (Place → GuardScope → Guarded) (GuardScope → Guarded) guarded_of (λ x. x.kind x.place) x))
      (subst (λ (z : g.GuardExpr-F GuardKind GuardExpr). Nears (kind_guarded z.kind z.place)) is (y.kind.1 y.place)))
