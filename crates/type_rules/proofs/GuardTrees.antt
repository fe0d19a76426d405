-- A guard without a fault has a resolved tree.
use Rattle.std.proofs.Common.{◌≡◌, List, [], ◌∷◌, ◌++◌, Option, Some, None, Bool, true, false, not, refl, sym, subst}
use Rattle.std.specs.Prelude.{◌&&◌, is_some, is_none}
use Rattle.std.specs.List.{flat_map}
use Rattle.std.specs.Option.{option_map, option_map_or}
use Rattle.jp_ast.specs.declared.token.Place.{Place}
use Rattle.jp_ast.specs.declared.guard.GuardExpr.{GuardExpr}
use Rattle.jp_ast.specs.declared.guard.GuardKind.{GuardKind, GuardKind-F}
use Rattle.jp_ast.specs.declared.guard.GuardKind.TheOpen as g
use Rattle.jp_ast.specs.declared.guard.GuardKind.TheFolds.{ind-GuardExpr, fold-GuardKind, fold-roll-GuardExpr, fold-roll-GuardKind, map-GuardKind}
use Rattle.jp_ast.specs.declared.guard.PathText.{PathText}
use Rattle.jp_ast.specs.declared.guard.Summand.{Summand}
use Rattle.jp_meaning.specs.declared.guard.TypedPath.{TypedPath}
use Rattle.jp_meaning.specs.declared.guard.TypedSummand.{TypedSummand}
use Rattle.jp_meaning.specs.declared.guard.TypedGuard.{TypedGuard}
use Rattle.jp_meaning.specs.declared.guard.TypedGuardKind.{TypedGuardKind}
use Rattle.type_rules.specs.declared.fault.TypeFault.{TypeFault}
use Rattle.type_rules.specs.declared.guard_scope.GuardScope.{GuardScope}
use Rattle.type_rules.specs.GuardPaths.{root_of, path_of}
use Rattle.type_rules.specs.Nodes.{AtomNode, TestsClass, NamesPath, TestsNull, Stands, Node, AtAtom, AtPath, AtSummand}
use Rattle.type_rules.specs.Table.{own_faults, faults_of}
use Rattle.type_rules.specs.Guards.{Guarded, Step, unless_faulty, path_in, path_visit, summand_visits, summand_at, summand_path, summand_in, summands_in, inner, with_aliases, atom_visit, atom, both, resolved, guard_at, guarded_of, guarded}
use Rattle.type_rules.specs.Laws.{SoundIsGuarded}
use Rattle.type_rules.proofs.Firsts.{none_first}
use Rattle.type_rules.proofs.Soundness.{front_sound, back_sound, own_sound, first_kept, others_kept, not_false, some_map, some_then}

-- without a fault among its nodes a guard has a resolved tree
abbrev pub Makes : (GuardScope → Guarded) → Type 0
Makes f = (c : GuardScope) → faults_of (f c).visits ≡ [] → is_some (f c).made ≡ true

settle : {A : Type 0} (p : Place) (n : Node) (o : Option A) → own_faults p n ≡ [] → is_some o ≡ true → is_some (unless_faulty p n o) ≡ true
settle {A = A} p n o e h = go (own_faults p n) e where
  go : (fs : List TypeFault) → fs ≡ [] → is_some (elim fs as (λ x. Option A) [ [] ↦ o | y ∷ ys ↦ None ]) ≡ true
  go [] e = h
  go (f ∷ fs) e = absurd cc

-- PATHS

some_unless : (a b : Bool) → a ≡ true → (a && not b) ≡ false → b ≡ true
some_unless true b e h = not_false b h
some_unless false b e h = absurd cc

path_some : (c : GuardScope) (compared : Bool) (path : PathText) → faults_of (path_visit c compared path) ≡ [] → is_some (path_in c compared path) ≡ true
path_some c compared path e =
    let own : own_faults path.place (AtPath c compared path) ≡ [] = own_sound (record { place = path.place; node = AtPath c compared path }) e in
    let root : is_some (root_of c path.place path.root) ≡ true = not_false _ (first_kept path.place 13 (is_none (root_of c path.place path.root)) _ own) in
    let rest = others_kept path.place 13 (is_none (root_of c path.place path.root)) _ own in
    settle path.place (AtPath c compared path) (path_of c path) own
    (some_unless (is_some (root_of c path.place path.root)) (is_some (path_of c path)) root (first_kept path.place 14 (is_some (root_of c path.place path.root) && is_none (path_of c path)) _ rest))

-- SUMMANDS

summand_some : (c : GuardScope) (x : Summand) → faults_of (summand_visits c x) ≡ [] → is_some (summand_in c x) ≡ true
summand_some c x e =
    settle x.place (AtSummand x) (option_map (summand_at x) (summand_path c x.path))
    (own_sound (record { place = x.place; node = AtSummand x }) (back_sound (option_map_or (path_visit c true) x.path []) _ e))
    (some_map (summand_at x) (summand_path c x.path) (of_path x.path (front_sound (option_map_or (path_visit c true) x.path []) _ e))) where
      of_path : (path : Option PathText) → faults_of (option_map_or (path_visit c true) path []) ≡ [] → is_some (summand_path c path) ≡ true
      of_path None e = refl
      of_path (Some path) e = some_map Some (path_in c true path) (path_some c true path e)

summands_some : (c : GuardScope) (xs : List Summand) (done : List TypedSummand) → faults_of (flat_map (summand_visits c) xs) ≡ [] → is_some (summands_in c done xs) ≡ true
summands_some c [] done e = refl
summands_some c (x ∷ xs) done e =
    some_then (λ t. summands_in c (done ++ t ∷ []) xs) (summand_in c x) (summand_some c x (front_sound (summand_visits c x) (flat_map (summand_visits c) xs) e))
    (λ t. summands_some c xs (done ++ t ∷ []) (back_sound (summand_visits c x) (flat_map (summand_visits c) xs) e))

-- ATOMS

atom_some : (c : GuardScope) (p : Place) (n : AtomNode) (path : PathText) (make : TypedPath → TypedGuardKind) →
    faults_of (atom_visit c p n path) ≡ [] → is_some (atom c p n (path_in c false path) make) ≡ true
atom_some c p n path make e =
    settle p (AtAtom c n) (option_map make (path_in c false path))
    (own_sound (record { place = p; node = AtAtom c n }) (back_sound (path_visit c false path) (record { place = p; node = AtAtom c n } ∷ []) e))
    (some_map make (path_in c false path) (path_some c false path (front_sound (path_visit c false path) (record { place = p; node = AtAtom c n } ∷ []) e)))

both_some : (join : TypedGuard → TypedGuard → TypedGuardKind) (left right : Option TypedGuard) → is_some left ≡ true → is_some right ≡ true → is_some (both join left right) ≡ true
both_some join left right e h = some_then _ left e (λ l. some_map _ right h)

-- THE FOLD

abbrev step : Step → Place → GuardScope → Guarded
step = guarded_of

abbrev kind_guarded : GuardKind → Place → GuardScope → Guarded
kind_guarded = fold-GuardKind (Place → GuardScope → Guarded) (GuardScope → Guarded) step (λ x. x.kind x.place)

abbrev SureKind : Type 0
SureKind = (k : GuardKind) × ((p : Place) → Makes (kind_guarded k p))

abbrev Sure : Type 0
Sure = (x : GuardExpr) × Makes (guarded x)

whole : (c : GuardScope) (p : Place) (step : Step) → is_some (resolved c p step) ≡ true → is_some (guarded_of step p c).made ≡ true
whole c p step h = some_map (guard_at p) (resolved c p step) h

layer : (y : GuardKind-F SureKind Sure) (p : Place) →
    Makes (step (map-GuardKind GuardKind GuardExpr (Place → GuardScope → Guarded) (GuardScope → Guarded) kind_guarded guarded (map-GuardKind SureKind Sure GuardKind GuardExpr (λ k. k.0) (λ x. x.0) y)) p)
layer (g.Truth value) p c h = refl
layer (g.Not right) p c h = whole c p (g.Not (guarded right.0)) (some_map _ (guarded right.0 (inner c)).made (right.1 (inner c) h))
layer (g.And left right) p c h = whole c p (g.And (guarded left.0) (guarded right.0))
    (both_some _ (guarded left.0 c).made (guarded right.0 (guarded left.0 c).after).made (left.1 c (front_sound (guarded left.0 c).visits _ h))
    (right.1 (guarded left.0 c).after (back_sound (guarded left.0 c).visits _ h)))
layer (g.Or left right) p c h =
    let d : GuardScope = with_aliases (inner c) (guarded left.0 (inner c)).after.aliases in
    whole c p (g.Or (guarded left.0) (guarded right.0))
    (both_some _ (guarded left.0 (inner c)).made (guarded right.0 d).made (left.1 (inner c) (front_sound (guarded left.0 (inner c)).visits _ h))
    (right.1 d (back_sound (guarded left.0 (inner c)).visits _ h)))
layer (g.Is path class alias) p c h = whole c p (g.Is path class alias) (atom_some c p (TestsClass (path_in c false path) class alias) path _ h)
layer (g.Alias path name) p c h = whole c p (g.Alias path name) (atom_some c p (NamesPath (path_in c false path) name) path _ h)
layer (g.NullTest path equal) p c h = whole c p (g.NullTest path equal) (atom_some c p (TestsNull (path_in c false path)) path _ h)
layer (g.Flag path) p c h = whole c p (g.Flag path) (atom_some c p (Stands (path_in c false path)) path _ h)
layer (g.Compare left n right) p c h = whole c p (g.Compare left n right)
    (some_then _ (summands_in c [] left) (summands_some c left [] (front_sound (flat_map (summand_visits c) left) (flat_map (summand_visits c) right) h))
    (λ l. some_map _ (summands_in c [] right) (summands_some c right [] (back_sound (flat_map (summand_visits c) left) (flat_map (summand_visits c) right) h))))

-- each guard
pub guard_makes : (x : GuardExpr) → Makes (guarded x)
guard_makes = ind-GuardExpr (λ k. (p : Place) → Makes (kind_guarded k p)) (λ x. Makes (guarded x))
    (λ x y is. subst (λ (z : Place → GuardScope → Guarded). (p : Place) → Makes (z p)) (sym (fold-roll-GuardKind (Place → GuardScope → Guarded) (GuardScope → Guarded) step (λ x. x.kind x.place) x))
    (subst (λ (z : GuardKind-F GuardKind GuardExpr). (p : Place) → Makes (step (map-GuardKind GuardKind GuardExpr (Place → GuardScope → Guarded) (GuardScope → Guarded) kind_guarded guarded z) p)) is (layer y)))
    (λ x y is. subst Makes (sym (fold-roll-GuardExpr (Place → GuardScope → Guarded) (GuardScope → Guarded) step (λ x. x.kind x.place) x))
    (subst (λ (z : g.GuardExpr-F GuardKind GuardExpr). Makes (kind_guarded z.kind z.place)) is (y.kind.1 y.place)))

pub sound_is_guarded : SoundIsGuarded
sound_is_guarded c x e = guard_makes x c (none_first (faults_of (guarded x c).visits) e)
