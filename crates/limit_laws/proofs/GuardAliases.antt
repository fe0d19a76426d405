-- A guard leaves as many aliases as it is written with.
use Rattle.std.proofs.Common.{◌≡◌, ℕ, ◌+◌, Bool, true, false, List, [], ◌∷◌, ◌++◌, length, Option, Some, None, refl, sym, ap, ◌∙◌, subst, arith}
use Rattle.std.specs.Prelude.{if◌then◌else◌}
use Rattle.std.specs.Option.{option_map, option_map_or}
use Rattle.std.proofs.lemmas.List.{length_push}
use Rattle.jp_pred.specs.declared.ty.Ty.TheVariants as ty
use Rattle.jp_pred.specs.Names.{Word}
use Rattle.jp_ast.specs.declared.token.Place.{Place}
use Rattle.jp_ast.specs.declared.guard.GuardExpr.{GuardExpr}
use Rattle.jp_ast.specs.declared.guard.GuardKind.{GuardKind, GuardKind-F}
use Rattle.jp_ast.specs.declared.guard.GuardKind.TheOpen as g
use Rattle.jp_ast.specs.declared.guard.GuardKind.TheFolds.{ind-GuardExpr, fold-GuardKind, fold-roll-GuardExpr, fold-roll-GuardKind, map-GuardKind}
use Rattle.jp_ast.specs.Counts.{of_option}
use Rattle.jp_meaning.specs.declared.guard.TypedPath.{TypedPath}
use Rattle.type_rules.specs.declared.guard_scope.GuardScope.{GuardScope}
use Rattle.type_rules.specs.declared.guard_scope.Alias.{Alias}
use Rattle.type_rules.specs.Heads.{names_class}
use Rattle.type_rules.specs.Nodes.{AtAtom, TestsClass}
use Rattle.type_rules.specs.Guards.{Guarded, unless_faulty, path_in, inner, with_aliases, alias_at, tested, behind_test, guarded_of, guarded}
use Rattle.unit_limits.specs.Aliases.{alias_step, guard_aliases}

abbrev Grows : ℕ → (GuardScope → Guarded) → Type 0
Grows n f = (c : GuardScope) → length (f c).after.aliases ≡ length c.aliases + n

none_more : (n : ℕ) → n ≡ n + 0
none_more n = omega arith

one_more : (names : List Alias) (a : Alias) (n : ℕ) → length names ≡ n → length (names ++ a ∷ []) ≡ n + 1
one_more names a n e = length_push names a ∙ ap (λ (k : ℕ). k + 1) e

two_more : (a b n k l : ℕ) → b ≡ a + k → n ≡ b + l → n ≡ a + (k + l)
two_more a b n k l e f = omega arith

kept_if : (b : Bool) (c d : GuardScope) → d.aliases ≡ c.aliases → (if b then d else c).aliases ≡ c.aliases
kept_if true c d e = e
kept_if false c d e = refl

narrow_keeps : (c : GuardScope) (o : Option TypedPath) (class : Word) → (option_map_or (λ (t : TypedPath). tested c t.path class) o c).aliases ≡ c.aliases
narrow_keeps c None class = refl
narrow_keeps c (Some t) class = kept_if (names_class c.heads class) c (record c { tests = c.tests ++ record { path = t.path; class = class } ∷ [] }) refl

test_grows : (c : GuardScope) (p : Place) (path : Option TypedPath) (class : Word) (alias : Option Word) →
    length (behind_test c p path class alias).aliases ≡ length c.aliases + of_option (λ (name : Word). 1) alias
test_grows c p path class None =
    ap (λ (names : List Alias). length names) (narrow_keeps c (unless_faulty p (AtAtom c (TestsClass path class None)) path) class) ∙ none_more (length c.aliases)
test_grows c p path class (Some name) =
    let o : Option TypedPath = unless_faulty p (AtAtom c (TestsClass path class (Some name))) path in
    one_more (option_map_or (λ (t : TypedPath). tested c t.path class) o c).aliases (alias_at path name (Some (ty.Class class))) (length c.aliases)
    (ap (λ (names : List Alias). length names) (narrow_keeps c o class))

-- THE FOLD

abbrev kind_guarded : GuardKind → Place → GuardScope → Guarded
kind_guarded = fold-GuardKind (Place → GuardScope → Guarded) (GuardScope → Guarded) guarded_of (λ x. x.kind x.place)

abbrev kind_aliases : GuardKind → ℕ
kind_aliases = fold-GuardKind ℕ ℕ alias_step (λ x. x.kind)

abbrev GrowsKind : Type 0
GrowsKind = (k : GuardKind) × ((p : Place) → Grows (kind_aliases k) (kind_guarded k p))

abbrev GrowsOne : Type 0
GrowsOne = (x : GuardExpr) × Grows (guard_aliases x) (guarded x)

abbrev step_at : GuardKind-F GuardKind GuardExpr → Place → GuardScope → Guarded
step_at z = guarded_of (map-GuardKind GuardKind GuardExpr (Place → GuardScope → Guarded) (GuardScope → Guarded) kind_guarded guarded z)

abbrev count_at : GuardKind-F GuardKind GuardExpr → ℕ
count_at z = alias_step (map-GuardKind GuardKind GuardExpr ℕ ℕ kind_aliases guard_aliases z)

abbrev bare : GuardKind-F GrowsKind GrowsOne → GuardKind-F GuardKind GuardExpr
bare y = map-GuardKind GrowsKind GrowsOne GuardKind GuardExpr (λ k. k.0) (λ x. x.0) y

layer : (y : GuardKind-F GrowsKind GrowsOne) (p : Place) → Grows (count_at (bare y)) (step_at (bare y) p)
layer (g.Truth value) p c = none_more (length c.aliases)
layer (g.Not right) p c = right.1 (inner c)
layer (g.And left right) p c =
    two_more (length c.aliases) (length (guarded left.0 c).after.aliases) _ (guard_aliases left.0) (guard_aliases right.0) (left.1 c) (right.1 (guarded left.0 c).after)
layer (g.Or left right) p c =
    let d : GuardScope = with_aliases (inner c) (guarded left.0 (inner c)).after.aliases in
    two_more (length c.aliases) (length d.aliases) _ (guard_aliases left.0) (guard_aliases right.0) (left.1 (inner c)) (right.1 d)
layer (g.Is path class alias) p c = test_grows c p (path_in c false path) class alias
layer (g.Alias path name) p c = one_more c.aliases (alias_at (path_in c false path) name None) (length c.aliases) refl
layer (g.NullTest path equal) p c = none_more (length c.aliases)
layer (g.Flag path) p c = none_more (length c.aliases)
layer (g.Compare left n right) p c = none_more (length c.aliases)

with_both : {A B : Type 0} (Q : A → B → Type 0) (x z : A) (y u : B) → x ≡ z → y ≡ u → Q z u → Q x y
with_both Q x z y u e f q = subst (λ v. Q v y) (sym e) (subst (λ v. Q z v) (sym f) q)

pub guard_grows : (x : GuardExpr) → Grows (guard_aliases x) (guarded x)
guard_grows = ind-GuardExpr (λ k. (p : Place) → Grows (kind_aliases k) (kind_guarded k p)) (λ x. Grows (guard_aliases x) (guarded x))
    (λ x y is. with_both (λ (n : ℕ) (h : Place → GuardScope → Guarded). (p : Place) → Grows n (h p)) _ _ _ _ (fold-roll-GuardKind ℕ ℕ alias_step (λ x. x.kind) x)
    (fold-roll-GuardKind (Place → GuardScope → Guarded) (GuardScope → Guarded) guarded_of (λ x. x.kind x.place) x)
    (subst (λ (z : GuardKind-F GuardKind GuardExpr). (p : Place) → Grows (count_at z) (step_at z p)) is (layer y)))
    (λ x y is. with_both Grows _ _ _ _ (fold-roll-GuardExpr ℕ ℕ alias_step (λ x. x.kind) x)
    (fold-roll-GuardExpr (Place → GuardScope → Guarded) (GuardScope → Guarded) guarded_of (λ x. x.kind x.place) x)
    (subst (λ (z : g.GuardExpr-F GuardKind GuardExpr). Grows (kind_aliases z.kind) (kind_guarded z.kind z.place)) is (y.kind.1 y.place)))

-- the aliases of a guard that may be left out
pub aliases_counted : (c : GuardScope) (o : Option GuardExpr) → c.aliases ≡ [] →
    length (option_map_or (λ (x : Guarded). x.after.aliases) (option_map (λ (f : GuardScope → Guarded). f c) (option_map guarded o)) []) ≡ of_option guard_aliases o
aliases_counted c None e = refl
aliases_counted c (Some x) e =
    let h : length (guarded x c).after.aliases ≡ length c.aliases + guard_aliases x = guard_grows x c in
    let k : length c.aliases ≡ 0 = ap (λ (names : List Alias). length names) e in
    omega arith
