-- The classes that a guard mentions in type positions are those that it names there.
use Rattle.std.proofs.Common.{◌≡◌, List, ◌++◌, Option, Some, None, refl, sym, subst}
use Rattle.jp_ast.specs.declared.token.Place.{Place}
use Rattle.jp_ast.specs.declared.guard.GuardExpr.{GuardExpr}
use Rattle.jp_ast.specs.declared.guard.GuardKind.{GuardKind, GuardKind-F}
use Rattle.jp_ast.specs.declared.guard.GuardKind.TheOpen as g
use Rattle.jp_ast.specs.declared.guard.GuardKind.TheFolds.{ind-GuardExpr, fold-GuardKind, fold-roll-GuardExpr, fold-roll-GuardKind, map-GuardKind}
use Rattle.type_rules.specs.ClassNames.{Aliased, in_guard, in_guard_option}
use Rattle.type_rules.specs.ClassNames as mentions
use Rattle.own_names.specs.Naming.{Named, in_option}
use Rattle.own_names.specs.Trees.{guard_step, guard_names}
use Rattle.own_names.proofs.Says.{Says, both_say}

abbrev GuardSays : Aliased → List Named → Type 0
GuardSays x names = Says x.mentions names

abbrev kind_mentions : GuardKind → Aliased
kind_mentions = fold-GuardKind Aliased Aliased mentions.guard_step (λ x. x.kind)

abbrev kind_names : GuardKind → Place → List Named
kind_names = fold-GuardKind (Place → List Named) (List Named) guard_step (λ x. x.kind x.place)

abbrev SaidKind : Type 0
SaidKind = (k : GuardKind) × ((p : Place) → GuardSays (kind_mentions k) (kind_names k p))

abbrev SaidGuard : Type 0
SaidGuard = (x : GuardExpr) × GuardSays (in_guard x) (guard_names x)

two_say : (left right : SaidGuard) → Says ((in_guard left.0).mentions ++ (in_guard right.0).mentions) (guard_names left.0 ++ guard_names right.0)
two_say left right = both_say (in_guard left.0).mentions (in_guard right.0).mentions (guard_names left.0) (guard_names right.0) left.1 right.1

layer : (y : GuardKind-F SaidKind SaidGuard) (p : Place) →
    GuardSays (mentions.guard_step (map-GuardKind GuardKind GuardExpr Aliased Aliased kind_mentions in_guard (map-GuardKind SaidKind SaidGuard GuardKind GuardExpr (λ k. k.0) (λ x. x.0) y)))
    (guard_step (map-GuardKind GuardKind GuardExpr (Place → List Named) (List Named) kind_names guard_names (map-GuardKind SaidKind SaidGuard GuardKind GuardExpr (λ k. k.0) (λ x. x.0) y)) p)
layer (g.Truth value) p = refl
layer (g.Not right) p = right.1
layer (g.And left right) p = two_say left right
layer (g.Or left right) p = two_say left right
layer (g.Is path class alias) p = refl
layer (g.Alias path name) p = refl
layer (g.NullTest path equal) p = refl
layer (g.Flag path) p = refl
layer (g.Compare left sign right) p = refl

with_both : {A B : Type 0} (Q : A → B → Type 0) (x z : A) (y u : B) → x ≡ z → y ≡ u → Q z u → Q x y
with_both Q x z y u e f q = subst (λ v. Q v y) (sym e) (subst (λ v. Q z v) (sym f) q)

guard_says : (x : GuardExpr) → GuardSays (in_guard x) (guard_names x)
guard_says = ind-GuardExpr (λ k. (p : Place) → GuardSays (kind_mentions k) (kind_names k p)) (λ x. GuardSays (in_guard x) (guard_names x))
    (λ x y is. with_both (λ (f : Aliased) (h : Place → List Named). (p : Place) → GuardSays f (h p)) _ _ _ _ (fold-roll-GuardKind Aliased Aliased mentions.guard_step (λ x. x.kind) x)
    (fold-roll-GuardKind (Place → List Named) (List Named) guard_step (λ x. x.kind x.place) x)
    (subst (λ (z : GuardKind-F GuardKind GuardExpr). (p : Place) → GuardSays (mentions.guard_step (map-GuardKind GuardKind GuardExpr Aliased Aliased kind_mentions in_guard z)) (guard_step (map-GuardKind GuardKind GuardExpr (Place → List Named) (List Named) kind_names guard_names z) p)) is (layer y)))
    (λ x y is. with_both GuardSays _ _ _ _ (fold-roll-GuardExpr Aliased Aliased mentions.guard_step (λ x. x.kind) x)
    (fold-roll-GuardExpr (Place → List Named) (List Named) guard_step (λ x. x.kind x.place) x)
    (subst (λ (z : g.GuardExpr-F GuardKind GuardExpr). GuardSays (kind_mentions z.kind) (kind_names z.kind z.place)) is (y.kind.1 y.place)))

-- a guard that may be left out
pub condition_says : (x : Option GuardExpr) → Says (in_guard_option x).mentions (in_option guard_names x)
condition_says None = refl
condition_says (Some x) = guard_says x
