-- Arguments, one after the other.
use Rattle.std.proofs.Common.{◌≡◌, List, [], ◌∷◌, ◌++◌, map, Option, refl, ap}
use Rattle.jp_meaning.specs.declared.expr.TypedExpr.{TypedExpr}
use Rattle.type_rules.specs.declared.seen.Seen.{Seen}
use Rattle.type_rules.specs.Expressions.{with_argument, arguments}

pub argument_more : (so_far : Option (List TypedExpr)) (xs : List Seen) (x : Seen) → arguments so_far (xs ++ x ∷ []) ≡ with_argument (arguments so_far xs) x
argument_more so_far [] x = refl
argument_more so_far (y ∷ xs) x = argument_more (with_argument so_far y) xs x

pub map_itself : {A : Type 0} (xs : List A) → map (λ x. x) xs ≡ xs
map_itself [] = refl
map_itself (x ∷ xs) = ap (λ ys. x ∷ ys) (map_itself xs)
