-- Tokens that were written one behind the other.
use Rattle.std.proofs.Common.{◌≡◌, ℕ, List, ◌++◌, sym, ap, ◌∙◌, append_assoc}
use Rattle.std.specs.Prelude.{flat_map}
use Rattle.std.proofs.lemmas.Grind.{flat_map-append}
use Rattle.jp_ast.specs.declared.token.Lexeme.{Lexeme}
use Rattle.jp_print.specs.Layout.{with_gap, laid_out}

pub joined : (before middle after : List ℕ) (xs ys : List Lexeme) → middle ≡ before ++ laid_out xs → after ≡ middle ++ laid_out ys → after ≡ before ++ laid_out (xs ++ ys)
joined before middle after xs ys e f =
    f ∙ ap (λ out. out ++ laid_out ys) e ∙ append_assoc before (laid_out xs) (laid_out ys) ∙ ap (λ text. before ++ text) (sym (flat_map-append with_gap xs ys))
