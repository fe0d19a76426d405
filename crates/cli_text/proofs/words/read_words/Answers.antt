use Rattle.std.proofs.Common.{rules, arith, ◌≡◌, ap, ◌∙◌, List, [], ◌∷◌, ℕ, map, length, get_or, string_bytes}
use Rattle.std.proofs.lemmas.List.{length-map}
use Rattle.std.specs.Prelude.{codes}
use Rattle.std.proofs.lemmas.Bool.{ltb-true, ltb-false}
use Rattle.cli_text.specs.Words.{Request, Go, IsRequest}
use Rattle.cli_text.proofs.words.read_words.Goals as goal
use Rattle.cli_text.proofs.words.read_words.Goals.{in_default-via-then-words-lt3, in_default-via-else-words-lt3+else-words-lt4}

three : {A : Type 0} (xs : List A) (a b c : A) → length xs ≡ 3 → a ≡ get_or xs 0 a → b ≡ get_or xs 1 b → c ≡ get_or xs 2 c → xs ≡ a ∷ b ∷ c ∷ []
three [] a b c len p q r = absurd (omega (arith, len))
three (x ∷ []) a b c len p q r = absurd (omega (arith, len))
three (x ∷ y ∷ []) a b c len p q r = absurd (omega (arith, len))
three (x ∷ y ∷ z ∷ []) a b c len p q r = cc
three (x ∷ y ∷ z ∷ w ∷ ws) a b c len p q r = absurd (omega (arith, len))

pub returns-then-is_unit_name-clause-found : goal.returns-then-is_unit_name-clause-found
returns-then-is_unit_name-clause-found c =
    let go : c.as_str.result.now ≡ codes "go" = search rules in
    let words = three c.args.words.now c.command-item.result c.main-item.result c.unit-item.result (omega arith) c.command-item.is c.main-item.is c.unit-item.is in
    (ap (map string_bytes) words ∙ cc, search rules, search rules)

not_three : (words : List (List ℕ)) (request : Request) → IsRequest words request → length words ≡ 3
not_three words (Go main unit) asked = ap length asked.0

pub returns-in_default-clause-none : goal.returns-in_default-clause-none
returns-in_default-clause-none c = λ request asked.
    let len = length-map c.args.words.now string_bytes in
    let three' = not_three _ request asked in
    elim c.in_default.branch [
      | in_default-via-then-words-lt3 w ↦ absurd (omega (arith, ltb-true))
      | in_default-via-else-words-lt3+else-words-lt4 w ↦ absurd (omega (arith, ltb-false))
    ]
