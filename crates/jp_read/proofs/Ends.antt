-- The tokens of a text end in its end, and in no other place.
use Rattle.std.proofs.Common.{◌≡◌, ℕ, List, [], ◌∷◌, refl, sym, subst}
use Rattle.std.proofs.lemmas.List.Elements.{recursion_from_All}
use Rattle.std.specs.List.{AllByRecursion}
use Rattle.jp_ast.specs.declared.token.Place.{Place}
use Rattle.jp_ast.specs.declared.token.Token.{Token}
use Rattle.jp_ast.specs.declared.token.Lexeme.{Lexeme}
use Rattle.jp_ast.specs.declared.token.Lexeme.TheVariants.{Word, Number, Text, Sign, End}
use Rattle.jp_lexical.specs.Lexed.{at, EndsOnce}
use Rattle.jp_lexical.specs.Places.{behind}
use Rattle.jp_grammar.specs.declared.kind.Kind.TheVariants as k
use Rattle.jp_grammar.specs.Kinds.{Tokens, kind_of_lexeme}
use Rattle.jp_grammar.specs.Reading.{IsText}
use Rattle.jp_read.proofs.Endings.{Endless, endless_text, word_no_end}

-- what is of the end's kind is the end
end_is : (l : Lexeme) → kind_of_lexeme l ≡ k.End → l ≡ End
end_is (Word word) h = absurd (word_no_end word h)
end_is (Number value hex) h = cc
end_is (Text text) h = cc
end_is (Sign sign) h = cc
end_is End h = refl

endless : (xs : Tokens) → AllByRecursion (λ (t : Token). ¬ (t.lexeme ≡ End)) xs → Endless xs
endless [] all = tt
endless (x ∷ xs) all = (λ h. all.0 (end_is x.lexeme h), endless xs all.1)

pub is_text : (place : Place) (text : List ℕ) (tokens : Tokens) → EndsOnce place text tokens → IsText tokens
is_text place text tokens ends =
    subst (λ (x : Tokens). IsText x) (sym ends.parts) (endless_text ends.front (at (behind place text) End) (endless ends.front (recursion_from_All (λ (t : Token). ¬ (t.lexeme ≡ End)) ends.front ends.others)) refl)
