-- The words behind what is read are words of the tokens that were there: expressions.
use Rattle.std.proofs.Common.{◌≡◌, ℕ, List, [], ◌∷◌, Option}
use Rattle.std.specs.Prelude.{All, IsTrue}
use Rattle.jp_ast.specs.declared.token.Token.{Token}
use Rattle.jp_ast.specs.declared.token.Place.{Place}
use Rattle.jp_ast.specs.declared.token.Lexeme.TheVariants as lexeme
use Rattle.jp_ast.specs.declared.expr.Expr.{Expr}
use Rattle.jp_lexical.specs.Characters.{is_word_byte}
use Rattle.jp_grammar.specs.Kinds.{Tokens}
use Rattle.jp_grammar.specs.Expressions.{Expression, expression, Choices, unconditional, conditional, Alternative, alternative, Level, strongest, weaker, Chain, chain_end, chain_sign, chain_instance, Unary, negation, unary_plain, Plain, inversion, cast, plain_postfix, Postfix, postfix, postfix_array, Steps, steps_end, member, element, Named, uncalled, called, Primary, number, text, truth, falsehood, nothing, receiver, parenthesis, name, super_call, new_object, NewArray, new_array, Closed, closed, Bracketed, bracketed, Args, no_args, some_args, MoreArgs, last_arg, next_arg}

-- letters, digits and `_`
abbrev pub IsWordly : List ℕ → Type 0
IsWordly bytes = All (λ b. IsTrue (is_word_byte b)) bytes

-- each word among the tokens is made of them
pub data AreWordly : Tokens → Type 0 where
  no_tokens : AreWordly []
  one_more : {s : Token} {xs : Tokens} → ((bytes : List ℕ) → s.lexeme ≡ lexeme.Word bytes → IsWordly bytes) → AreWordly xs → AreWordly (s ∷ xs)

pub rest : {s : Token} {xs : Tokens} → AreWordly (s ∷ xs) → AreWordly xs
rest (one_more h w) = w

pub word_is : {s : Token} {xs : Tokens} → AreWordly (s ∷ xs) → (bytes : List ℕ) → s.lexeme ≡ lexeme.Word bytes → IsWordly bytes
word_is (one_more h w) = h

pub two : {s c : Token} {xs : Tokens} → AreWordly (s ∷ c ∷ xs) → AreWordly xs
two w = rest (rest w)

pub three : {s c o : Token} {xs : Tokens} → AreWordly (s ∷ c ∷ o ∷ xs) → AreWordly xs
three w = rest (rest (rest w))

mutual
  pub behind_expression : {xs zs : Tokens} {t : Expr} → Expression xs t zs → AreWordly xs → AreWordly zs
  behind_expression (expression l c) w = behind_choices c (behind_level l w)

  behind_choices : {at : Place} {l t : Expr} {xs zs : Tokens} → Choices at l xs t zs → AreWordly xs → AreWordly zs
  behind_choices unconditional w = w
  behind_choices (conditional h e a) w = behind_alternative a (behind_expression e (rest w))

  behind_alternative : {at : Place} {l a t : Expr} {xs zs : Tokens} → Alternative at l a xs t zs → AreWordly xs → AreWordly zs
  behind_alternative (alternative h e) w = behind_expression e (rest w)

  behind_level : {n : ℕ} {xs zs : Tokens} {t : Expr} → Level n xs t zs → AreWordly xs → AreWordly zs
  behind_level (strongest u) w = behind_unary u w
  behind_level (weaker l c) w = behind_chain c (behind_level l w)

  behind_chain : {at : Place} {n : ℕ} {l t : Expr} {xs zs : Tokens} → Chain at n l xs t zs → AreWordly xs → AreWordly zs
  behind_chain chain_end w = w
  behind_chain (chain_sign h i l c) w = behind_chain c (behind_level l (rest w))
  behind_chain (chain_instance h i j c) w = behind_chain c (two w)

  behind_unary : {xs zs : Tokens} {t : Expr} → Unary xs t zs → AreWordly xs → AreWordly zs
  behind_unary (negation h i u) w = behind_unary u (rest w)
  behind_unary (unary_plain p) w = behind_plain p w

  behind_plain : {xs zs : Tokens} {t : Expr} → Plain xs t zs → AreWordly xs → AreWordly zs
  behind_plain (inversion h i u) w = behind_unary u (rest w)
  behind_plain (cast h i j p) w = behind_plain p (three w)
  behind_plain (plain_postfix p) w = behind_postfix p w

  pub behind_postfix : {xs zs : Tokens} {t : Expr} → Postfix xs t zs → AreWordly xs → AreWordly zs
  behind_postfix (postfix p s) w = behind_steps s (behind_primary p w)
  behind_postfix (postfix_array a h s) w = behind_steps s (behind_array a w)

  behind_steps : {at : Place} {l t : Expr} {xs zs : Tokens} → Steps at l xs t zs → AreWordly xs → AreWordly zs
  behind_steps steps_end w = w
  behind_steps (member h n s) w = behind_steps s (behind_named n (rest w))
  behind_steps (element h b s) w = behind_steps s (behind_bracketed b (rest w))

  behind_named : {at : Place} {o : Option Expr} {t : Expr} {xs zs : Tokens} → Named at o xs t zs → AreWordly xs → AreWordly zs
  behind_named (uncalled h) w = rest w
  behind_named (called h i a) w = behind_args a (two w)

  behind_primary : {xs zs : Tokens} {t : Expr} → Primary xs t zs → AreWordly xs → AreWordly zs
  behind_primary (number h) w = rest w
  behind_primary (text h) w = rest w
  behind_primary (truth h) w = rest w
  behind_primary (falsehood h) w = rest w
  behind_primary (nothing h) w = rest w
  behind_primary (receiver h) w = rest w
  behind_primary (parenthesis h c) w = behind_closed c (rest w)
  behind_primary (name n) w = behind_named n w
  behind_primary (super_call h i j k a) w = behind_args a (two (two w))
  behind_primary (new_object h i j a) w = behind_args a (three w)

  behind_array : {xs zs : Tokens} {t : Expr} → NewArray xs t zs → AreWordly xs → AreWordly zs
  behind_array (new_array h i j b) w = behind_bracketed b (three w)

  behind_closed : {xs zs : Tokens} {t : Expr} → Closed xs t zs → AreWordly xs → AreWordly zs
  behind_closed (closed e h) w = rest (behind_expression e w)

  behind_bracketed : {xs zs : Tokens} {t : Expr} → Bracketed xs t zs → AreWordly xs → AreWordly zs
  behind_bracketed (bracketed e h) w = rest (behind_expression e w)

  pub behind_args : {xs zs : Tokens} {ts : List Expr} → Args xs ts zs → AreWordly xs → AreWordly zs
  behind_args (no_args h) w = rest w
  behind_args (some_args e a) w = behind_more a (behind_expression e w)

  behind_more : {ts us : List Expr} {xs zs : Tokens} → MoreArgs ts xs us zs → AreWordly xs → AreWordly zs
  behind_more (last_arg h) w = rest w
  behind_more (next_arg h e a) w = behind_more a (behind_expression e (rest w))
