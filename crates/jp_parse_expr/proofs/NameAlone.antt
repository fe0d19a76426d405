-- A name that stands alone in parentheses.
use Rattle.std.proofs.Common.{◌≡◌, ℕ, zero, suc, Bool, true, false, IsTrue, List, [], ◌∷◌, ◌++◌, Option, Some, None, refl, sym, ap, ◌∙◌, subst, inl, inr, ◌⊎◌, arith}
use Rattle.jp_ast.specs.declared.token.Place.{Place}
use Rattle.jp_ast.specs.declared.token.Token.{Token}
use Rattle.jp_ast.specs.declared.expr.Expr.{Expr}
use Rattle.jp_ast.specs.declared.sign.TheConstants as sign
use Rattle.jp_grammar.specs.declared.kind.Kind.{Kind}
use Rattle.jp_grammar.specs.declared.kind.Kind.TheVariants as k
use Rattle.jp_grammar.specs.Kinds.{Is, IsSign, IsName, Tokens, place_of, kind_of_token, kind_of_lexeme}
use Rattle.jp_grammar.specs.Trees.{named_at}
use Rattle.jp_grammar.specs.Expressions.{Expression, Choices, Level, Chain, Unary, Plain, Postfix, Primary, Named, NewArray, Steps, expression, unconditional, conditional, strongest, weaker, chain_end, chain_sign, chain_instance, negation, unary_plain, inversion, cast, plain_postfix, postfix, postfix_array, steps_end, member, element, number, text, truth, falsehood, nothing, receiver, parenthesis, name, super_call, new_object, new_array, uncalled, called, binds}
use Rattle.jp_grammar.proofs.Begun.{unary_expression}

pub name_expression : (c : Token) (class : List ℕ) (zs : Tokens) → IsName class c → Expression (c ∷ zs) (named_at c.place None class) zs
name_expression c class zs n = unary_expression (unary_plain (plain_postfix (postfix (name (uncalled n)) steps_end)))

-- behind a name and `)` nothing of the name's expression stands

alone_named : (c p : Token) (ys : Tokens) → IsSign sign.CLOSE_PAREN p → (at : Place) (zs : Tokens) (t : Expr) → Named at None (c ∷ p ∷ ys) t zs → zs ≡ p ∷ ys
alone_named c p ys q at zs t (uncalled m) = refl
alone_named c p ys q at zs t (called m h a) = cc

alone_primary : (c p : Token) (ys : Tokens) → Is k.Name c → IsSign sign.CLOSE_PAREN p → (zs : Tokens) (t : Expr) → Primary (c ∷ p ∷ ys) t zs → zs ≡ p ∷ ys
alone_primary c p ys n q zs t (number h) = let g : k.Number ≡ k.Name = sym (ap kind_of_lexeme h) ∙ n in cc
alone_primary c p ys n q zs t (text h) = let g : k.Text ≡ k.Name = sym (ap kind_of_lexeme h) ∙ n in cc
alone_primary c p ys n q zs t (truth h) = cc
alone_primary c p ys n q zs t (falsehood h) = cc
alone_primary c p ys n q zs t (nothing h) = cc
alone_primary c p ys n q zs t (receiver h) = cc
alone_primary c p ys n q zs t (parenthesis h d) = cc
alone_primary c p ys n q zs t (name m) = alone_named c p ys q c.place zs t m
alone_primary c p ys n q zs t (super_call h d m o a) = cc
alone_primary c p ys n q zs t (new_object h m o a) = cc

module _ (p : Token) (ys : Tokens) (q : IsSign sign.CLOSE_PAREN p) where
  no_steps : (at : Place) (l t : Expr) (xs zs : Tokens) → xs ≡ p ∷ ys → Steps at l xs t zs → zs ≡ p ∷ ys
  no_steps at l t xs zs e steps_end = e
  no_steps at l t xs zs e (member {s = s} h m r) = let same : s ≡ p = cc in let g : k.Sign sign.DOT ≡ k.Sign sign.CLOSE_PAREN = sym h ∙ ap kind_of_token same ∙ q in absurd (let g' : sign.DOT ≡ sign.CLOSE_PAREN = cc in omega (arith, g'))
  no_steps at l t xs zs e (element {s = s} h m r) = let same : s ≡ p = cc in let g : k.Sign sign.OPEN_BRACKET ≡ k.Sign sign.CLOSE_PAREN = sym h ∙ ap kind_of_token same ∙ q in absurd (let g' : sign.OPEN_BRACKET ≡ sign.CLOSE_PAREN = cc in omega (arith, g'))

  no_chain : (at : Place) (m : ℕ) (l t : Expr) (xs zs : Tokens) → xs ≡ p ∷ ys → Chain at m l xs t zs → zs ≡ p ∷ ys
  no_chain at m l t xs zs e chain_end = e
  no_chain at m l t xs zs e (chain_sign {s = s} h i d r) =
      let same : s ≡ p = cc in
      let g : binds (k.Sign sign.CLOSE_PAREN) ≡ Some m = sym (ap binds (ap kind_of_token same ∙ q)) ∙ ap binds h ∙ i in
      cc
  no_chain at m l t xs zs e (chain_instance {s = s} h i d r) = let same : s ≡ p = cc in let g : k.InstanceOf ≡ k.Sign sign.CLOSE_PAREN = sym h ∙ ap kind_of_token same ∙ q in cc

  no_choices : (at : Place) (l t : Expr) (xs zs : Tokens) → xs ≡ p ∷ ys → Choices at l xs t zs → zs ≡ p ∷ ys
  no_choices at l t xs zs e unconditional = e
  no_choices at l t xs zs e (conditional {s = s} h d a) = let same : s ≡ p = cc in let g : k.Sign sign.QUESTION ≡ k.Sign sign.CLOSE_PAREN = sym h ∙ ap kind_of_token same ∙ q in absurd (let g' : sign.QUESTION ≡ sign.CLOSE_PAREN = cc in omega (arith, g'))

alone_postfix : (c p : Token) (ys : Tokens) → Is k.Name c → IsSign sign.CLOSE_PAREN p → (zs : Tokens) (t : Expr) → Postfix (c ∷ p ∷ ys) t zs → zs ≡ p ∷ ys
alone_postfix c p ys n q zs t (postfix {ys = ws} {l = l} d r) = no_steps p ys q c.place l t ws zs (alone_primary c p ys n q ws l d) r
alone_postfix c p ys n q zs t (postfix_array (new_array h e o b) m r) = cc

alone_unary : (c p : Token) (ys : Tokens) → Is k.Name c → IsSign sign.CLOSE_PAREN p → (zs : Tokens) (t : Expr) → Unary (c ∷ p ∷ ys) t zs → zs ≡ p ∷ ys
alone_unary c p ys n q zs t (negation h i u) = cc
alone_unary c p ys n q zs t (unary_plain (inversion h i u)) = cc
alone_unary c p ys n q zs t (unary_plain (cast h m o r)) = cc
alone_unary c p ys n q zs t (unary_plain (plain_postfix d)) = alone_postfix c p ys n q zs t d

module _ (c p : Token) (ys : Tokens) (n : Is k.Name c) (q : IsSign sign.CLOSE_PAREN p) where
  alone_level : {m : ℕ} (zs : Tokens) (t : Expr) → Level m (c ∷ p ∷ ys) t zs → zs ≡ p ∷ ys
  alone_level zs t (strongest u) = alone_unary c p ys n q zs t u
  alone_level zs t (weaker {n = m} {ys = ws} {l = l} d r) = no_chain p ys q c.place m l t ws zs (alone_level ws l d) r

  pub alone_expression : (zs : Tokens) (t : Expr) → Expression (c ∷ p ∷ ys) t zs → zs ≡ p ∷ ys
  alone_expression zs t (expression {ys = ws} {l = l} d r) = no_choices p ys q c.place l t ws zs (alone_level ws l d) r
