-- Primaries of one token.
use Rattle.std.proofs.Common.{◌≡◌, ℕ, ◌+◌, ◌<◌, ◌≤◌, Bool, true, false, IsTrue, List, [], ◌∷◌, ◌++◌, Option, Some, None, Result, Ok, Err, refl, sym, ap, ◌∙◌, subst, inl, inr, ◌⊎◌, arith}
use Rattle.jp_ast.specs.declared.token.Place.{Place}
use Rattle.jp_ast.specs.declared.token.Token.{Token}
use Rattle.jp_ast.specs.declared.token.Lexeme.{Lexeme}
use Rattle.jp_ast.specs.declared.token.Lexeme.TheVariants as lexeme
use Rattle.jp_ast.specs.declared.expr.Expr.{Expr}
use Rattle.jp_ast.specs.declared.sign.TheConstants as sign
use Rattle.jp_grammar.specs.declared.kind.Kind.{Kind}
use Rattle.jp_grammar.specs.declared.kind.Kind.TheVariants as k
use Rattle.jp_grammar.specs.declared.fault.ParseFault.{ParseFault}
use Rattle.jp_grammar.specs.Kinds.{Is, IsSign, IsName, Tokens, nowhere, kind_of_token, kind_of_lexeme, kind_of_word}
use Rattle.jp_grammar.specs.Trees.{number_at, text_at, truth_at, null_at, this_at}
use Rattle.jp_grammar.specs.Expressions.{Primary, Named, number, text, truth, falsehood, nothing, receiver, parenthesis, name, uncalled, called, super_call, new_object}
use Rattle.jp_grammar.specs.Reading.{Ends, Any, Found, FailsWithin, Refused}
use Rattle.jp_grammar.specs.Behind.{ends_primary}
use Rattle.jp_grammar.specs.Depth.{depth}
use Rattle.jp_grammar.proofs.Outcome.{fails_at}
use Rattle.jp_grammar.proofs.Depths.{depth_number, depth_text, depth_truth, depth_null, depth_this}
use Rattle.jp_grammar.proofs.Samples.{a_number, zero_expr}
use Rattle.jp_parse_expr.specs.Literals.{constant_at, literal_at, literal_of, RefusedAs, Single}

pub constant_literal : (at : Place) (l : Lexeme) (kind : Kind) (t : Expr) → kind_of_lexeme l ≡ kind → constant_at at kind ≡ Some t → literal_at at l ≡ Some t
constant_literal at (lexeme.Word word) kind t h e = ap (constant_at at) h ∙ e
constant_literal at (lexeme.Number value hex) kind t h e = let g : constant_at at k.Number ≡ Some t = ap (constant_at at) h ∙ e in cc
constant_literal at (lexeme.Text bytes) kind t h e = let g : constant_at at k.Text ≡ Some t = ap (constant_at at) h ∙ e in cc
constant_literal at (lexeme.Sign n) kind t h e = let g : constant_at at (k.Sign n) ≡ Some t = ap (constant_at at) h ∙ e in cc
constant_literal at lexeme.End kind t h e = let g : constant_at at k.End ≡ Some t = ap (constant_at at) h ∙ e in cc

pub constant_none : (at : Place) (l : Lexeme) → ((value : ℕ) (hex : Bool) → l ≡ lexeme.Number value hex → ⊥) → ((bytes : List ℕ) → l ≡ lexeme.Text bytes → ⊥) → literal_at at l ≡ constant_at at (kind_of_lexeme l)
constant_none at (lexeme.Word word) n t = refl
constant_none at (lexeme.Number value hex) n t = absurd (n value hex refl)
constant_none at (lexeme.Text bytes) n t = absurd (t bytes refl)
constant_none at (lexeme.Sign b) n t = refl
constant_none at lexeme.End n t = refl

named_name : {at : Place} {o : Option Expr} {s : Token} {ys zs : Tokens} {t : Expr} → Named at o (s ∷ ys) t zs → Is k.Name s
named_name (uncalled n) = n.1
named_name (called n h a) = n.1

primary_literal : (s : Token) (ys zs : Tokens) (t : Expr) → Single s → Primary (s ∷ ys) t zs → (literal_of s ≡ Some t) × (zs ≡ ys)
primary_literal s ys zs t single (number h) = (ap (literal_at s.place) h, refl)
primary_literal s ys zs t single (text h) = (ap (literal_at s.place) h, refl)
primary_literal s ys zs t single (truth h) = (constant_literal s.place s.lexeme k.True _ h refl, refl)
primary_literal s ys zs t single (falsehood h) = (constant_literal s.place s.lexeme k.False _ h refl, refl)
primary_literal s ys zs t single (nothing h) = (constant_literal s.place s.lexeme k.Null _ h refl, refl)
primary_literal s ys zs t single (receiver h) = (constant_literal s.place s.lexeme k.This _ h refl, refl)
primary_literal s ys zs t single (parenthesis h c) = absurd (single.no_paren h)
primary_literal s ys zs t single (name n) = absurd (single.no_name (named_name n))
primary_literal s ys zs t single (super_call h d n o a) = absurd (single.no_super h)
primary_literal s ys zs t single (new_object h n o a) = absurd (single.no_new h)

constant_reads : (s : Token) (kind : Kind) (t : Expr) (zs : Tokens) → kind_of_token s ≡ kind → constant_at s.place kind ≡ Some t → Primary (s ∷ zs) t zs
constant_reads s k.True t zs h e = let same : t ≡ truth_at s.place true = cc in subst (λ (x : Expr). Primary (s ∷ zs) x zs) (sym same) (truth h)
constant_reads s k.False t zs h e = let same : t ≡ truth_at s.place false = cc in subst (λ (x : Expr). Primary (s ∷ zs) x zs) (sym same) (falsehood h)
constant_reads s k.Null t zs h e = let same : t ≡ null_at s.place = cc in subst (λ (x : Expr). Primary (s ∷ zs) x zs) (sym same) (nothing h)
constant_reads s k.This t zs h e = let same : t ≡ this_at s.place = cc in subst (λ (x : Expr). Primary (s ∷ zs) x zs) (sym same) (receiver h)
constant_reads s _ t zs h e = cc

literal_reads : (s : Token) (l : Lexeme) (t : Expr) (zs : Tokens) → s.lexeme ≡ l → literal_at s.place l ≡ Some t → Primary (s ∷ zs) t zs
literal_reads s (lexeme.Word word) t zs h e = constant_reads s (kind_of_word word) t zs (ap kind_of_lexeme h) e
literal_reads s (lexeme.Number value hex) t zs h e = let same : t ≡ number_at s.place value hex = cc in subst (λ (x : Expr). Primary (s ∷ zs) x zs) (sym same) (number h)
literal_reads s (lexeme.Text bytes) t zs h e = let same : t ≡ text_at s.place bytes = cc in subst (λ (x : Expr). Primary (s ∷ zs) x zs) (sym same) (text h)
literal_reads s (lexeme.Sign n) t zs h e = cc
literal_reads s lexeme.End t zs h e = cc

constant_depth : (at : Place) (kind : Kind) (t : Expr) → constant_at at kind ≡ Some t → depth t ≡ 1
constant_depth at k.True t e = let same : t ≡ truth_at at true = cc in ap depth same ∙ depth_truth at true
constant_depth at k.False t e = let same : t ≡ truth_at at false = cc in ap depth same ∙ depth_truth at false
constant_depth at k.Null t e = let same : t ≡ null_at at = cc in ap depth same ∙ depth_null at
constant_depth at k.This t e = let same : t ≡ this_at at = cc in ap depth same ∙ depth_this at
constant_depth at _ t e = cc

-- a literal has no parts
pub literal_depth : (at : Place) (l : Lexeme) (t : Expr) → literal_at at l ≡ Some t → depth t ≡ 1
literal_depth at (lexeme.Word word) t e = constant_depth at (kind_of_word word) t e
literal_depth at (lexeme.Number value hex) t e = let same : t ≡ number_at at value hex = cc in ap depth same ∙ depth_number at value hex
literal_depth at (lexeme.Text bytes) t e = let same : t ≡ text_at at bytes = cc in ap depth same ∙ depth_text at bytes
literal_depth at (lexeme.Sign n) t e = cc
literal_depth at lexeme.End t e = cc

some_same : {t u : Expr} {o : Option Expr} → o ≡ Some t → o ≡ Some u → u ≡ t
some_same h i = cc

none_some : {t : Expr} {o : Option Expr} → o ≡ None → o ≡ Some t → ⊥
none_some h i = cc

pub literal_found : (s : Token) (xs : Tokens) (t : Expr) → Single s → literal_of s ≡ Some t → Found Primary (λ _. ends_primary) (s ∷ xs) t xs
literal_found s xs t single e = record {
  front = s ∷ [];
  split = refl;
  reads = λ ys f. literal_reads s s.lexeme t ys refl e;
  only = λ ys zs u f r e'. let l = primary_literal s ys zs u single r in (some_same e l.0, l.1);
}

-- no primary stands there
pub literal_wrong : (most : ℕ) (s : Token) (xs : Tokens) (e : ParseFault) → Single s → 1 ≤ most → RefusedAs (literal_of s) s e → FailsWithin Primary depth ends_primary most (s ∷ xs) e
literal_wrong most s xs e single room (inl m) = inl m
literal_wrong most s xs e single room (inr r) = fails_at Primary ends_primary (λ t. depth t ≤ most) [] s xs e r.1
    (λ zs e'. (a_number ∷ [], zero_expr, number refl, e', let d = depth_number nowhere 0 false in omega (arith, d)))
    (λ more zs t r' e' q. none_some r.0 (primary_literal s more zs t single r').0)

-- the end is no literal
pub literal_no_end : (at : Place) (l : Lexeme) (t : Expr) → literal_at at l ≡ Some t → kind_of_lexeme l ≡ k.End → ⊥
literal_no_end at (lexeme.Word word) t e h = let g : constant_at at k.End ≡ Some t = sym (ap (constant_at at) h) ∙ e in cc
literal_no_end at (lexeme.Number value hex) t e h = cc
literal_no_end at (lexeme.Text bytes) t e h = cc
literal_no_end at (lexeme.Sign n) t e h = cc
literal_no_end at lexeme.End t e h = cc
