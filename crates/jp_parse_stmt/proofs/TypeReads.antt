-- Types.
use Rattle.std.proofs.Common.{◌≡◌, not, IsTrue, [], ◌∷◌, Option, Some, None, refl, sym, ap, ◌∙◌, subst, inl, inr}
use Rattle.jp_pred.specs.declared.ty.Ty.{Ty}
use Rattle.jp_pred.specs.declared.ty.Ty.TheVariants as ty
use Rattle.jp_ast.specs.declared.token.Token.{Token}
use Rattle.jp_ast.specs.declared.token.Lexeme.{Lexeme}
use Rattle.jp_ast.specs.declared.token.Lexeme.TheVariants as lexeme
use Rattle.jp_ast.specs.declared.sign.TheConstants as sign
use Rattle.jp_grammar.specs.declared.kind.Kind.{Kind}
use Rattle.jp_grammar.specs.declared.kind.Kind.TheVariants as k
use Rattle.jp_grammar.specs.declared.fault.ParseFault.{ParseFault}
use Rattle.jp_grammar.specs.Kinds.{IsSign, Tokens, kind_of_token, is_sign_kind}
use Rattle.jp_grammar.specs.Expressions.{IsElement}
use Rattle.jp_grammar.specs.Statements.{OneType, element_type, array_type, array_of}
use Rattle.jp_grammar.specs.Reading.{Ends, Any, Follows, Found, Fails, Takes, Lacks}
use Rattle.jp_grammar.proofs.Outcome.{fails_at}
use Rattle.jp_grammar.proofs.Samples.{a_name, a_name_is, a_sign}
use Rattle.jp_parse_stmt.specs.Behind.{ends_type}
use Rattle.jp_parse_stmt.specs.Parts.{RefusedElement}

-- the type that a token is by its kind and lexeme
abbrev elem_of : Kind → Lexeme → Option Ty
elem_of k.Int l = Some ty.Int
elem_of k.Boolean l = Some ty.Boolean
elem_of k.Name (lexeme.Word w) = Some (ty.Class w)
elem_of _ _ = None

elem_is : (t : Ty) (s : Token) → IsElement t s → elem_of (kind_of_token s) s.lexeme ≡ Some t
elem_is ty.Int s h = ap (λ x. elem_of x s.lexeme) h
elem_is ty.Boolean s h = ap (λ x. elem_of x s.lexeme) h
elem_is (ty.Class class) s h = ap (λ x. elem_of x s.lexeme) h.1 ∙ ap (λ l. elem_of k.Name l) h.0
elem_is _ s h = absurd h

-- a token is one type at most
pub element_same : (t u : Ty) (s : Token) → IsElement t s → IsElement u s → u ≡ t
element_same t u s h i = let e : Some u ≡ Some t = sym (elem_is u s i) ∙ elem_is t s h in cc

no_bracket : (o : Token) → IsTrue (ends_type o) → IsSign sign.OPEN_BRACKET o → ⊥
no_bracket o e h = let g : IsTrue (not (is_sign_kind sign.OPEN_BRACKET (k.Sign sign.OPEN_BRACKET))) = subst (λ (x : Kind). IsTrue (not (is_sign_kind sign.OPEN_BRACKET x))) h e in cc

wrong_never : (s : Token) (more zs : Tokens) (t : Ty) → ((u : Ty) → IsElement u s → ⊥) → OneType (s ∷ more) t zs → ⊥
wrong_never s more zs t other (element_type {elem = u} i) = other u i
wrong_never s more zs t other (array_type u i o p) = other u i

-- no type stands there
pub type_wrong : (s : Token) (xs tokens : Tokens) (e : ParseFault) → tokens ≡ s ∷ xs → RefusedElement s e → Fails OneType (λ _. ends_type) ends_type Any tokens e
type_wrong s xs tokens e split (inl m) = inl m
type_wrong s xs tokens e split (inr r) =
    subst (λ (x : Tokens). Fails OneType (λ _. ends_type) ends_type Any x e) (sym split)
    (fails_at OneType ends_type Any [] s xs e r.1
    (λ zs e'. (a_name ∷ [], ty.Class (97 ∷ []), element_type a_name_is, e', tt))
    (λ more zs t r' e' q. wrong_never s more zs t r.0 r'))

module _ (t : Ty) (s n : Token) (xs rest tokens : Tokens) (split : tokens ≡ s ∷ rest) (next : rest ≡ n ∷ xs) (h : IsElement t s) where
  whole : tokens ≡ s ∷ n ∷ xs
  whole = split ∙ ap (λ (x : Tokens). s ∷ x) next

  alone_only : (ys zs : Tokens) (u : Ty) → (IsSign sign.OPEN_BRACKET n → ⊥) → Follows ends_type (n ∷ xs) ys → OneType (s ∷ ys) u zs → (u ≡ t) × (zs ≡ ys)
  alone_only ys zs u other f (element_type i) = (element_same t u s h i, refl)
  alone_only ys zs u other (inl e) (array_type {o = o} elem i j p) = absurd (no_bracket o e j)
  alone_only ys zs u other (inr same) (array_type {o = o} elem i j p) = absurd (other (subst (λ (x : Token). IsSign sign.OPEN_BRACKET x) same j))

  -- a type of one token
  pub type_alone : (IsSign sign.OPEN_BRACKET n → ⊥) → Found OneType (λ _. ends_type) tokens t rest
  type_alone other =
      let f : Found OneType (λ _. ends_type) (s ∷ n ∷ xs) t (n ∷ xs) = record {
        front = s ∷ [];
        split = refl;
        reads = λ ys g. element_type h;
        only = λ ys zs u g r e. alone_only ys zs u other g r;
      } in
      subst (λ (y : Tokens). Found OneType (λ _. ends_type) tokens t y) (sym next) (subst (λ (x : Tokens). Found OneType (λ _. ends_type) x t (n ∷ xs)) (sym whole) f)

  array_never : (p : Token) (more zs : Tokens) (u : Ty) → IsSign sign.OPEN_BRACKET n → (IsSign sign.CLOSE_BRACKET p → ⊥) → OneType (s ∷ n ∷ p ∷ more) u zs → Ends ends_type zs → ⊥
  array_never p more zs u begun other (element_type i) e = no_bracket n e begun
  array_never p more zs u begun other (array_type elem i j q) e = other q

  -- `[` without `]`
  pub array_wrong : (e : ParseFault) → IsSign sign.OPEN_BRACKET n → Lacks sign.CLOSE_BRACKET xs e → Fails OneType (λ _. ends_type) ends_type Any tokens e
  array_wrong e begun l =
      subst (λ (x : Tokens). Fails OneType (λ _. ends_type) ends_type Any x e) (sym (whole ∙ ap (λ (x : Tokens). s ∷ n ∷ x) l.split))
      (fails_at OneType ends_type Any (s ∷ n ∷ []) l.first l.rest e l.refused
      (λ zs e'. (a_sign sign.CLOSE_BRACKET ∷ [], array_of t, array_type t h begun refl, e', tt))
      (λ more zs u r e' q. array_never l.first more zs u begun l.other r e'))

  array_only : (p : Token) (ys zs : Tokens) (u : Ty) → IsSign sign.OPEN_BRACKET n → OneType (s ∷ n ∷ p ∷ ys) u zs → Ends ends_type zs → (u ≡ array_of t) × (zs ≡ ys)
  array_only p ys zs u begun (element_type i) e = absurd (no_bracket n e begun)
  array_only p ys zs u begun (array_type elem i j q) e = (ap array_of (element_same t elem s h i), refl)

  -- a type of arrays
  pub array_found : (zs : Tokens) → IsSign sign.OPEN_BRACKET n → Takes sign.CLOSE_BRACKET xs zs → Found OneType (λ _. ends_type) tokens (array_of t) zs
  array_found zs begun l =
      let f : Found OneType (λ _. ends_type) (s ∷ n ∷ l.first ∷ zs) (array_of t) zs = record {
        front = s ∷ n ∷ l.first ∷ [];
        split = refl;
        reads = λ ys g. array_type t h begun l.sign_is;
        only = λ ys zs' u g r e. array_only l.first ys zs' u begun r e;
      } in
      subst (λ (x : Tokens). Found OneType (λ _. ends_type) x (array_of t) zs) (sym (whole ∙ ap (λ (x : Tokens). s ∷ n ∷ x) l.split)) f
