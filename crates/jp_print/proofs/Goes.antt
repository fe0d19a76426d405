-- Tokens that are given without their places, and what is read of them.
use Rattle.std.proofs.Common.{◌≡◌, ℕ, Bool, true, false, List, [], ◌∷◌, ◌++◌, map, refl, sym, ap, ◌∙◌, append_assoc, subst}
use Rattle.std.specs.Prelude.{nat_eq}
use Rattle.std.proofs.lemmas.List.{map-append, append-nil}
use Rattle.jp_ast.specs.declared.token.Token.{Token}
use Rattle.jp_ast.specs.declared.token.Lexeme.{Lexeme}
use Rattle.jp_ast.specs.declared.token.Lexeme.TheVariants.{Word, Sign}
use Rattle.jp_ast.specs.declared.sign.TheConstants as sign
use Rattle.jp_grammar.specs.declared.kind.Kind.{Kind}
use Rattle.jp_grammar.specs.declared.kind.Kind.TheVariants as k
use Rattle.jp_grammar.specs.Kinds.{IsSign, Tokens, kind_of_word, kind_of_lexeme}
use Rattle.jp_print.proofs.Forms.{no_sign}
use Rattle.jp_grammar.specs.Expressions.{NoBracket}

-- the tokens xs begin with these, places aside, and go on with zs
pub data Goes : List Lexeme → Tokens → Tokens → Type 0 where
  done : {xs : Tokens} → Goes [] xs xs
  next : {l : Lexeme} {ls : List Lexeme} {s : Token} {xs zs : Tokens} → s.lexeme ≡ l → Goes ls xs zs → Goes (l ∷ ls) (s ∷ xs) zs

-- the tokens between two parts
pub record Parted (first second : List Lexeme) (xs zs : Tokens) : Type 0 where
  pub middle : Tokens
  pub front : Goes first xs middle
  pub back : Goes second middle zs

pub parted : (first second : List Lexeme) {xs zs : Tokens} → Goes (first ++ second) xs zs → Parted first second xs zs
parted [] second g = record { middle = _; front = done; back = g }
parted (l ∷ ls) second (next h g) = let p = parted ls second g in record { middle = p.middle; front = next h p.front; back = p.back }

-- the production reads a tree from xs that is t, places aside, and leaves zs
pub record Reading {T : Type 0} (R : Tokens → T → Tokens → Type 0) (bare : T → T) (xs : Tokens) (t : T) (zs : Tokens) : Type 0 where
  pub tree : T
  pub reads : R xs tree zs
  pub same : bare tree ≡ bare t

-- behind some trees a further one was read, which is the first of those that are left
pub pushed : {T : Type 0} (bare : T → T) (begun : List T) (u t : T) (ts : List T) → bare u ≡ bare t →
    map bare ((begun ++ u ∷ []) ++ ts) ≡ map bare (begun ++ t ∷ ts)
pushed bare begun u t ts e =
    ap (map bare) (append_assoc begun (u ∷ []) ts) ∙ map-append bare begun (u ∷ ts)
    ∙ ap (λ x. map bare begun ++ x ∷ map bare ts) e ∙ sym (map-append bare begun (t ∷ ts))

-- nothing is left
pub all_pushed : {T : Type 0} (bare : T → T) (begun : List T) → map bare begun ≡ map bare (begun ++ [])
all_pushed bare begun = ap (map bare) (sym (append-nil begun))

-- the token isn't `[`
pub no_bracket : (l : Lexeme) (s : Token) → s.lexeme ≡ l → (kind_of_lexeme l ≡ k.Sign sign.OPEN_BRACKET → ⊥) → IsSign sign.OPEN_BRACKET s → ⊥
no_bracket l s h other b = other (sym (ap kind_of_lexeme h) ∙ b)

pub other_sign : (n : ℕ) (s : Token) → s.lexeme ≡ Sign n → nat_eq n sign.OPEN_BRACKET ≡ false → IsSign sign.OPEN_BRACKET s → ⊥
other_sign n s h e b =
    let g : k.Sign sign.OPEN_BRACKET ≡ k.Sign n = sym b ∙ ap kind_of_lexeme h in
    let same : n ≡ sign.OPEN_BRACKET = cc in
    let f : nat_eq sign.OPEN_BRACKET sign.OPEN_BRACKET ≡ false = subst (λ (x : ℕ). nat_eq x sign.OPEN_BRACKET ≡ false) same e in cc

pub other_word : (word : List ℕ) (kind : Kind) (s : Token) → s.lexeme ≡ Word word → kind_of_word word ≡ kind → no_sign kind ≡ true → IsSign sign.OPEN_BRACKET s → ⊥
other_word word kind s h e t b =
    let g : kind ≡ k.Sign sign.OPEN_BRACKET = sym e ∙ sym (ap kind_of_lexeme h) ∙ b in
    let f : no_sign (k.Sign sign.OPEN_BRACKET) ≡ true = subst (λ (x : Kind). no_sign x ≡ true) g t in cc

pub unbracketed : {l : Lexeme} {ls : List Lexeme} {xs zs : Tokens} → Goes (l ∷ ls) xs zs → (kind_of_lexeme l ≡ k.Sign sign.OPEN_BRACKET → ⊥) → NoBracket xs
unbracketed {l = l} (next {s = s} h g) other = no_bracket l s h other
