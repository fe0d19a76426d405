-- A list of tokens has at most one fault, and none where it is a unit.
use Rattle.std.proofs.Common.{◌≡◌, ◌⊎◌, ℕ, List, [], ◌∷◌, ◌++◌, append_assoc, refl, sym, ap, ◌∙◌, subst, inl, inr}
use Rattle.jp_ast.specs.declared.token.Place.{Place}
use Rattle.jp_ast.specs.declared.token.Token.{Token}
use Rattle.jp_ast.specs.declared.token.Lexeme.TheVariants as lexeme
use Rattle.jp_ast.specs.declared.decl.SourceUnit.{SourceUnit}
use Rattle.jp_grammar.specs.Kinds.{Tokens}
use Rattle.jp_grammar.specs.Faults.{Parsed, IsFault, IsFirstFault, Says}
use Rattle.jp_read.specs.declared.fault.SyntaxKind.{SyntaxKind}
use Rattle.jp_read.specs.declared.fault.SyntaxKind.TheVariants.{Unexpected, Outside, TooDeep}
use Rattle.jp_read.specs.Faults.{syntax_at, told}

-- the fault stands at a first token with which nothing goes on
pub record Stands (xs : Tokens) (place : Place) (kind : SyntaxKind) : Type 0 where
  pub front : Tokens
  pub next : Token
  pub first : IsFirstFault xs front next
  pub says : Says (told place kind) front next

pub stands : (xs : Tokens) (place : Place) (kind : SyntaxKind) → IsFault xs (told place kind) → Stands xs place kind
stands xs place Unexpected f = record { front = f.0; next = f.1; first = f.2; says = f.3 }
stands xs place (Outside word) f = record { front = f.0; next = f.1; first = f.2; says = f.3 }
stands xs place TooDeep f = record { front = f.0; next = f.1; first = f.2; says = f.3 }

-- tokens with a fault are no unit
pub fault_no_unit : (xs : Tokens) (place : Place) (kind : SyntaxKind) → IsFault xs (told place kind) → (u : SourceUnit) → Parsed xs u → ⊥
fault_no_unit xs place kind f u p =
    let s = stands xs place kind f in
    s.first.never s.first.more u (subst (λ (x : Tokens). Parsed x u) s.first.split p)

-- one of the fronts is longer
pub record IsLonger (front : Tokens) (next : Token) (longer : Tokens) : Type 0 where
  pub between : Tokens
  pub parts : longer ≡ front ++ next ∷ between

pub record AreSame (front : Tokens) (next : Token) (front' : Tokens) (next' : Token) : Type 0 where
  pub fronts : front ≡ front'
  pub nexts : next ≡ next'

-- two fronts of the same tokens are the same, or one is longer
two_fronts : (front : Tokens) (next : Token) (more front' : Tokens) (next' : Token) (more' : Tokens) → front ++ next ∷ more ≡ front' ++ next' ∷ more' →
    AreSame front next front' next' ⊎ (IsLonger front next front' ⊎ IsLonger front' next' front)
two_fronts [] next more [] next' more' e = inl (record { fronts = refl; nexts = cc })
two_fronts [] next more (x ∷ front') next' more' e = inr (inl (record { between = front'; parts = cc }))
two_fronts (x ∷ front) next more [] next' more' e = inr (inr (record { between = front; parts = cc }))
two_fronts (x ∷ front) next more (x' ∷ front') next' more' e =
    let head : x ≡ x' = cc in
    let tail : front ++ next ∷ more ≡ front' ++ next' ∷ more' = cc in
    elim (two_fronts front next more front' next' more' tail) [
      | inl s ↦ inl (record { fronts = cc; nexts = s.nexts })
      | inr (inl l) ↦ inr (inl (record { between = l.between; parts = cc }))
      | inr (inr l) ↦ inr (inr (record { between = l.between; parts = cc }))
    ]

-- a unit goes on with no front that has a fault
no_longer : (xs front longer : Tokens) (next next' : Token) → IsFirstFault xs front next → IsFirstFault xs longer next' → IsLonger front next longer → ⊥
no_longer xs front longer next next' f f' l =
    let v = f'.viable in
    let p : Parsed ((front ++ next ∷ l.between) ++ v.0) v.1 = subst (λ (x : Tokens). Parsed (x ++ v.0) v.1) l.parts v.2 in
    f.never (l.between ++ v.0) v.1 (subst (λ (x : Tokens). Parsed x v.1) (append_assoc front (next ∷ l.between) v.0) p)

-- what is said of one token is one fault
one_says : (front : Tokens) (next : Token) (place place' : Place) (kind kind' : SyntaxKind) → Says (told place kind) front next → Says (told place' kind') front next →
    syntax_at place kind ≡ syntax_at place' kind'
one_says front next place place' Unexpected Unexpected s s' = ap (λ (p : Place). syntax_at p Unexpected) (s.0 ∙ sym s'.0)
one_says front next place place' Unexpected (Outside word) s s' = absurd (s.2 s'.2)
one_says front next place place' Unexpected TooDeep s s' = absurd (s.1 s'.1.0 s'.1.1 s'.1.2)
one_says front next place place' (Outside word) Unexpected s s' = absurd (s'.2 s.2)
one_says front next place place' (Outside word) (Outside word') s s' =
    let places : place ≡ place' = s.0 ∙ sym s'.0 in
    let same : lexeme.Word word ≡ lexeme.Word word' = sym s.3 ∙ s'.3 in
    let words : word ≡ word' = cc in
    ap (λ (p : Place). syntax_at p (Outside word)) places ∙ ap (λ (w : List ℕ). syntax_at place' (Outside w)) words
one_says front next place place' (Outside word) TooDeep s s' = absurd (s.1 s'.1.0 s'.1.1 s'.1.2)
one_says front next place place' TooDeep Unexpected s s' = absurd (s'.1 s.1.0 s.1.1 s.1.2)
one_says front next place place' TooDeep (Outside word) s s' = absurd (s'.1 s.1.0 s.1.1 s.1.2)
one_says front next place place' TooDeep TooDeep s s' = ap (λ (p : Place). syntax_at p TooDeep) (s.0 ∙ sym s'.0)

-- tokens have one fault
pub one_fault : (xs : Tokens) (place place' : Place) (kind kind' : SyntaxKind) → IsFault xs (told place kind) → IsFault xs (told place' kind') →
    syntax_at place kind ≡ syntax_at place' kind'
one_fault xs place place' kind kind' f f' =
    let s = stands xs place kind f in
    let s' = stands xs place' kind' f' in
    elim (two_fronts s.front s.next s.first.more s'.front s'.next s'.first.more (sym s.first.split ∙ s'.first.split)) [
      | inl same ↦
          let moved : Says (told place kind) s'.front s.next = subst (λ (x : Tokens). Says (told place kind) x s.next) same.fronts s.says in
          let moved' : Says (told place kind) s'.front s'.next = subst (λ (t : Token). Says (told place kind) s'.front t) same.nexts moved in
          one_says s'.front s'.next place place' kind kind' moved' s'.says
      | inr (inl l) ↦ absurd (no_longer xs s.front s'.front s.next s'.next s.first s'.first l)
      | inr (inr l) ↦ absurd (no_longer xs s'.front s.front s'.next s.next s'.first s.first l)
    ]
