-- A text has one list of tokens or one first fault.
use Rattle.std.proofs.Common.{◌≡◌, ◌⊎◌, ℕ, ◌<◌, List, [], ◌∷◌, ◌++◌, length, get_or, take, drop, append_assoc, Option, Some, None, Ok, Err, refl, sym, ap, subst, ◌∙◌, arith, inl, inr}
use Rattle.std.proofs.lemmas.List.{length-append, take_at, drop_at}
use Rattle.std.proofs.lemmas.List.Elements.{recursion_from_All, All-from_recursion}
use Rattle.std.specs.Prelude.{All}
use Rattle.jp_ast.specs.declared.token.Place.{Place}
use Rattle.jp_ast.specs.declared.token.Lexeme.{Lexeme}
use Rattle.jp_ast.specs.declared.token.Lexeme.TheVariants.{End}
use Rattle.jp_ast.specs.declared.token.Token.{Token}
use Rattle.jp_lexical.specs.declared.fault.LexKind.{LexKind}
use Rattle.jp_lexical.specs.declared.fault.LexFault.{LexFault}
use Rattle.jp_lexical.specs.Places.{behind_byte, behind}
use Rattle.jp_lexical.specs.Tokens.{IsToken}
use Rattle.jp_lexical.specs.Lexed.{at, LexedFrom, EndsOnce, end, gap, token, IsStuck, kind_of, FaultFrom, here, behind_gap, behind_token}
use Rattle.jp_lexer.specs.declared.front.Form.{Form}
use Rattle.jp_lexer.specs.Scanning.{front_of, lexeme_of, tokens_at}
use Rattle.jp_lexer.proofs.FrontLemmas.{Begins, Splits, Holds, front_holds}
use Rattle.jp_lexer.proofs.Complete.{front_complete, same_piece}

-- the first piece, and the tokens behind it
pub record FirstPiece (place : Place) (text : List ℕ) (tokens : List Token) : Type 0 where
  pub l : Option Lexeme
  pub bytes : List ℕ
  pub rest : List ℕ
  pub later : List Token
  pub parts : text ≡ bytes ++ rest
  pub begins : Begins l bytes rest
  pub lexed : LexedFrom (behind place bytes) rest later
  pub all : tokens ≡ tokens_at place l ++ later

lexed_view : {place : Place} {text : List ℕ} {tokens : List Token} → LexedFrom place text tokens → ((text ≡ []) × (tokens ≡ at place End ∷ [])) ⊎ FirstPiece place text tokens
lexed_view end = inl (refl, refl)
lexed_view (gap {bytes = bytes} {rest = rest} {tokens = tokens} e g r) = inr (record { l = None; bytes = bytes; rest = rest; later = tokens; parts = e; begins = g; lexed = r; all = refl })
lexed_view (token {bytes = bytes} {rest = rest} {lexeme = lexeme} {tokens = tokens} e t r) = inr (record { l = Some lexeme; bytes = bytes; rest = rest; later = tokens; parts = e; begins = t; lexed = r; all = refl })

-- a piece has a byte
pub piece_some : (l : Option Lexeme) (bytes rest text : List ℕ) → Begins l bytes rest → text ≡ bytes ++ rest → text ≡ [] → ⊥
piece_some l bytes rest text b e nil =
    let f = front_complete l bytes rest b in
    omega (arith, f.some, length-append bytes rest, ap length (sym e ∙ nil))

moved_lexed : (place : Place) (bytes rest bytes' rest' : List ℕ) (tokens : List Token) → bytes ≡ bytes' → rest ≡ rest' → LexedFrom (behind place bytes') rest' tokens → LexedFrom (behind place bytes) rest tokens
moved_lexed place bytes rest bytes' rest' tokens e f r =
    subst (λ (x : List ℕ). LexedFrom (behind place x) rest tokens) (sym e) (subst (λ (y : List ℕ). LexedFrom (behind place bytes') y tokens) (sym f) r)

moved_fault : (place : Place) (bytes rest bytes' rest' : List ℕ) (fault : LexFault) → bytes ≡ bytes' → rest ≡ rest' → FaultFrom (behind place bytes') rest' fault → FaultFrom (behind place bytes) rest fault
moved_fault place bytes rest bytes' rest' fault e f r =
    subst (λ (x : List ℕ). FaultFrom (behind place x) rest fault) (sym e) (subst (λ (y : List ℕ). FaultFrom (behind place bytes') y fault) (sym f) r)

pub lexed_once : {place : Place} {text : List ℕ} {tokens others : List Token} → LexedFrom place text tokens → LexedFrom place text others → others ≡ tokens
lexed_once end other = elim (lexed_view other) [
  | inl e ↦ e.1
  | inr p ↦ absurd (piece_some p.l p.bytes p.rest [] p.begins p.parts refl)
]
lexed_once (gap {place = place} {text = text} {bytes = bytes} {rest = rest} e g r) other = elim (lexed_view other) [
  | inl z ↦ absurd (piece_some None bytes rest text g e z.0)
  | inr p ↦
      let s = same_piece None p.l bytes rest p.bytes p.rest g p.begins (sym e ∙ p.parts) in
      p.all ∙ ap (λ (l : Option Lexeme). tokens_at place l ++ p.later) (sym s.lexeme)
      ∙ lexed_once r (moved_lexed place bytes rest p.bytes p.rest p.later s.bytes_same s.rest_same p.lexed)
]
lexed_once (token {place = place} {text = text} {bytes = bytes} {rest = rest} {lexeme = lexeme} e t r) other = elim (lexed_view other) [
  | inl z ↦ absurd (piece_some (Some lexeme) bytes rest text t e z.0)
  | inr p ↦
      let s = same_piece (Some lexeme) p.l bytes rest p.bytes p.rest t p.begins (sym e ∙ p.parts) in
      p.all ∙ ap (λ (l : Option Lexeme). tokens_at place l ++ p.later) (sym s.lexeme)
      ∙ ap (λ (ts : List Token). at place lexeme ∷ ts) (lexed_once r (moved_lexed place bytes rest p.bytes p.rest p.later s.bytes_same s.rest_same p.lexed))
]

-- ---- faults

-- the text is stuck at once
pub record AtOnce (place : Place) (text : List ℕ) (fault : LexFault) : Type 0 where
  pub stuck : IsStuck text
  pub is : fault ≡ record { place = place; kind = kind_of stuck.first }

pub record FaultPiece (place : Place) (text : List ℕ) (fault : LexFault) : Type 0 where
  pub l : Option Lexeme
  pub bytes : List ℕ
  pub rest : List ℕ
  pub parts : text ≡ bytes ++ rest
  pub begins : Begins l bytes rest
  pub later : FaultFrom (behind place bytes) rest fault

fault_view : {place : Place} {text : List ℕ} {fault : LexFault} → FaultFrom place text fault → AtOnce place text fault ⊎ FaultPiece place text fault
fault_view (here stuck) = inl (record { stuck = stuck; is = refl })
fault_view (behind_gap {bytes = bytes} {rest = rest} e g r) = inr (record { l = None; bytes = bytes; rest = rest; parts = e; begins = g; later = r })
fault_view (behind_token {bytes = bytes} {rest = rest} {lexeme = lexeme} e t r) = inr (record { l = Some lexeme; bytes = bytes; rest = rest; parts = e; begins = t; later = r })

stuck_none : (l : Option Lexeme) (bytes rest text : List ℕ) → IsStuck text → text ≡ bytes ++ rest → Begins l bytes rest → ⊥
stuck_none None bytes rest text stuck e b = stuck.no_gap bytes rest e b
stuck_none (Some lexeme) bytes rest text stuck e b = stuck.no_token lexeme bytes rest e b

stuck_first : (text : List ℕ) (s s' : IsStuck text) → s'.first ≡ s.first
stuck_first text s s' = ap (λ (x : List ℕ). get_or x 0 0) (sym s'.parts ∙ s.parts)

pub fault_once : {place : Place} {text : List ℕ} {fault other : LexFault} → FaultFrom place text fault → FaultFrom place text other → other ≡ fault
fault_once (here {place = place} {text = text} stuck) o = elim (fault_view o) [
  | inl a ↦ a.is ∙ ap (λ (b : ℕ). let f : LexFault = record { place = place; kind = kind_of b } in f) (stuck_first text stuck a.stuck)
  | inr p ↦ absurd (stuck_none p.l p.bytes p.rest text stuck p.parts p.begins)
]
fault_once (behind_gap {place = place} {text = text} {bytes = bytes} {rest = rest} {fault = fault} e g r) o = elim (fault_view o) [
  | inl a ↦ absurd (stuck_none None bytes rest text a.stuck e g)
  | inr p ↦
      let s = same_piece None p.l bytes rest p.bytes p.rest g p.begins (sym e ∙ p.parts) in
      fault_once r (moved_fault place bytes rest p.bytes p.rest _ s.bytes_same s.rest_same p.later)
]
fault_once (behind_token {place = place} {text = text} {bytes = bytes} {rest = rest} {lexeme = lexeme} {fault = fault} e t r) o = elim (fault_view o) [
  | inl a ↦ absurd (stuck_none (Some lexeme) bytes rest text a.stuck e t)
  | inr p ↦
      let s = same_piece (Some lexeme) p.l bytes rest p.bytes p.rest t p.begins (sym e ∙ p.parts) in
      fault_once r (moved_fault place bytes rest p.bytes p.rest _ s.bytes_same s.rest_same p.later)
]

nothing_stuck : (b : ℕ) (bs : List ℕ) → [] ≡ b ∷ bs → ⊥
nothing_stuck b bs e = absurd cc

pub no_fault : {place : Place} {text : List ℕ} {tokens : List Token} {fault : LexFault} → LexedFrom place text tokens → FaultFrom place text fault → ⊥
no_fault end o = elim (fault_view o) [
  | inl a ↦ absurd (nothing_stuck a.stuck.first a.stuck.others a.stuck.parts)
  | inr p ↦ piece_some p.l p.bytes p.rest [] p.begins p.parts refl
]
no_fault (gap {place = place} {text = text} {bytes = bytes} {rest = rest} e g r) o = elim (fault_view o) [
  | inl a ↦ stuck_none None bytes rest text a.stuck e g
  | inr p ↦
      let s = same_piece None p.l bytes rest p.bytes p.rest g p.begins (sym e ∙ p.parts) in
      no_fault r (moved_fault place bytes rest p.bytes p.rest _ s.bytes_same s.rest_same p.later)
]
no_fault (token {place = place} {text = text} {bytes = bytes} {rest = rest} {lexeme = lexeme} e t r) o = elim (fault_view o) [
  | inl a ↦ stuck_none (Some lexeme) bytes rest text a.stuck e t
  | inr p ↦
      let s = same_piece (Some lexeme) p.l bytes rest p.bytes p.rest t p.begins (sym e ∙ p.parts) in
      no_fault r (moved_fault place bytes rest p.bytes p.rest _ s.bytes_same s.rest_same p.later)
]

-- ---- one step of the loop

stuck_of : (b : ℕ) (bs : List ℕ) (kind : LexKind) → front_of (b ∷ bs) ≡ Err kind → IsStuck (b ∷ bs)
stuck_of b bs kind e = record {
  first = b;
  others = bs;
  parts = refl;
  no_gap = λ bytes rest parts g. let f = front_complete None bytes rest g in let bad : Err kind ≡ Ok (f.form, length bytes) = sym e ∙ ap front_of parts ∙ f.found in absurd cc;
  no_token = λ lexeme bytes rest parts t. let f = front_complete (Some lexeme) bytes rest t in let bad : Err kind ≡ Ok (f.form, length bytes) = sym e ∙ ap front_of parts ∙ f.found in absurd cc;
}

-- what the front has no piece for is a fault here
pub fault_here : (place : Place) (text : List ℕ) (kind : LexKind) → 0 < length text → front_of text ≡ Err kind → FaultFrom place text (record { place = place; kind = kind })
unfolding stuck_of
fault_here place [] kind some e = absurd (omega (arith, some))
fault_here place (b ∷ bs) kind some e =
    let is : kind ≡ kind_of b = subst (Holds (b ∷ bs)) e (front_holds b bs) in
    subst (λ (k : LexKind). FaultFrom place (b ∷ bs) (record { place = place; kind = k })) (sym is) (here (stuck_of b bs kind e))

pub piece_here : (text : List ℕ) (form : Form) (n : ℕ) → 0 < length text → front_of text ≡ Ok (form, n) → Splits text form n
piece_here [] form n some e = absurd (omega (arith, some))
piece_here (b ∷ bs) form n some e = subst (Holds (b ∷ bs)) e (front_holds b bs)

-- the tokens and the fault behind a piece are those of the whole
pub with_piece : (place : Place) (l : Option Lexeme) (text bytes rest : List ℕ) (tokens : List Token) → text ≡ bytes ++ rest → Begins l bytes rest → LexedFrom (behind place bytes) rest tokens → LexedFrom place text (tokens_at place l ++ tokens)
with_piece place None text bytes rest tokens e b r = gap e b r
with_piece place (Some lexeme) text bytes rest tokens e b r = token e b r

pub fault_behind : (place : Place) (l : Option Lexeme) (text bytes rest : List ℕ) (fault : LexFault) → text ≡ bytes ++ rest → Begins l bytes rest → FaultFrom (behind place bytes) rest fault → FaultFrom place text fault
fault_behind place None text bytes rest fault e b r = behind_gap e b r
fault_behind place (Some lexeme) text bytes rest fault e b r = behind_token e b r

-- the bytes and the rest that the text is split into
pub record SplitsInto (text : List ℕ) (form : Form) (n : ℕ) (bytes rest : List ℕ) : Type 0 where
  pub parts : text ≡ bytes ++ rest
  pub begins : Begins (lexeme_of form bytes) bytes rest
  pub long : length bytes ≡ n

pub split_into : (text : List ℕ) (form : Form) (n : ℕ) (bytes rest : List ℕ) → Splits text form n → bytes ≡ take n text → rest ≡ drop n text → SplitsInto text form n bytes rest
split_into text form n bytes rest p e f =
    let b : p.bytes ≡ bytes = sym (e ∙ ap (take n) p.parts ∙ take_at p.bytes p.rest n p.long) in
    let r : p.rest ≡ rest = sym (f ∙ ap (drop n) p.parts ∙ drop_at p.bytes p.rest n p.long) in
    record {
      parts = p.parts ∙ ap (λ (x : List ℕ). x ++ p.rest) b ∙ ap (λ (x : List ℕ). bytes ++ x) r;
      begins = subst (λ (x : List ℕ). Begins (lexeme_of form x) x rest) b (subst (λ (x : List ℕ). Begins (lexeme_of form p.bytes) p.bytes x) r p.begins);
      long = ap length (sym b) ∙ p.long;
    }

-- what holds of the tokens so far with those of the text holds with those behind its first piece
pub step_tokens : (P : List Token → Type 0) (place place' : Place) (l : Option Lexeme) (text bytes rest : List ℕ) (done done' : List Token) →
    text ≡ bytes ++ rest → Begins l bytes rest → place' ≡ behind place bytes → done' ≡ done ++ tokens_at place l →
    ((tokens : List Token) → LexedFrom place text tokens → P (done ++ tokens)) → (tokens : List Token) → LexedFrom place' rest tokens → P (done' ++ tokens)
step_tokens P place place' l text bytes rest done done' parts begins moved more whole tokens r =
    subst P (sym (ap (λ (x : List Token). x ++ tokens) more ∙ append_assoc done (tokens_at place l) tokens))
    (whole (tokens_at place l ++ tokens) (with_piece place l text bytes rest tokens parts begins (subst (λ (q : Place). LexedFrom q rest tokens) moved r)))

pub step_fault : (P : LexFault → Type 0) (place place' : Place) (l : Option Lexeme) (text bytes rest : List ℕ) →
    text ≡ bytes ++ rest → Begins l bytes rest → place' ≡ behind place bytes →
    ((fault : LexFault) → FaultFrom place text fault → P fault) → (fault : LexFault) → FaultFrom place' rest fault → P fault
step_fault P place place' l text bytes rest parts begins moved whole fault r =
    whole fault (fault_behind place l text bytes rest fault parts begins (subst (λ (q : Place). FaultFrom q rest fault) moved r))

-- at the end of the text
pub end_tokens : (P : List Token → Type 0) (place : Place) (text : List ℕ) (done done' : List Token) → length text ≡ 0 → done' ≡ done ++ at place End ∷ [] →
    ((tokens : List Token) → LexedFrom place text tokens → P (done ++ tokens)) → P done'
end_tokens P place [] done done' len more whole = subst P (sym more) (whole (at place End ∷ []) end)
end_tokens P place (b ∷ text) done done' len more whole = absurd (omega (arith, len))

-- ---- the end

behind-append : (place : Place) (front rest : List ℕ) → behind place (front ++ rest) ≡ behind (behind place front) rest
behind-append place [] rest = refl
behind-append place (b ∷ front) rest = behind-append (behind_byte place b) front rest

token_isnt_end : (lexeme : Lexeme) (bytes rest : List ℕ) → IsToken lexeme bytes rest → lexeme ≡ End → ⊥
token_isnt_end lexeme bytes rest t e = (subst (λ (l : Lexeme). IsToken l bytes rest) e t).spells

ends_behind : (place : Place) (text bytes rest : List ℕ) (tokens : List Token) → text ≡ bytes ++ rest → EndsOnce (behind place bytes) rest tokens → EndsOnce place text tokens
ends_behind place text bytes rest tokens e o = record {
  front = o.front;
  parts = o.parts ∙ ap (λ (p : Place). o.front ++ at p End ∷ []) (sym (ap (behind place) e ∙ behind-append place bytes rest));
  others = o.others;
}

pub lexed_ends : {place : Place} {text : List ℕ} {tokens : List Token} → LexedFrom place text tokens → EndsOnce place text tokens
lexed_ends end = record { front = []; parts = refl; others = All-from_recursion (λ t. ¬ (t.lexeme ≡ End)) [] tt }
lexed_ends (gap {place = place} {text = text} {bytes = bytes} {rest = rest} {tokens = tokens} e g r) = ends_behind place text bytes rest tokens e (lexed_ends r)
lexed_ends (token {place = place} {text = text} {bytes = bytes} {rest = rest} {lexeme = lexeme} {tokens = tokens} e t r) =
    let later = ends_behind place text bytes rest tokens e (lexed_ends r) in
    record {
      front = at place lexeme ∷ later.front;
      parts = ap (λ (ts : List Token). at place lexeme ∷ ts) later.parts;
      others = All-from_recursion (λ t. ¬ (t.lexeme ≡ End)) (at place lexeme ∷ later.front) (token_isnt_end lexeme bytes rest t, recursion_from_All (λ t. ¬ (t.lexeme ≡ End)) later.front later.others);
    }
