-- Tokens that are laid out are the tokens of the text.
use Rattle.std.proofs.Common.{◌≡◌, ℕ, zero, suc, ◌+◌, ◌<◌, ◌≤◌, Bool, true, false, List, [], ◌∷◌, ◌++◌, length, get_or, Option, Some, None, refl, sym, ap, ◌∙◌, subst, arith, inl, inr, ◌⊎◌, codes, IsTrue, cond, append_assoc}
use Rattle.std.specs.Prelude.{◌&&◌, ◌||◌, ◌==◌, not, nat_eq, slice_get, unwrap_or, IsFalse}
use Rattle.std.specs.List.{list_all, AllByRecursion}
use Rattle.std.proofs.lemmas.Bool.{and_parts, cases_lt}
use Rattle.jp_ast.specs.declared.token.Place.{Place}
use Rattle.jp_ast.specs.declared.token.Token.{Token}
use Rattle.jp_ast.specs.declared.token.Lexeme.{Lexeme}
use Rattle.jp_ast.specs.declared.token.Lexeme.TheVariants.{Word, Number, Text, Sign, End}
use Rattle.jp_lexical.specs.Characters.{is_white, is_word_byte}
use Rattle.jp_lexical.specs.Signs.{signs}
use Rattle.jp_lexical.specs.Places.{first_place, behind}
use Rattle.jp_lexical.specs.Tokens.{Spells, NoWordByte, IsLongest, NoComment, EndsBefore, IsToken, IsGap, white}
use Rattle.jp_lexical.specs.Lexed.{at, LexedFrom, end, gap, token, Lexed}
use Rattle.jp_grammar.specs.Kinds.{Tokens}
use Rattle.jp_print.specs.Layout.{spelled, number_text, sign_text, ends_line, gap_behind, with_gap, laid_out}
use Rattle.jp_print.specs.ReadsBack.{HasForm}
use Rattle.jp_print.proofs.Forms.{Formed}
use Rattle.jp_print.proofs.Goes.{Goes, done, next}
use Rattle.jp_print.proofs.Numbers.{hex_printed}

-- ---- the bytes of signs

-- a comment begins with the bytes
abbrev pub comments : List ℕ → Bool
comments [] = false
comments (a ∷ []) = false
comments (a ∷ b ∷ rest) = a == 47 && (b == 47 || b == 42)

-- none of the bytes is white, and no comment begins with them
abbrev pub plain : List ℕ → Bool
plain bytes = list_all (λ b. not (is_white b)) bytes && not (comments bytes)

all_plain : list_all plain signs ≡ true
unfolding signs is_white
all_plain = refl

passes_at : {X : Type 0} (p : X → Bool) (xs : List X) (i : ℕ) (x : X) → list_all p xs ≡ true → slice_get xs i ≡ Some x → p x ≡ true
passes_at p [] i x h e = absurd cc
passes_at {X = X} p (y ∷ ys) zero x h e = let a = and_parts (p y) (list_all p ys) h in let same : y ≡ x = cc in subst (λ (z : X). p z ≡ true) same a.0
passes_at p (y ∷ ys) (suc i) x h e = let a = and_parts (p y) (list_all p ys) h in passes_at p ys i x a.1 e

passes_within : (p : ℕ → Bool) (xs : List ℕ) (i : ℕ) → list_all p xs ≡ true → i < length xs → p (get_or xs i 0) ≡ true
passes_within p [] i h lt = absurd (omega arith)
passes_within p (x ∷ xs) zero h lt = (and_parts (p x) (list_all p xs) h).0
passes_within p (x ∷ xs) (suc i) h lt = passes_within p xs i (and_parts (p x) (list_all p xs) h).1 (omega arith)

-- ---- where a token ends

white_line : IsTrue (is_white 10)
unfolding is_white
white_line = refl

white_blank : IsTrue (is_white 32)
unfolding is_white
white_blank = refl

wordless_line : IsFalse (is_word_byte 10)
unfolding is_word_byte
wordless_line = refl

wordless_blank : IsFalse (is_word_byte 32)
unfolding is_word_byte
wordless_blank = refl

-- the end of a line or a space, and the rest behind it
pub data Space (rest : List ℕ) : List ℕ → Type 0 where
  line : Space rest (10 ∷ rest)
  blank : Space rest (32 ∷ rest)

gap_space : (l : Lexeme) (rest : List ℕ) → Space rest (gap_behind l ++ rest)
gap_space l rest = elim (ends_line l) as (λ b. Space rest (cond b (codes "\n") (codes " ") ++ rest)) [ true ↦ line | false ↦ blank ]

no_word_byte : {rest text : List ℕ} → Space rest text → NoWordByte text
no_word_byte line = wordless_line
no_word_byte blank = wordless_blank

length_at : (xs : List ℕ) (w : ℕ) (rest : List ℕ) → get_or (xs ++ w ∷ rest) (length xs) 0 ≡ w
length_at [] w rest = refl
length_at (x ∷ xs) w rest = length_at xs w rest

front_at : (xs ys : List ℕ) (i : ℕ) → i < length xs → get_or (xs ++ ys) i 0 ≡ get_or xs i 0
front_at [] ys i lt = absurd (omega arith)
front_at (x ∷ xs) ys zero lt = refl
front_at (x ∷ xs) ys (suc i) lt = front_at xs ys i (omega arith)

not_true : (b : Bool) → not b ≡ true → b ≡ false
not_true true h = absurd cc
not_true false h = refl

sign_plain : (n : ℕ) (bytes : List ℕ) → slice_get signs n ≡ Some bytes → (list_all (λ b. not (is_white b)) bytes ≡ true) × (comments bytes ≡ false)
sign_plain n bytes e =
    let p = and_parts (list_all (λ b. not (is_white b)) bytes) (not (comments bytes)) (passes_at plain signs n bytes all_plain e) in
    (p.0, not_true (comments bytes) p.1)

-- a sign that went on would hold the white byte
longest_at : (bytes rest : List ℕ) (w : ℕ) → IsTrue (is_white w) → IsLongest bytes (w ∷ rest)
longest_at bytes rest w h sign longer more e same = elim (cases_lt (length bytes) (length longer)) [
  | inr le ↦ le
  | inl lt ↦
      let p = passes_within (λ b. not (is_white b)) longer (length bytes) (sign_plain sign longer e).0 lt in
      let at' : get_or longer (length bytes) 0 ≡ w = sym (front_at longer more (length bytes) lt) ∙ ap (λ x. get_or x (length bytes) 0) (sym same) ∙ length_at bytes w rest in
      let q : not (is_white w) ≡ true = subst (λ (x : ℕ). not (is_white x) ≡ true) at' p in
      let r = not_true (is_white w) q in
      absurd (let f : true ≡ false = sym h ∙ r in cc)
]

longest : (bytes : List ℕ) {rest text : List ℕ} → Space rest text → IsLongest bytes text
longest bytes {rest = rest} line = longest_at bytes rest 10 white_line
longest bytes {rest = rest} blank = longest_at bytes rest 32 white_blank

-- the mark of a comment stands in front
marked : (text mark more : List ℕ) → (mark ≡ codes "//") ⊎ (mark ≡ codes "/*") → text ≡ mark ++ more → comments text ≡ true
marked text mark more (inl m) e = ap comments (e ∙ ap (λ x. x ++ more) m)
marked text mark more (inr m) e = ap comments (e ∙ ap (λ x. x ++ more) m)

and_false : (b : Bool) → (b && false) ≡ false
and_false true = refl
and_false false = refl

quiet : (bytes : List ℕ) → comments bytes ≡ false → {rest text : List ℕ} → Space rest text → comments (bytes ++ text) ≡ false
quiet [] c {rest = []} line = refl
quiet [] c {rest = b ∷ rest} line = refl
quiet [] c {rest = []} blank = refl
quiet [] c {rest = b ∷ rest} blank = refl
quiet (a ∷ []) c line = and_false (nat_eq a 47)
quiet (a ∷ []) c blank = and_false (nat_eq a 47)
quiet (a ∷ b ∷ bytes) c s = c

no_comment : (bytes : List ℕ) → comments bytes ≡ false → {rest text : List ℕ} → Space rest text → NoComment (bytes ++ text)
no_comment bytes c s mark more m e = let f : true ≡ false = sym (marked _ mark more m e) ∙ quiet bytes c s in cc

-- ---- tokens

number_spells : (value : ℕ) (hex : Bool) (bytes : List ℕ) → Spells (Number value hex) bytes → Spells (Number value hex) (number_text value hex)
number_spells value true bytes s = hex_printed bytes value s
number_spells value false bytes s = record { digits = refl; fits = s.fits }

spelled_so : (l : Lexeme) (bytes : List ℕ) → Spells l bytes → Spells l (spelled l)
spelled_so (Word word) bytes s = (refl, s.1, s.2)
spelled_so (Number value hex) bytes s = number_spells value hex bytes s
spelled_so (Text value) bytes s = (refl, s.1)
spelled_so (Sign n) bytes s = s ∙ ap (λ x. Some (unwrap_or x [])) (sym s)
spelled_so End bytes s = s

ends_before : (l : Lexeme) (bytes : List ℕ) → Spells l bytes → {rest text : List ℕ} → Space rest text → EndsBefore l bytes text
ends_before (Word word) bytes s g = no_word_byte g
ends_before (Number value hex) bytes s g = no_word_byte g
ends_before (Text value) bytes s g = tt
ends_before (Sign n) bytes s g = (longest bytes g, no_comment bytes (sign_plain n bytes s).1 g)
ends_before End bytes s g = s

is_token : (l : Lexeme) → HasForm l → {rest text : List ℕ} → Space rest text → IsToken l (spelled l) text
is_token l f g = let s = spelled_so l f.bytes f.spells in record { spells = s; ends = ends_before l (spelled l) s g }

-- ---- texts

-- the text has tokens that are these and the end, places aside
pub record LexedAs (place : Place) (text : List ℕ) (ls : List Lexeme) : Type 0 where
  pub tokens : Tokens
  pub lexed : LexedFrom place text tokens
  pub goes : Goes (ls ++ End ∷ []) tokens []

behind_gap : {place : Place} {rest : List ℕ} {tokens : Tokens} (w : ℕ) → IsTrue (is_white w) → LexedFrom (behind place (w ∷ [])) rest tokens → LexedFrom place (w ∷ rest) tokens
behind_gap w h r = gap refl (white w refl h) r

-- what stands behind the gap
abbrev gap_end : {rest text : List ℕ} → Space rest text → Place → Place
gap_end line place = behind place (10 ∷ [])
gap_end blank place = behind place (32 ∷ [])

over_gap : {rest text : List ℕ} (g : Space rest text) (place : Place) {tokens : Tokens} → LexedFrom (gap_end g place) rest tokens → LexedFrom place text tokens
over_gap line place r = behind_gap 10 white_line r
over_gap blank place r = behind_gap 32 white_blank r

pub lexed_as : (ls : List Lexeme) → Formed ls → (place : Place) → LexedAs place (laid_out ls) ls
lexed_as [] f place = record { tokens = at place End ∷ []; lexed = end; goes = next refl done }
lexed_as (l ∷ ls) f place =
    let g = gap_space l (laid_out ls) in
    let after = gap_end g (behind place (spelled l)) in
    let r = lexed_as ls f.1 after in
    record {
      tokens = at place l ∷ r.tokens;
      lexed = token (append_assoc (spelled l) (gap_behind l) (laid_out ls)) (is_token l f.0 g) (over_gap g (behind place (spelled l)) r.lexed);
      goes = next refl r.goes;
    }
