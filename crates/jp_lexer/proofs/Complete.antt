-- A gap or token with which a text begins is found at its front.
use Rattle.std.proofs.Common.{◌≡◌, ℕ, ◌+◌, ◌<◌, ◌≤◌, Bool, true, false, cond, eqb, leb, List, [], ◌∷◌, ◌++◌, length, get_or, take, drop, Option, Some, None, Ok, Err, refl, sym, ap, subst, ◌∙◌, arith, inl, inr, append_assoc}
use Rattle.std.specs.Prelude.{◌&&◌, ◌||◌, not, codes, flat_map, slice_get, All, IsTrue}
use Rattle.std.specs.List.{AllByRecursion}
use Rattle.std.specs.Char.{digit_value}
use Rattle.std.specs.Str.Parse.{AllDigits}
use Rattle.std.proofs.lemmas.Fmt.{decimal_is_IsNumeral}
use Rattle.std.proofs.lemmas.Str.Parse.{digit_from_value}
use Rattle.std.proofs.lemmas.Bool.{cond-true, cond-false, and_parts, eqb-true, eq-eqb, ne_eqb, le-leb, false_from_ne_true, not_from_true}
use Rattle.std.proofs.lemmas.Bool.Decides.{nat_tests}
use Rattle.std.proofs.lemmas.List.{length-append, take_at, drop_at}
use Rattle.std.proofs.lemmas.List.Elements.{recursion_from_All}
use Rattle.jp_ast.specs.declared.token.Lexeme.{Lexeme}
use Rattle.jp_ast.specs.declared.token.Lexeme.TheVariants.{Word as WordToken, Number as NumberToken, Text as TextToken, Sign as SignToken, End}
use Rattle.jp_lexical.specs.declared.fault.LexKind.TheVariants.{LongName}
use Rattle.jp_lexical.specs.Characters.{is_white, begins_word, is_word_byte}
use Rattle.jp_lexical.specs.Words.{IsWord}
use Rattle.jp_lexical.specs.Signs.{signs}
use Rattle.jp_lexical.specs.Tokens.{IsToken, IsNumber, NoWordByte, IsLongest, NoComment, IsGap, white, line, block, AtLineEnd, ClosesAtEnd, quoted, written, is_letter}
use Rattle.jp_lexer.specs.declared.front.Form.{Form}
use Rattle.jp_lexer.specs.declared.front.Form.TheVariants.{Gap, Word, Number, Text, Sign}
use Rattle.jp_lexer.specs.Scanning.{Front, front_of, word_of, number_of, mark_of, lexeme_of, number_value, number_front, text_front, comment_front, sign_front, text_len, sign_at}
use Rattle.jp_lexer.proofs.Runs.{Stops, AllPass, prefix_len-whole, stops-NoWordByte, word_isnt_white, digit_isnt_letter, digit_is_word_byte}
use Rattle.jp_lexer.proofs.Closings.{close_complete}
use Rattle.jp_lexer.proofs.Hexadecimals.{number_complete}
use Rattle.jp_lexer.proofs.Quotes.{text_complete, text_value-inside}
use Rattle.jp_lexer.proofs.SignTable.{IsApart, IsListed, sign_complete, listed}
use Rattle.jp_lexer.proofs.FrontLemmas.{Begins}

-- the piece is found
pub record Finds (l : Option Lexeme) (bytes rest : List ℕ) : Type 0 where
  pub form : Form
  pub found : front_of (bytes ++ rest) ≡ Ok (form, length bytes)
  pub means : lexeme_of form bytes ≡ l
  pub some : 0 < length bytes

find_gap : (bytes rest : List ℕ) (n : ℕ) → n ≡ length bytes → 0 < n → front_of (bytes ++ rest) ≡ Ok (Gap, n) → Finds None bytes rest
find_gap bytes rest n e some h = record { form = Gap; found = h ∙ ap (λ (k : ℕ). Ok (Gap, k)) e; means = refl; some = omega (arith, e, some) }

-- ---- gaps

white_found : (b : ℕ) (rest : List ℕ) → is_white b ≡ true → front_of (b ∷ rest) ≡ Ok (Gap, 1)
unfolding front_of
white_found b rest t = cond-true _ _ _ t

not_feed : ℕ → Bool
not_feed b = not (eqb b 10)

stops_line : (rest : List ℕ) → AtLineEnd rest → Stops (λ b. not (eqb b 10)) rest
stops_line [] h = tt
stops_line (b ∷ rest) h = not_from_true (eqb b 10) (eq-eqb b 10 h)

pass_line : (body : List ℕ) → AllByRecursion (λ b. ¬ (b ≡ 10)) body → AllPass (λ b. not (eqb b 10)) body
pass_line [] all = tt
pass_line (b ∷ body) all =
    let f : eqb b 10 ≡ false = ne_eqb b 10 all.0 in
    (ap not f, pass_line body all.1)

line_found : (body rest : List ℕ) → All (λ b. ¬ (b ≡ 10)) body → AtLineEnd rest → front_of (47 ∷ 47 ∷ (body ++ rest)) ≡ Ok (Gap, 2 + length body)
unfolding front_of mark_of is_white begins_word is_word_byte
line_found body rest all end =
    ap (λ (n : ℕ). Ok (Gap, 2 + n)) (prefix_len-whole (λ b. not (eqb b 10)) body rest (pass_line body (recursion_from_All (λ b. ¬ (b ≡ 10)) body all)) (stops_line rest end))

block_found : (body rest : List ℕ) → ClosesAtEnd (body ++ codes "*/") → front_of (47 ∷ 42 ∷ ((body ++ codes "*/") ++ rest)) ≡ Ok (Gap, 2 + (length body + 2))
unfolding front_of mark_of is_white begins_word is_word_byte
block_found body rest closes = ap comment_front (close_complete body rest closes)

gap_found : (bytes rest : List ℕ) → IsGap bytes rest → Finds None bytes rest
gap_found bytes rest (white b e t) = subst (λ (x : List ℕ). Finds None x rest) (sym e) (find_gap (b ∷ []) rest 1 refl (omega arith) (white_found b rest t))
gap_found bytes rest (line body e all end) = subst (λ (x : List ℕ). Finds None x rest) (sym e) (find_gap (47 ∷ 47 ∷ body) rest (2 + length body) (omega arith) (omega arith) (line_found body rest all end))
gap_found bytes rest (block body e closes) =
    subst (λ (x : List ℕ). Finds None x rest) (sym e)
    (find_gap (47 ∷ 42 ∷ (body ++ codes "*/")) rest (2 + (length body + 2)) (omega (arith, length-append body (codes "*/"))) (omega arith) (block_found body rest closes))

-- ---- words and numbers

word_found : (b : ℕ) (bs rest : List ℕ) → begins_word b ≡ true → AllPass is_word_byte (b ∷ bs) → NoWordByte rest → length (b ∷ bs) ≤ 255 → front_of (b ∷ (bs ++ rest)) ≡ Ok (Word, length (b ∷ bs))
unfolding front_of word_of
word_found b bs rest begins all ends short =
    let len = prefix_len-whole is_word_byte (b ∷ bs) rest all (stops-NoWordByte rest ends) in
    cond-false _ _ _ (word_isnt_white b all.0) ∙ cond-true _ _ _ begins
    ∙ ap (λ (n : ℕ). cond (leb n 255) (Ok (Word, n)) (Err LongName)) len ∙ cond-true _ _ _ (le-leb (length (b ∷ bs)) 255 short)

word_finds : (name rest : List ℕ) → IsWord name → length name ≤ 255 → NoWordByte rest → Finds (Some (WordToken name)) name rest
word_finds [] rest word short ends = absurd (omega (arith, word.some))
word_finds (b ∷ bs) rest word short ends = record {
  form = Word;
  found = word_found b bs rest word.begins (recursion_from_All (λ x. IsTrue (is_word_byte x)) (b ∷ bs) word.goes_on) ends short;
  means = refl;
  some = omega arith;
}

-- the bytes of a number
pub record IsDigits (bytes : List ℕ) : Type 0 where
  pub first : ℕ
  pub others : List ℕ
  pub parts : bytes ≡ first ∷ others
  pub low : 48 ≤ first
  pub high : first ≤ 57
  pub each : AllPass is_word_byte others

decimal_pass : (digits : List ℕ) → AllDigits 10 digits → AllPass is_word_byte digits
decimal_pass [] all = tt
decimal_pass (b ∷ bs) all = let range = digit_from_value b all.0 in (digit_is_word_byte b (omega (arith, range)) (omega (arith, range)), decimal_pass bs all.1)

hexadecimal_byte : (b : ℕ) → digit_value b < 16 → is_word_byte b ≡ true
unfolding is_word_byte
hexadecimal_byte b h = grind (arith, nat_tests)

hexadecimal_pass : (digits : List ℕ) → AllDigits 16 digits → AllPass is_word_byte digits
hexadecimal_pass [] all = tt
hexadecimal_pass (b ∷ bs) all = (hexadecimal_byte b all.0, hexadecimal_pass bs all.1)

x_pass : (x : ℕ) → (eqb x 120 || eqb x 88) ≡ true → is_word_byte x ≡ true
unfolding is_word_byte
x_pass x t = grind (arith, nat_tests)

decimal_digits : (bytes : List ℕ) → AllDigits 10 bytes → 0 < length bytes → IsDigits bytes
decimal_digits [] all some = absurd (omega (arith, some))
decimal_digits (b ∷ bs) all some =
    let range = digit_from_value b all.0 in
    record { first = b; others = bs; parts = refl; low = omega (arith, range); high = omega (arith, range); each = decimal_pass bs all.1 }

number_digits : (bytes : List ℕ) (value : ℕ) (hex : Bool) → IsNumber bytes value hex → IsDigits bytes
number_digits bytes value false n =
    let d = (decimal_is_IsNumeral value (omega (arith, n.fits))).0 in
    decimal_digits bytes (subst (AllDigits 10) (sym n.digits) d.1) (subst (λ (x : List ℕ). 0 < length x) (sym n.digits) d.0)
number_digits bytes value true n =
    record { first = 48; others = n.x ∷ n.digits; parts = n.parts; low = omega arith; high = omega arith; each = (x_pass n.x n.marked, hexadecimal_pass n.digits n.each) }

number_found : (b : ℕ) (bs rest : List ℕ) (value : ℕ) (hex : Bool) → 48 ≤ b → b ≤ 57 → AllPass is_word_byte bs → NoWordByte rest → number_value (b ∷ bs) ≡ Some (value, hex) → front_of (b ∷ (bs ++ rest)) ≡ Ok (Number value hex, length (b ∷ bs))
unfolding front_of number_of
number_found b bs rest value hex low high all ends read =
    let word = digit_is_word_byte b low high in
    let len = prefix_len-whole is_word_byte (b ∷ bs) rest (word, all) (stops-NoWordByte rest ends) in
    cond-false _ _ _ (word_isnt_white b word) ∙ cond-false _ _ _ (digit_isnt_letter b low high) ∙ cond-true _ _ _ word
    ∙ ap (λ (n : ℕ). number_front (number_value (take n (b ∷ (bs ++ rest)))) n) len
    ∙ ap (λ (run : List ℕ). number_front (number_value run) (length (b ∷ bs))) (take_at (b ∷ bs) rest (length (b ∷ bs)) refl)
    ∙ ap (λ (o : Option (ℕ × Bool)). number_front o (length (b ∷ bs))) read

number_finds : (bytes rest : List ℕ) (value : ℕ) (hex : Bool) → IsNumber bytes value hex → NoWordByte rest → Finds (Some (NumberToken value hex)) bytes rest
number_finds bytes rest value hex n ends =
    let d = number_digits bytes value hex n in
    let read = number_complete bytes value hex n in
    subst (λ (x : List ℕ). Finds (Some (NumberToken value hex)) x rest) (sym d.parts) (record {
      form = Number value hex;
      found = number_found d.first d.others rest value hex d.low d.high d.each ends (ap number_value (sym d.parts) ∙ read);
      means = refl;
      some = omega arith;
    })

-- ---- texts

text_found : (inside : List ℕ) (n : ℕ) → text_len false inside ≡ Some n → front_of (34 ∷ inside) ≡ Ok (Text, 1 + n)
unfolding front_of is_white begins_word is_word_byte
text_found inside n e = ap text_front e

text_finds : (value rest : List ℕ) → All (λ b. IsTrue (is_letter b)) value → Finds (Some (TextToken value)) (quoted value) rest
text_finds value rest letters =
    let fm = flat_map written value in
    let back = text_complete value rest (recursion_from_All (λ b. IsTrue (is_letter b)) value letters) in
    let len : 1 + (length fm + 1) ≡ length (34 ∷ (fm ++ 34 ∷ [])) = omega (arith, length-append fm (34 ∷ [])) in
    record {
      form = Text;
      found = ap (λ (x : List ℕ). front_of (34 ∷ x)) (append_assoc fm (34 ∷ []) rest) ∙ text_found (fm ++ 34 ∷ rest) (length fm + 1) back.0 ∙ ap (λ (n : ℕ). Ok (Text, n)) len;
      means = ap (λ (x : List ℕ). Some (TextToken x)) (text_value-inside fm ∙ back.1);
      some = omega arith;
    }

-- ---- signs

first_mark : (text : List ℕ) → NoComment text → (eqb (get_or text 0 0) 47 && eqb (get_or text 1 0) 47) ≡ false
first_mark [] none = refl
first_mark (a ∷ []) none = false_from_ne_true _ (λ t. let p = and_parts (eqb a 47) false t in absurd cc)
first_mark (a ∷ b ∷ text) none = false_from_ne_true _ (λ t.
    let p = and_parts (eqb a 47) (eqb b 47) t in
    none (codes "//") text (inl refl) (ap (λ (x : ℕ). x ∷ b ∷ text) (eqb-true a 47 p.0) ∙ ap (λ (x : ℕ). 47 ∷ x ∷ text) (eqb-true b 47 p.1)))

second_mark : (text : List ℕ) → NoComment text → (eqb (get_or text 0 0) 47 && eqb (get_or text 1 0) 42) ≡ false
second_mark [] none = refl
second_mark (a ∷ []) none = false_from_ne_true _ (λ t. let p = and_parts (eqb a 47) false t in absurd cc)
second_mark (a ∷ b ∷ text) none = false_from_ne_true _ (λ t.
    let p = and_parts (eqb a 47) (eqb b 42) t in
    none (codes "/*") text (inr refl) (ap (λ (x : ℕ). x ∷ b ∷ text) (eqb-true a 47 p.0) ∙ ap (λ (x : ℕ). 47 ∷ x ∷ text) (eqb-true b 42 p.1)))

mark_found : (text : List ℕ) → NoComment text → mark_of text ≡ sign_front (sign_at text)
unfolding mark_of
mark_found text none = cond-false _ _ _ (first_mark text none) ∙ cond-false _ _ _ (second_mark text none)

apart_found : (b : ℕ) (bs : List ℕ) → IsApart b → front_of (b ∷ bs) ≡ mark_of (b ∷ bs)
unfolding front_of
apart_found b bs apart = cond-false _ _ _ apart.0 ∙ cond-false _ _ _ apart.1 ∙ cond-false _ _ _ apart.2 ∙ cond-false _ _ _ apart.3

sign_finds_of : (s : ℕ) (bytes rest : List ℕ) → slice_get signs s ≡ Some bytes → IsApart (get_or bytes 0 0) × IsListed s bytes → IsLongest bytes rest → NoComment (bytes ++ rest) → Finds (Some (SignToken s)) bytes rest
sign_finds_of s [] rest is l longest none = absurd l.1
sign_finds_of s (b ∷ bs) rest is l longest none = record {
  form = Sign s;
  found = apart_found b (bs ++ rest) l.0 ∙ mark_found (b ∷ (bs ++ rest)) none ∙ ap sign_front (sign_complete s (b ∷ bs) rest is longest);
  means = refl;
  some = omega arith;
}

token_found : (lexeme : Lexeme) (bytes rest : List ℕ) → IsToken lexeme bytes rest → Finds (Some lexeme) bytes rest
token_found (WordToken name) bytes rest t = subst (λ (x : List ℕ). Finds (Some (WordToken name)) x rest) (sym t.spells.0) (word_finds name rest t.spells.1 t.spells.2 t.ends)
token_found (NumberToken value hex) bytes rest t = number_finds bytes rest value hex t.spells t.ends
token_found (TextToken value) bytes rest t = subst (λ (x : List ℕ). Finds (Some (TextToken value)) x rest) (sym t.spells.0) (text_finds value rest t.spells.1)
token_found (SignToken s) bytes rest t = sign_finds_of s bytes rest t.spells (listed s bytes t.spells) t.ends.0 t.ends.1
token_found End bytes rest t = absurd t.spells

pub front_complete : (l : Option Lexeme) (bytes rest : List ℕ) → Begins l bytes rest → Finds l bytes rest
front_complete None bytes rest b = gap_found bytes rest b
front_complete (Some lexeme) bytes rest b = token_found lexeme bytes rest b

-- ---- one piece at the front

pub record IsSamePiece (l l' : Option Lexeme) (bytes rest bytes' rest' : List ℕ) : Type 0 where
  pub lexeme : l ≡ l'
  pub bytes_same : bytes ≡ bytes'
  pub rest_same : rest ≡ rest'

front_pair : Front → Form × ℕ → Form × ℕ
front_pair (Ok p) d = p
front_pair (Err kind) d = d

ok_pair : (form form' : Form) (n n' : ℕ) → (let front : Front = Ok (form, n) in front ≡ Ok (form', n')) → (form ≡ form') × (n ≡ n')
unfolding front_pair
ok_pair form form' n n' e =
    let p : (form, n) ≡ (form', n') = ap (λ (x : Front). front_pair x (form, n)) e in
    (ap (λ (x : Form × ℕ). x.0) p, ap (λ (x : Form × ℕ). x.1) p)

pub same_piece : (l l' : Option Lexeme) (bytes rest bytes' rest' : List ℕ) → Begins l bytes rest → Begins l' bytes' rest' → bytes ++ rest ≡ bytes' ++ rest' → IsSamePiece l l' bytes rest bytes' rest'
same_piece l l' bytes rest bytes' rest' b b' e =
    let f = front_complete l bytes rest b in
    let f' = front_complete l' bytes' rest' b' in
    let pair = ok_pair f.form f'.form (length bytes) (length bytes') (sym f.found ∙ ap front_of e ∙ f'.found) in
    let forms : f.form ≡ f'.form = pair.0 in
    let long : length bytes ≡ length bytes' = pair.1 in
    let same : bytes ≡ bytes' = sym (take_at bytes rest (length bytes) refl) ∙ ap (take (length bytes)) e ∙ take_at bytes' rest' (length bytes) (sym long) in
    record {
      lexeme = sym f.means ∙ ap (λ (x : Form). lexeme_of x bytes) forms ∙ ap (lexeme_of f'.form) same ∙ f'.means;
      bytes_same = same;
      rest_same = sym (drop_at bytes rest (length bytes) refl) ∙ ap (drop (length bytes)) e ∙ drop_at bytes' rest' (length bytes) (sym long);
    }
