-- What is found at the front of a text is the gap or token with which it begins.
use Rattle.std.proofs.Common.{◌≡◌, ℕ, suc, ◌+◌, ◌<◌, ◌≤◌, Bool, true, false, eqb, leb, List, [], ◌∷◌, ◌++◌, length, get_or, take, drop, Option, Some, None, Ok, Err, refl, sym, ap, subst, ◌∙◌, arith, inl, inr, append_assoc}
use Rattle.std.specs.Prelude.{◌&&◌, not, codes, flat_map, IsTrue}
use Rattle.std.specs.List.{prefix_len, AllByRecursion}
use Rattle.std.specs.Char.{is_ascii_digit}
use Rattle.std.proofs.lemmas.Bool.{cond-true, cond-false, cond_both, and_parts, and_from, eqb-true, eq-eqb, ne_eqb, leb-true, both_ways, not-true, not-false}
use Rattle.std.proofs.lemmas.List.{length-append, take-append-drop, length-take-le}
use Rattle.std.proofs.lemmas.List.Elements.{All-from_recursion}
use Rattle.jp_ast.specs.declared.token.Lexeme.{Lexeme}
use Rattle.jp_lexical.specs.declared.fault.LexKind.TheVariants.{BadByte, BadNumber, OpenText, LongName}
use Rattle.jp_lexical.specs.Characters.{is_white, begins_word, is_word_byte}
use Rattle.jp_lexical.specs.Tokens.{IsToken, NoComment, IsGap, white, line, block, AtLineEnd, written, is_letter}
use Rattle.jp_lexical.specs.Lexed.{kind_of}
use Rattle.jp_lexer.specs.declared.front.Form.{Form}
use Rattle.jp_lexer.specs.declared.front.Form.TheVariants.{Gap, Word, Text}
use Rattle.jp_lexer.specs.Scanning.{Front, front_of, word_of, number_of, mark_of, lexeme_of, number_value, number_front, text_front, comment_front, sign_front, close_len, text_len, sign_at}
use Rattle.jp_lexer.proofs.Runs.{Stops, AllPass, one_plus, stops_behind, all_in_front, prefix_len-le, NoWordByte-stops, begins-is_word_byte, rest_is_digit, mark_isnt_digit, mark_isnt_letter, quote_apart}
use Rattle.jp_lexer.proofs.Closings.{close_sound}
use Rattle.jp_lexer.proofs.Hexadecimals.{Found, number_sound}
use Rattle.jp_lexer.proofs.Quotes.{text_sound, text_value-inside}
use Rattle.jp_lexer.proofs.SignTable.{sign_sound, slash_found}

-- a gap, or the token
abbrev pub Begins : Option Lexeme → List ℕ → List ℕ → Type 0
Begins None bytes rest = IsGap bytes rest
Begins (Some lexeme) bytes rest = IsToken lexeme bytes rest

-- the text begins with a gap or token of this form and length
pub record Splits (text : List ℕ) (form : Form) (n : ℕ) : Type 0 where
  pub bytes : List ℕ
  pub rest : List ℕ
  pub parts : text ≡ bytes ++ rest
  pub long : length bytes ≡ n
  pub some : 0 < n
  pub begins : Begins (lexeme_of form bytes) bytes rest
  pub literal : form ≡ Text → 2 ≤ n

-- the answer is right for the text
abbrev pub Holds : List ℕ → Front → Type 0
Holds text (Ok found) = Splits text found.0 found.1
Holds text (Err kind) = kind ≡ kind_of (get_or text 0 0)

-- ---- words and numbers

word_front : (b : ℕ) (bs : List ℕ) → begins_word b ≡ true → is_word_byte b ≡ true → suc (prefix_len is_word_byte bs) ≤ 255 → Splits (b ∷ bs) Word (suc (prefix_len is_word_byte bs))
word_front b bs begins word short =
    let m = prefix_len is_word_byte bs in
    let long : length (b ∷ take m bs) ≡ suc m = omega (arith, length-take-le m bs (prefix_len-le is_word_byte bs)) in
    record {
      bytes = b ∷ take m bs;
      rest = drop m bs;
      parts = ap (λ (x : List ℕ). b ∷ x) (sym (take-append-drop m bs));
      long = long;
      some = omega arith;
      begins = record {
        spells = (
          refl,
          record { some = omega arith; begins = begins; goes_on = All-from_recursion (λ x. IsTrue (is_word_byte x)) (b ∷ take m bs) (word, all_in_front is_word_byte bs) },
          omega (arith, long, short),
        );
        ends = NoWordByte-stops (drop m bs) (stops_behind is_word_byte bs);
      };
      literal = λ e. absurd cc;
    }

long_name : (b : ℕ) → begins_word b ≡ true → LongName ≡ kind_of b
unfolding kind_of
long_name b t = sym (cond-true _ _ _ t)

word_holds : (b : ℕ) (bs : List ℕ) → begins_word b ≡ true → Holds (b ∷ bs) (word_of (b ∷ bs))
unfolding word_of
word_holds b bs begins =
    let word : is_word_byte b ≡ true = begins-is_word_byte b begins in
    rw word (rw one_plus (cond_both (leb (suc (prefix_len is_word_byte bs)) 255) _ _ (Holds (b ∷ bs)) (λ t. word_front b bs begins word (leb-true _ _ t)) (λ f. long_name b begins)))

bad_number : (b : ℕ) → is_word_byte b ≡ true → begins_word b ≡ false → BadNumber ≡ kind_of b
unfolding kind_of
bad_number b word f = sym (cond-false _ _ _ f ∙ cond-true _ _ _ (rest_is_digit b word f))

number_holds_of : (b : ℕ) (bs : List ℕ) (o : Option (ℕ × Bool)) → begins_word b ≡ false → is_word_byte b ≡ true → Found (b ∷ take (prefix_len is_word_byte bs) bs) o → Holds (b ∷ bs) (number_front o (suc (prefix_len is_word_byte bs)))
number_holds_of b bs None f word found = bad_number b word f
number_holds_of b bs (Some v) f word found =
    let m = prefix_len is_word_byte bs in
    record {
      bytes = b ∷ take m bs;
      rest = drop m bs;
      parts = ap (λ (x : List ℕ). b ∷ x) (sym (take-append-drop m bs));
      long = omega (arith, length-take-le m bs (prefix_len-le is_word_byte bs));
      some = omega arith;
      begins = record { spells = found; ends = NoWordByte-stops (drop m bs) (stops_behind is_word_byte bs) };
      literal = λ e. absurd cc;
    }

number_holds : (b : ℕ) (bs : List ℕ) → begins_word b ≡ false → is_word_byte b ≡ true → Holds (b ∷ bs) (number_of (b ∷ bs))
unfolding number_of
number_holds b bs f word = rw word (rw one_plus (number_holds_of b bs (number_value (b ∷ take (prefix_len is_word_byte bs) bs)) f word (number_sound (b ∷ take (prefix_len is_word_byte bs) bs))))

-- ---- texts

open_text : (b : ℕ) → eqb b 34 ≡ true → OpenText ≡ kind_of b
unfolding kind_of
open_text b t =
    let apart = quote_apart b (eqb-true b 34 t) in
    let f : begins_word b ≡ false = apart.0 in
    let g : is_ascii_digit b ≡ false = apart.3 in
    rw (f, g, t) refl

text_holds_of : (b : ℕ) (bs : List ℕ) (o : Option ℕ) → eqb b 34 ≡ true → text_len false bs ≡ o → Holds (b ∷ bs) (text_front o)
text_holds_of b bs None t e = open_text b t
text_holds_of b bs (Some n) t e =
    let r = text_sound false bs n e in
    let quote = eqb-true b 34 t in
    record {
      bytes = 34 ∷ (r.body ++ 34 ∷ []);
      rest = r.rest;
      parts = ap (λ (x : ℕ). x ∷ bs) quote ∙ ap (λ (x : List ℕ). 34 ∷ x) (r.parts ∙ sym (append_assoc r.body (34 ∷ []) r.rest));
      long = omega (arith, length-append r.body (34 ∷ []), r.long);
      some = omega arith;
      begins = record {
        spells = (
          ap (λ (x : List ℕ). 34 ∷ (x ++ 34 ∷ [])) (r.spelled ∙ ap (flat_map written) (sym (text_value-inside r.body))),
          All-from_recursion (λ x. IsTrue (is_letter x)) _ (subst (AllByRecursion (λ x. is_letter x ≡ true)) (sym (text_value-inside r.body)) r.letters),
        );
        ends = tt;
      };
      literal = λ x. omega (arith, r.long);
    }

-- ---- comments and signs

open_comment : (b : ℕ) → eqb b 47 ≡ true → OpenText ≡ kind_of b
unfolding kind_of begins_word
open_comment b t = subst (λ (x : ℕ). OpenText ≡ kind_of x) (sym (eqb-true b 47 t)) refl

line_end : (xs : List ℕ) → Stops (λ b. not (eqb b 10)) xs → AtLineEnd xs
line_end [] h = tt
line_end (x ∷ xs) h = eqb-true x 10 (not-false (eqb x 10) h)

no_feeds : (xs : List ℕ) → AllPass (λ b. not (eqb b 10)) xs → AllByRecursion (λ b. ¬ (b ≡ 10)) xs
no_feeds [] all = tt
no_feeds (x ∷ xs) all = (λ e. both_ways (eqb x 10) (not-true (eqb x 10) all.0) (eq-eqb x 10 e), no_feeds xs all.1)

line_holds : (b c : ℕ) (cs : List ℕ) → eqb b 47 ≡ true → eqb c 47 ≡ true → Splits (b ∷ c ∷ cs) Gap (2 + prefix_len (λ b. not (eqb b 10)) cs)
line_holds b c cs t u =
    let p : ℕ → Bool = λ b. not (eqb b 10) in
    let m = prefix_len p cs in
    record {
      bytes = 47 ∷ 47 ∷ take m cs;
      rest = drop m cs;
      parts = ap (λ (x : ℕ). x ∷ c ∷ cs) (eqb-true b 47 t) ∙ ap (λ (x : ℕ). 47 ∷ x ∷ cs) (eqb-true c 47 u) ∙ ap (λ (x : List ℕ). 47 ∷ 47 ∷ x) (sym (take-append-drop m cs));
      long = omega (arith, length-take-le m cs (prefix_len-le p cs));
      some = omega arith;
      begins = line (take m cs) refl (All-from_recursion (λ b. ¬ (b ≡ 10)) (take m cs) (no_feeds (take m cs) (all_in_front p cs))) (line_end (drop m cs) (stops_behind p cs));
      literal = λ e. absurd cc;
    }

block_holds_of : (b c : ℕ) (cs : List ℕ) (o : Option ℕ) → eqb b 47 ≡ true → eqb c 42 ≡ true → close_len cs ≡ o → Holds (b ∷ c ∷ cs) (comment_front o)
block_holds_of b c cs None t u e = open_comment b t
block_holds_of b c cs (Some n) t u e =
    let r = close_sound cs n e in
    record {
      bytes = (47 ∷ 42 ∷ r.body) ++ codes "*/";
      rest = r.rest;
      parts = ap (λ (x : ℕ). x ∷ c ∷ cs) (eqb-true b 47 t) ∙ ap (λ (x : ℕ). 47 ∷ x ∷ cs) (eqb-true c 42 u) ∙ ap (λ (x : List ℕ). 47 ∷ 42 ∷ x) (r.parts ∙ sym (append_assoc r.body (codes "*/") r.rest));
      long = omega (arith, length-append (47 ∷ 42 ∷ r.body) (codes "*/"), r.long);
      some = omega arith;
      begins = block r.body refl r.at_end;
      literal = λ e. absurd cc;
    }

bad_byte : (b : ℕ) → is_word_byte b ≡ false → eqb b 34 ≡ false → (b ≡ 47 → ⊥) → BadByte ≡ kind_of b
unfolding kind_of
bad_byte b f g h =
    let f' : begins_word b ≡ false = mark_isnt_letter b f in
    let d : is_ascii_digit b ≡ false = mark_isnt_digit b f in
    let s : eqb b 47 ≡ false = ne_eqb b 47 h in
    rw (f', d, g, s) refl

-- neither `//` nor `/*` is at the front
abbrev NoMark : List ℕ → Type 0
NoMark text = ((eqb (get_or text 0 0) 47 && eqb (get_or text 1 0) 47) ≡ false) × ((eqb (get_or text 0 0) 47 && eqb (get_or text 1 0) 42) ≡ false)

no_comment : (text : List ℕ) → NoMark text → NoComment text
no_comment text n mark more which e = elim which [
  | inl is ↦
      let parts : text ≡ 47 ∷ 47 ∷ more = e ∙ ap (λ (x : List ℕ). x ++ more) is in
      both_ways _ n.0 (and_from _ _ (eq-eqb _ 47 (ap (λ (x : List ℕ). get_or x 0 0) parts)) (eq-eqb _ 47 (ap (λ (x : List ℕ). get_or x 1 0) parts)))
  | inr is ↦
      let parts : text ≡ 47 ∷ 42 ∷ more = e ∙ ap (λ (x : List ℕ). x ++ more) is in
      both_ways _ n.1 (and_from _ _ (eq-eqb _ 47 (ap (λ (x : List ℕ). get_or x 0 0) parts)) (eq-eqb _ 42 (ap (λ (x : List ℕ). get_or x 1 0) parts)))
]

sign_holds_of : (b : ℕ) (bs : List ℕ) (o : Option (ℕ × ℕ)) → is_word_byte b ≡ false → eqb b 34 ≡ false → NoMark (b ∷ bs) → sign_at (b ∷ bs) ≡ o → Holds (b ∷ bs) (sign_front o)
sign_holds_of b bs None f g n e = bad_byte b f g (λ is. slash_found bs (ap (λ (x : ℕ). sign_at (x ∷ bs)) (sym is) ∙ e))
sign_holds_of b bs (Some v) f g n e =
    let r = sign_sound b bs v.0 v.1 e in
    record {
      bytes = r.bytes;
      rest = r.rest;
      parts = r.parts;
      long = r.long;
      some = r.some;
      begins = record { spells = r.is; ends = (r.longest, subst NoComment r.parts (no_comment (b ∷ bs) n)) };
      literal = λ e. absurd cc;
    }

line_holds_at : (b : ℕ) (bs : List ℕ) → (eqb b 47 && eqb (get_or bs 0 0) 47) ≡ true → Splits (b ∷ bs) Gap (2 + prefix_len (λ b. not (eqb b 10)) (drop 1 bs))
line_holds_at b [] t = let p = and_parts (eqb b 47) false t in absurd cc
line_holds_at b (c ∷ cs) t = let p = and_parts (eqb b 47) (eqb c 47) t in line_holds b c cs p.0 p.1

block_holds_at : (b : ℕ) (bs : List ℕ) → (eqb b 47 && eqb (get_or bs 0 0) 42) ≡ true → Holds (b ∷ bs) (comment_front (close_len (drop 1 bs)))
block_holds_at b [] t = let p = and_parts (eqb b 47) false t in absurd cc
block_holds_at b (c ∷ cs) t = let p = and_parts (eqb b 47) (eqb c 42) t in block_holds_of b c cs (close_len cs) p.0 p.1 refl

mark_holds : (b : ℕ) (bs : List ℕ) → is_word_byte b ≡ false → eqb b 34 ≡ false → Holds (b ∷ bs) (mark_of (b ∷ bs))
unfolding mark_of
mark_holds b bs f g =
    cond_both (eqb b 47 && eqb (get_or bs 0 0) 47) _ _ (Holds (b ∷ bs)) (line_holds_at b bs)
    (λ h. cond_both (eqb b 47 && eqb (get_or bs 0 0) 42) _ _ (Holds (b ∷ bs)) (block_holds_at b bs)
    (λ k. sign_holds_of b bs (sign_at (b ∷ bs)) f g (h, k) refl))

-- ---- the front

white_holds : (b : ℕ) (bs : List ℕ) → is_white b ≡ true → Splits (b ∷ bs) Gap 1
white_holds b bs t = record { bytes = b ∷ []; rest = bs; parts = refl; long = refl; some = omega arith; begins = white b refl t; literal = λ e. absurd cc }

pub front_holds : (b : ℕ) (bs : List ℕ) → Holds (b ∷ bs) (front_of (b ∷ bs))
unfolding front_of
front_holds b bs =
    cond_both (is_white b) _ _ (Holds (b ∷ bs)) (white_holds b bs) (λ w.
    cond_both (begins_word b) _ _ (Holds (b ∷ bs)) (word_holds b bs) (λ l.
    cond_both (is_word_byte b) _ _ (Holds (b ∷ bs)) (number_holds b bs l) (λ r.
    cond_both (eqb b 34) _ _ (Holds (b ∷ bs)) (λ q. text_holds_of b bs (text_len false bs) q refl) (λ q. mark_holds b bs r q))))
