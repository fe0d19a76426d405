-- The class of a program of prints is well formed.
use Rattle.std.specs.Prelude.{◌&&◌, ◌||◌, ◌⊎◌, IsTrue, nat_lt, codes}
use Rattle.std.specs.List.{list_all, list_any, AllByRecursion}
use Rattle.std.specs.Int.{is_in_range}
use Rattle.std.specs.Str.{bytes_eq}
use Rattle.std.proofs.Common.{◌≡◌, ℕ, ◌<◌, ◌≤◌, ℤ, Bool, true, false, List, [], ◌∷◌, ◌++◌, length, map, inl, inr, refl, arith, length-append}
use Rattle.std.proofs.lemmas.Bool.{lt-ltb}
use Rattle.std.proofs.lemmas.Bool.Decides.{nat_tests}
use Rattle.std.proofs.lemmas.List.{length-map}
use Rattle.std.proofs.lemmas.List.Elements.{recursion_from_All}
use Rattle.class_form.specs.declared.constant.Const.{Const}
use Rattle.class_form.specs.declared.constant.Const.TheVariants.{Integer, Utf8}
use Rattle.class_form.specs.WellFormed.{WellFormed, is_spaced, text_fits, has_right_indices, is_text_byte, is_code_text, code_size, member_fits}
use Rattle.jp_lexical.specs.Characters.{is_word_byte}
use Rattle.jp_lexical.specs.Words.{IsName}
use Rattle.jpred_cli.specs.Built.{fixed_constants, code_from, main_code, main_method, class_of}
use Rattle.jpred_cli.proofs.Loads.{code_length}

numbers_spaced : (numbers : List ℤ) → is_spaced false (map Integer numbers) ≡ true
numbers_spaced [] = refl
numbers_spaced (n ∷ more) = numbers_spaced more

numbers_fit : (numbers : List ℤ) → list_all text_fits (map Integer numbers) ≡ true
numbers_fit [] = refl
numbers_fit (n ∷ more) = numbers_fit more

numbers_right : (constants : List Const) (numbers : List ℤ) → list_all (has_right_indices constants) (map Integer numbers) ≡ true
numbers_right constants [] = refl
numbers_right constants (n ∷ more) = numbers_right constants more

-- a byte of a word is one of a text
or_cases : (a b : Bool) → (a || b) ≡ true → (a ≡ true) ⊎ (b ≡ true)
or_cases true b e = inl refl
or_cases false b e = inr e

both : (a b : Bool) → a ≡ true → b ≡ true → (a && b) ≡ true
both a b p q = rw p q

ranged : (low high b : ℕ) → 0 < low → high < 240 → is_in_range low high b ≡ true → is_text_byte b ≡ true
ranged low high b p q e = grind (arith, nat_tests)

word_byte : (b : ℕ) → is_word_byte b ≡ true → is_text_byte b ≡ true
unfolding is_word_byte
word_byte b e = grind (arith, nat_tests)

word_bytes : (bytes : List ℕ) → AllByRecursion (λ b. IsTrue (is_word_byte b)) bytes → list_all is_text_byte bytes ≡ true
word_bytes [] h = refl
word_bytes (b ∷ more) h = both (is_text_byte b) (list_all is_text_byte more) (word_byte b h.0) (word_bytes more h.1)

or_true : (a b : Bool) → b ≡ true → (a || b) ≡ true
or_true true b e = refl
or_true false b e = e

module _ (main : List ℕ) (numbers : List ℤ) where
  abbrev constants : List Const
  constants = fixed_constants main ++ map Integer numbers

  texts_fit : IsName main → list_all text_fits constants ≡ true
  texts_fit name =
      let short : nat_lt (length main) 65536 ≡ true = lt-ltb (length main) 65536 (omega (arith, name.short)) in
      let bytes = word_bytes main (recursion_from_All _ main name.word.goes_on) in
      let fits : text_fits (Utf8 main) ≡ true = both _ _ short bytes in
      rw fits (numbers_fit numbers)

  method_fits : length numbers ≤ 200 → member_fits constants (main_method numbers) ≡ true
  unfolding code_size
  method_fits few =
      let size = code_length 14 numbers in
      let some : nat_lt 0 (length (code_from 14 numbers)) ≡ true = lt-ltb 0 _ (omega arith) in
      let short : nat_lt (length (code_from 14 numbers)) 65536 ≡ true = lt-ltb _ 65536 (omega arith) in
      let whole : nat_lt (code_size (main_code numbers)) 4294967296 ≡ true = lt-ltb _ 4294967296 (omega arith) in
      rw some (rw short (rw whole refl))

  has_code : list_any is_code_text constants ≡ true
  has_code = or_true (bytes_eq main (codes "Code")) _ refl

  pub formed : IsName main → length numbers ≤ 200 → WellFormed (class_of main numbers)
  formed name few =
      record {
        count = lt-ltb _ 65536 (omega (arith, length-append (fixed_constants main) (map Integer numbers), length-map numbers Integer));
        spaced = numbers_spaced numbers;
        texts = texts_fit name;
        indices = numbers_right constants numbers;
        this_class = refl;
        super_class = refl;
        interface_count = refl;
        interfaces = refl;
        field_count = refl;
        fields = refl;
        method_count = refl;
        methods = both _ true (method_fits few) refl;
        attributes = refl;
        code_name = has_code;
      }
