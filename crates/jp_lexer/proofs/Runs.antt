-- How many bytes from the front on pass a test.
use Rattle.std.proofs.Common.{◌≡◌, ℕ, suc, ◌+◌, ◌≤◌, Bool, true, false, List, [], ◌∷◌, ◌++◌, length, take, drop, refl, ◌∙◌, arith, inl, inr}
use Rattle.std.specs.List.{prefix_len, AllByRecursion}
use Rattle.std.proofs.lemmas.Bool.{cond-true, cond-false, cases_Bool}
use Rattle.std.proofs.lemmas.Bool.Decides.{nat_tests}
use Rattle.jp_lexical.specs.Characters.{is_white, begins_word, is_word_byte}
use Rattle.jp_lexical.specs.Tokens.{NoWordByte}
use Rattle.std.specs.Char.{is_ascii_digit}

-- nothing that passes the test stands at the front
abbrev pub Stops : (ℕ → Bool) → List ℕ → Type 0
Stops p [] = Unit {0}
Stops p (x ∷ xs) = p x ≡ false

abbrev pub AllPass : (ℕ → Bool) → List ℕ → Type 0
AllPass p xs = AllByRecursion (λ x. p x ≡ true) xs

pub one_plus : (n : ℕ) → 1 + n ≡ suc n
one_plus n = omega arith

pub prefix_len-whole : (p : ℕ → Bool) (xs ys : List ℕ) → AllPass p xs → Stops p ys → prefix_len p (xs ++ ys) ≡ length xs
prefix_len-whole p [] [] all stops = refl
prefix_len-whole p [] (y ∷ ys) all stops = cond-false (p y) _ _ stops
prefix_len-whole p (x ∷ xs) ys all stops = cond-true (p x) _ _ all.0 ∙ (let more = prefix_len-whole p xs ys all.1 stops in omega arith)

pub stops_behind : (p : ℕ → Bool) (xs : List ℕ) → Stops p (drop (prefix_len p xs) xs)
stops_behind p [] = tt
stops_behind p (x ∷ xs) = elim (cases_Bool (p x)) [
  | inl passes ↦ rw passes (rw one_plus (stops_behind p xs))
  | inr fails ↦ rw fails fails
]

pub all_in_front : (p : ℕ → Bool) (xs : List ℕ) → AllPass p (take (prefix_len p xs) xs)
all_in_front p [] = tt
all_in_front p (x ∷ xs) = elim (cases_Bool (p x)) [
  | inl passes ↦ rw passes (rw one_plus (passes, all_in_front p xs))
  | inr fails ↦ rw fails tt
]

pub prefix_len-le : (p : ℕ → Bool) (xs : List ℕ) → prefix_len p xs ≤ length xs
prefix_len-le p [] = omega arith
prefix_len-le p (x ∷ xs) = elim (cases_Bool (p x)) [
  | inl passes ↦ rw passes (let more = prefix_len-le p xs in omega arith)
  | inr fails ↦ rw fails (omega arith)
]

pub NoWordByte-stops : (rest : List ℕ) → Stops is_word_byte rest → NoWordByte rest
NoWordByte-stops [] h = h
NoWordByte-stops (b ∷ rest) h = h

pub stops-NoWordByte : (rest : List ℕ) → NoWordByte rest → Stops is_word_byte rest
stops-NoWordByte [] h = h
stops-NoWordByte (b ∷ rest) h = h

-- ---- the classes of bytes

pub word_isnt_white : (b : ℕ) → is_word_byte b ≡ true → is_white b ≡ false
unfolding is_word_byte is_white
word_isnt_white b h = grind (arith, nat_tests)

pub begins-is_word_byte : (b : ℕ) → begins_word b ≡ true → is_word_byte b ≡ true
unfolding is_word_byte begins_word
begins-is_word_byte b h = grind (arith, nat_tests)

pub rest_is_digit : (b : ℕ) → is_word_byte b ≡ true → begins_word b ≡ false → is_ascii_digit b ≡ true
unfolding is_word_byte begins_word
rest_is_digit b h g = grind (arith, nat_tests)

pub digit_isnt_letter : (b : ℕ) → 48 ≤ b → b ≤ 57 → begins_word b ≡ false
unfolding begins_word
digit_isnt_letter b h g = grind (arith, nat_tests)

pub digit_is_word_byte : (b : ℕ) → 48 ≤ b → b ≤ 57 → is_word_byte b ≡ true
unfolding is_word_byte
digit_is_word_byte b h g = grind (arith, nat_tests)

pub mark_isnt_digit : (b : ℕ) → is_word_byte b ≡ false → is_ascii_digit b ≡ false
unfolding is_word_byte
mark_isnt_digit b h = grind (arith, nat_tests)

pub mark_isnt_letter : (b : ℕ) → is_word_byte b ≡ false → begins_word b ≡ false
unfolding is_word_byte begins_word
mark_isnt_letter b h = grind (arith, nat_tests)

pub quote_apart : (b : ℕ) → b ≡ 34 → (begins_word b ≡ false) × (is_word_byte b ≡ false) × (is_white b ≡ false) × (is_ascii_digit b ≡ false)
unfolding is_word_byte begins_word is_white
quote_apart b e = (grind (arith, nat_tests), grind (arith, nat_tests), grind (arith, nat_tests), grind (arith, nat_tests))
