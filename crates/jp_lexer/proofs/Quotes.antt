-- Text literals, and what is read of them.
use Rattle.std.proofs.Common.{◌≡◌, ◌⊎◌, ℕ, ◌+◌, ◌-◌, ◌≤◌, Bool, true, false, cond, eqb, leb, List, [], ◌∷◌, ◌++◌, length, take, Option, Some, None, refl, sym, ap, subst, ◌∙◌, arith, inl, inr}
use Rattle.std.specs.Prelude.{◌&&◌, ◌||◌, option_map, flat_map, is_some, not}
use Rattle.std.specs.List.{AllByRecursion}
use Rattle.std.proofs.lemmas.Bool.{cond-true, cond-false, cases_Bool, and_parts, or_cases, or_parts, or_right, eqb-true, ne_eqb, leb-true, not-true}
use Rattle.std.proofs.lemmas.List.{length-append, take_at}
use Rattle.std.proofs.lemmas.Option.{same_Some, none-some}
use Rattle.jp_lexical.specs.Characters.{is_plain}
use Rattle.jp_lexical.specs.Tokens.{is_letter, written}
use Rattle.jp_lexer.specs.Scanning.{escape_of, text_len, letters_of, text_value}

-- what holds of each answer in a row of tests holds of the answer
pub step : {A : Type 0} (t : Bool) (x y : A) (rest : Option A) (P : A → Type 0) → (t ≡ true → P x) → (rest ≡ Some y → P y) → cond t (Some x) rest ≡ Some y → P y
step true x y rest P here more e = subst P (same_Some x y e) (here refl)
step false x y rest P here more e = more e

-- ---- letters

abbrev Escapes : ℕ → ℕ → Type 0
Escapes b c = (written c ≡ 92 ∷ b ∷ []) × (is_letter c ≡ true)

-- an escape stands for a byte that is written so
escape_known : (b c : ℕ) → escape_of b ≡ Some c → Escapes b c
unfolding escape_of written is_letter
escape_known b c =
    step (eqb b 110) 10 c _ (Escapes b) (λ t. (ap (λ (x : ℕ). 92 ∷ x ∷ []) (sym (eqb-true b 110 t)), refl))
    (step (eqb b 116) 9 c _ (Escapes b) (λ t. (ap (λ (x : ℕ). 92 ∷ x ∷ []) (sym (eqb-true b 116 t)), refl))
    (step (eqb b 114) 13 c _ (Escapes b) (λ t. (ap (λ (x : ℕ). 92 ∷ x ∷ []) (sym (eqb-true b 114 t)), refl))
    (step (eqb b 34) 34 c _ (Escapes b) (λ t. (ap (λ (x : ℕ). 92 ∷ x ∷ []) (sym (eqb-true b 34 t)), refl))
    (step (eqb b 92) 92 c _ (Escapes b) (λ t. (ap (λ (x : ℕ). 92 ∷ x ∷ []) (sym (eqb-true b 92 t)), refl))
    (λ (e : None ≡ Some c). absurd (none-some c e))))))

pub record IsOwn (b : ℕ) : Type 0 where
  pub written_so : written b ≡ b ∷ []
  pub letter : is_letter b ≡ true
  pub no_escape : eqb b 92 ≡ false
  pub no_quote : eqb b 34 ≡ false

-- a plain byte stands for itself
plain_known : (b : ℕ) → is_plain b ≡ true → IsOwn b
unfolding is_plain written is_letter
plain_known b h =
    let p = and_parts (leb 32 b && leb b 126) (not (eqb b 34 || eqb b 92)) h in
    let q = and_parts (leb 32 b) (leb b 126) p.0 in
    let r = or_parts (eqb b 34) (eqb b 92) (not-true _ p.1) in
    let low : 32 ≤ b = leb-true 32 b q.0 in
    let e10 : eqb b 10 ≡ false = ne_eqb b 10 (λ e. omega arith) in
    let e9 : eqb b 9 ≡ false = ne_eqb b 9 (λ e. omega arith) in
    let e13 : eqb b 13 ≡ false = ne_eqb b 13 (λ e. omega arith) in
    let e34 : eqb b 34 ≡ false = r.0 in
    let e92 : eqb b 92 ≡ false = r.1 in
    record {
      written_so = rw (e10, e9, e13, e34, e92) refl;
      letter = or_right (eqb b 10 || eqb b 9 || eqb b 13 || eqb b 34 || eqb b 92) (is_plain b) h;
      no_escape = r.1;
      no_quote = r.0;
    }

-- how a byte that isn't plain is written
pub record IsEscaped (b : ℕ) : Type 0 where
  pub second : ℕ
  pub written_so : written b ≡ 92 ∷ second ∷ []
  pub means : escape_of second ≡ Some b

escaped_at : (b n second : ℕ) → eqb b n ≡ true → written n ≡ 92 ∷ second ∷ [] → escape_of second ≡ Some n → IsEscaped b
escaped_at b n second t w m = let e = eqb-true b n t in record { second = second; written_so = ap written e ∙ w; means = m ∙ ap (λ (x : ℕ). Some x) (sym e) }

letter_known : (b : ℕ) → is_letter b ≡ true → IsEscaped b ⊎ (is_plain b ≡ true)
unfolding is_letter escape_of written
letter_known b h = elim (or_cases (eqb b 10 || eqb b 9 || eqb b 13 || eqb b 34 || eqb b 92) (is_plain b) h) [
  | inr plain ↦ inr plain
  | inl h5 ↦ elim (or_cases (eqb b 10 || eqb b 9 || eqb b 13 || eqb b 34) (eqb b 92) h5) [
    | inr t ↦ inl (escaped_at b 92 92 t refl refl)
    | inl h4 ↦ elim (or_cases (eqb b 10 || eqb b 9 || eqb b 13) (eqb b 34) h4) [
      | inr t ↦ inl (escaped_at b 34 34 t refl refl)
      | inl h3 ↦ elim (or_cases (eqb b 10 || eqb b 9) (eqb b 13) h3) [
        | inr t ↦ inl (escaped_at b 13 114 t refl refl)
        | inl h2 ↦ elim (or_cases (eqb b 10) (eqb b 9) h2) [
          | inr t ↦ inl (escaped_at b 9 116 t refl refl)
          | inl t ↦ inl (escaped_at b 10 110 t refl refl)
        ]
      ]
    ]
  ]
]

-- ---- reading

abbrev pub AllLetters : List ℕ → Type 0
AllLetters value = AllByRecursion (λ b. is_letter b ≡ true) value

-- the inside of a text literal up to its closing quote, and what stands behind that
pub record Reads (escaped : Bool) (text : List ℕ) (n : ℕ) : Type 0 where
  pub body : List ℕ
  pub rest : List ℕ
  pub parts : text ≡ body ++ 34 ∷ rest
  pub long : n ≡ length body + 1
  pub spelled : cond escaped (92 ∷ body) body ≡ flat_map written (letters_of escaped body)
  pub letters : AllLetters (letters_of escaped body)

some_more : (o : Option ℕ) (n : ℕ) → option_map (λ k. 1 + k) o ≡ Some n → (k : ℕ) × (o ≡ Some k) × (n ≡ 1 + k)
some_more None n e = absurd cc
some_more (Some k) n e = (k, refl, cc)

known : (o : Option ℕ) → is_some o ≡ true → (c : ℕ) × (o ≡ Some c)
known None t = absurd cc
known (Some c) t = (c, refl)

-- a byte in front that completes an escape
read_escape : (b c : ℕ) (bs : List ℕ) (n k : ℕ) → escape_of b ≡ Some c → n ≡ 1 + k → Reads false bs k → Reads true (b ∷ bs) n
read_escape b c bs n k e more r =
    let w = escape_known b c e in record {
      body = b ∷ r.body;
      rest = r.rest;
      parts = ap (λ (x : List ℕ). b ∷ x) r.parts;
      long = omega (arith, more, r.long);
      spelled = rw e (rw w.0 (ap (λ (x : List ℕ). 92 ∷ b ∷ x) r.spelled));
      letters = rw e (w.1, r.letters);
    }

read_backslash : (b : ℕ) (bs : List ℕ) (n k : ℕ) → eqb b 92 ≡ true → n ≡ 1 + k → Reads true bs k → Reads false (b ∷ bs) n
read_backslash b bs n k t more r = record {
  body = b ∷ r.body;
  rest = r.rest;
  parts = ap (λ (x : List ℕ). b ∷ x) r.parts;
  long = omega (arith, more, r.long);
  spelled = rw t (ap (λ (x : ℕ). x ∷ r.body) (eqb-true b 92 t) ∙ r.spelled);
  letters = rw t r.letters;
}

read_plain : (b : ℕ) (bs : List ℕ) (n k : ℕ) → is_plain b ≡ true → n ≡ 1 + k → Reads false bs k → Reads false (b ∷ bs) n
read_plain b bs n k p more r =
    let own = plain_known b p in
    let e92 : eqb b 92 ≡ false = own.no_escape in
    let w : written b ≡ b ∷ [] = own.written_so in record {
      body = b ∷ r.body;
      rest = r.rest;
      parts = ap (λ (x : List ℕ). b ∷ x) r.parts;
      long = omega (arith, more, r.long);
      spelled = rw e92 (rw w (ap (λ (x : List ℕ). b ∷ x) r.spelled));
      letters = rw e92 (own.letter, r.letters);
    }

read_quote : (b : ℕ) (bs : List ℕ) (n : ℕ) → eqb b 34 ≡ true → 1 ≡ n → Reads false (b ∷ bs) n
read_quote b bs n t e = record { body = []; rest = bs; parts = ap (λ (x : ℕ). x ∷ bs) (eqb-true b 34 t); long = omega (arith, e); spelled = refl; letters = tt }

pub text_sound : (escaped : Bool) (text : List ℕ) (n : ℕ) → text_len escaped text ≡ Some n → Reads escaped text n
text_sound true [] n e = absurd cc
text_sound false [] n e = absurd cc
text_sound true (b ∷ bs) n e = elim (cases_Bool (is_some (escape_of b))) [
  | inl t ↦
      let c = known (escape_of b) t in
      let k = some_more (text_len false bs) n (sym (cond-true _ (option_map (λ k. 1 + k) (text_len false bs)) None t) ∙ e) in
      read_escape b c.0 bs n k.0 c.1 k.2 (text_sound false bs k.0 k.1)
  | inr f ↦ absurd (none-some n (sym (cond-false _ (option_map (λ k. 1 + k) (text_len false bs)) None f) ∙ e))
]
text_sound false (b ∷ bs) n e = elim (cases_Bool (eqb b 92)) [
  | inl t ↦ let k = some_more (text_len true bs) n (rw t at e) in read_backslash b bs n k.0 t k.2 (text_sound true bs k.0 k.1)
  | inr f ↦ elim (cases_Bool (eqb b 34)) [
    | inl t ↦ read_quote b bs n t (same_Some 1 n (rw (f, t) at e))
    | inr g ↦ elim (cases_Bool (is_plain b)) [
      | inl t ↦ let k = some_more (text_len false bs) n (rw (f, g, t) at e) in read_plain b bs n k.0 t k.2 (text_sound false bs k.0 k.1)
      | inr h ↦ absurd (none-some n (rw (f, g, h) at e))
    ]
  ]
]

-- what is written is read back
abbrev Back : List ℕ → List ℕ → Type 0
Back value rest = (text_len false (flat_map written value ++ 34 ∷ rest) ≡ Some (length (flat_map written value) + 1)) × (letters_of false (flat_map written value) ≡ value)

back_plain : (b : ℕ) (bs rest : List ℕ) → is_plain b ≡ true → Back bs rest → Back (b ∷ bs) rest
back_plain b bs rest p back =
    let own = plain_known b p in
    let e92 : eqb b 92 ≡ false = own.no_escape in
    let e34 : eqb b 34 ≡ false = own.no_quote in
    let w : written b ≡ b ∷ [] = own.written_so in (
      rw w (rw (e92, e34, p) (ap (λ (o : Option ℕ). option_map (λ k. 1 + k) o) back.0 ∙ ap (λ (k : ℕ). Some k) (omega arith))),
      rw w (rw e92 (ap (λ (x : List ℕ). b ∷ x) back.1)),
    )

back_escape : (b : ℕ) (bs rest : List ℕ) → IsEscaped b → Back bs rest → Back (b ∷ bs) rest
back_escape b bs rest x back =
    let w : written b ≡ 92 ∷ x.second ∷ [] = x.written_so in
    let m : escape_of x.second ≡ Some b = x.means in (
      rw w (rw m (ap (λ (o : Option ℕ). option_map (λ k. 1 + k) (option_map (λ k. 1 + k) o)) back.0 ∙ ap (λ (k : ℕ). Some k) (omega arith))),
      rw w (rw m (ap (λ (l : List ℕ). b ∷ l) back.1)),
    )

pub text_complete : (value rest : List ℕ) → AllLetters value → Back value rest
text_complete [] rest all = (refl, refl)
text_complete (b ∷ bs) rest all = elim (letter_known b all.0) [
  | inl x ↦ back_escape b bs rest x (text_complete bs rest all.1)
  | inr p ↦ back_plain b bs rest p (text_complete bs rest all.1)
]

pub text_value-inside : (body : List ℕ) → text_value (34 ∷ (body ++ 34 ∷ [])) ≡ letters_of false body
unfolding text_value
text_value-inside body =
    let len : length (34 ∷ (body ++ 34 ∷ [])) - 2 ≡ length body = omega (arith, length-append body (34 ∷ [])) in
    ap (λ (k : ℕ). letters_of false (take k (body ++ 34 ∷ []))) len ∙ ap (letters_of false) (take_at body (34 ∷ []) (length body) refl)
