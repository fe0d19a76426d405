-- A field that is read is the field that stands there, and what stands there is read again.
use Rattle.std.proofs.Common.{◌≡◌, ℕ, zero, suc, ◌+◌, ◌-◌, ◌^◌, ◌<◌, ◌≤◌, Bool, true, false, cond, ltb, List, [], ◌∷◌, ◌++◌, length, get_or, take, drop, Result, Ok, Err, refl, sym, ap, subst, ◌∙◌, append_assoc, arith, inl, inr, ◌⊎◌}
use Rattle.std.specs.Prelude.{flat_map}
use Rattle.std.specs.List.{list_all}
use Rattle.std.specs.Int.{Width, w16, w32, w64, byte_len, from_be_bytes, to_be_bytes}
use Rattle.std.proofs.lemmas.Bool.{cases_lt, ltb-false, le-ltb}
use Rattle.std.proofs.lemmas.List.{take_at, drop_at, take-append-drop, length-append, length-take, get_or-drop, get_or-take, get_or_past}
use Rattle.std.proofs.lemmas.List.Concat.{flat_map-cons}
use Rattle.std.proofs.lemmas.Nat.{be_bytes_2, be_bytes_4, be_bytes_8, from_be_bytes-to_be_bytes_2, from_be_bytes-to_be_bytes_4, from_be_bytes-to_be_bytes_8}
use Rattle.class_form.specs.Layout.{u2, u4, u8}
use Rattle.class_form.proofs.Facts.{both, and_both}
use Rattle.class_reader.specs.declared.fault.Defect.{Defect}
use Rattle.class_reader.specs.declared.fault.ClassKind.TheVariants.{Index}
use Rattle.class_reader.specs.declared.fields.Edge.{Edge}
use Rattle.class_reader.specs.Fields.{◌>>=◌, fault, u2_at, u4_at, u8_at, run_at, index_at, many_at}

abbrev pub IsBytes : List ℕ → Type 0
IsBytes bytes = (i : ℕ) → get_or bytes i 0 < 256

pub IsBytes-drop : (n : ℕ) (bytes : List ℕ) → IsBytes bytes → IsBytes (drop n bytes)
IsBytes-drop n bytes h i = rw get_or-drop (h (n + i))

pub IsBytes-take : (n : ℕ) (bytes : List ℕ) → IsBytes bytes → IsBytes (take n bytes)
IsBytes-take n bytes h i =
    elim (cases_lt i n) [
      | inl lt ↦ rw (get_or-take n bytes i 0 lt) (h i)
      | inr le ↦ rw (get_or_past (take n bytes) i 0 (omega (arith, length-take n bytes))) (omega arith)
    ]

pub IsBytes-rest : (b : ℕ) (bytes : List ℕ) → IsBytes (b ∷ bytes) → IsBytes bytes
IsBytes-rest b bytes h i = h (suc i)

-- the value of a step that did not fail
pub bind_ok : {A B : Type 0} (r : Result A Defect) (f : A → Result B Defect) (y : B) → (r >>= f) ≡ Ok y → (x : A) × (r ≡ Ok x) × (f x ≡ Ok y)
bind_ok (Ok x) f y e = (x, refl, e)
bind_ok (Err d) f y e = absurd cc

-- a test that did not fail
pub guard_ok : {A : Type 0} (b : Bool) (d : Defect) (x y : A) → cond b (Err d) (Ok x) ≡ Ok y → (b ≡ false) × (x ≡ y)
guard_ok true d x y e = absurd cc
guard_ok false d x y e = (refl, cc)

pub guard_then : {A : Type 0} (b : Bool) (d : Defect) (r : Result A Defect) (y : A) → cond b r (Err d) ≡ Ok y → (b ≡ true) × (r ≡ Ok y)
guard_then true d r y e = (refl, e)
guard_then false d r y e = absurd cc

pub guard_else : {A : Type 0} (b : Bool) (d : Defect) (r : Result A Defect) (y : A) → cond b (Err d) r ≡ Ok y → (b ≡ false) × (r ≡ Ok y)
guard_else true d r y e = absurd cc
guard_else false d r y e = (refl, e)

pub chosen : {A : Type 0} (b : Bool) (x y z : A) → cond b x y ≡ z → ((b ≡ true) × (x ≡ z)) ⊎ ((b ≡ false) × (y ≡ z))
chosen true x y z e = inl (refl, e)
chosen false x y z e = inr (refl, e)

abbrev done : {A : Type 0} → A → Result A Defect
done x = Ok x

pub ok_is : {A : Type 0} (x y : A) → done x ≡ done y → x ≡ y
ok_is x y e = cc

-- what was taken from the front
pub record Takes (bytes text rest : List ℕ) : Type 0 where
  pub parts : bytes ≡ text ++ rest
  pub rest_fits : IsBytes rest

pub Takes-then : (a x b y c : List ℕ) → Takes a x b → Takes b y c → Takes a (x ++ y) c
Takes-then a x b y c p q = record { parts = p.parts ∙ ap (λ (t : List ℕ). x ++ t) q.parts ∙ sym (append_assoc x y c); rest_fits = q.rest_fits }

-- ---- numbers

abbrev number_at : Edge → Width → List ℕ → Result (ℕ × List ℕ) Defect
number_at edge w bytes = cond (ltb (length bytes - edge.left) (byte_len w)) (Err edge.short) (Ok (from_be_bytes w (take (byte_len w) bytes), drop (byte_len w) bytes))

record IsWide (w : Width) (limit : ℕ) : Type 0 where
  len : (n : ℕ) → length (to_be_bytes w n) ≡ byte_len w
  back : (bytes : List ℕ) → length bytes ≡ byte_len w → IsBytes bytes → to_be_bytes w (from_be_bytes w bytes) ≡ bytes
  again : (n : ℕ) → n < limit → from_be_bytes w (to_be_bytes w n) ≡ n
  below : (bytes : List ℕ) → IsBytes bytes → from_be_bytes w bytes < limit

wide16 : IsWide w16 (2 ^ 16)
wide16 = record {
  len = λ n. refl;
  back = λ bytes len fits. be_bytes_2 bytes _ len fits refl;
  again = λ n lt. from_be_bytes-to_be_bytes_2 n lt;
  below = λ bytes fits. omega (arith, fits 0, fits 1);
}

wide32 : IsWide w32 (2 ^ 32)
wide32 = record {
  len = λ n. refl;
  back = λ bytes len fits. be_bytes_4 bytes _ len fits refl;
  again = λ n lt. from_be_bytes-to_be_bytes_4 n lt;
  below = λ bytes fits. omega (arith, fits 0, fits 1, fits 2, fits 3);
}

wide64 : IsWide w64 (2 ^ 64)
wide64 = record {
  len = λ n. refl;
  back = λ bytes len fits. be_bytes_8 bytes _ len fits refl;
  again = λ n lt. from_be_bytes-to_be_bytes_8 n lt;
  below = λ bytes fits. omega (arith, fits 0, fits 1, fits 2, fits 3, fits 4, fits 5, fits 6, fits 7);
}

number_takes : (edge : Edge) (w : Width) (limit : ℕ) (wide : IsWide w limit) (bytes : List ℕ) (x : ℕ × List ℕ) → IsBytes bytes → number_at edge w bytes ≡ Ok x → Takes bytes (to_be_bytes w x.0) x.1 × (x.0 < limit)
number_takes edge w limit wide bytes x fits e =
    let g = guard_ok (ltb (length bytes - edge.left) (byte_len w)) edge.short (from_be_bytes w (take (byte_len w) bytes), drop (byte_len w) bytes) x e in
    let enough : byte_len w ≤ length bytes - edge.left = ltb-false _ _ g.0 in
    let long : byte_len w ≤ length bytes = omega arith in
    let front : to_be_bytes w (from_be_bytes w (take (byte_len w) bytes)) ≡ take (byte_len w) bytes = wide.back (take (byte_len w) bytes) (omega (arith, length-take (byte_len w) bytes)) (IsBytes-take (byte_len w) bytes fits) in
    let made : Takes bytes (to_be_bytes w (from_be_bytes w (take (byte_len w) bytes))) (drop (byte_len w) bytes) = record { parts = rw front (sym (take-append-drop (byte_len w) bytes)); rest_fits = IsBytes-drop (byte_len w) bytes fits } in
    subst (λ (y : ℕ × List ℕ). Takes bytes (to_be_bytes w y.0) y.1 × (y.0 < limit)) g.1 (made, wide.below (take (byte_len w) bytes) (IsBytes-take (byte_len w) bytes fits))

number_again : (edge : Edge) (w : Width) (limit : ℕ) (wide : IsWide w limit) (n : ℕ) (rest : List ℕ) → n < limit → edge.left ≤ length rest → number_at edge w (to_be_bytes w n ++ rest) ≡ Ok (n, rest)
number_again edge w limit wide n rest lt room =
    let len = wide.len n in
    let long : ltb (length (to_be_bytes w n ++ rest) - edge.left) (byte_len w) ≡ false = le-ltb _ _ (omega (arith, length-append (to_be_bytes w n) rest)) in
    rw (long, take_at (to_be_bytes w n) rest (byte_len w) len, drop_at (to_be_bytes w n) rest (byte_len w) len, wide.again n lt) refl

pub u2_takes : (edge : Edge) (bytes : List ℕ) (x : ℕ × List ℕ) → IsBytes bytes → u2_at edge bytes ≡ Ok x → Takes bytes (u2 x.0) x.1 × (x.0 < 65536)
unfolding u2_at u2
u2_takes edge bytes x fits e = number_takes edge w16 (2 ^ 16) wide16 bytes x fits e

pub u4_takes : (edge : Edge) (bytes : List ℕ) (x : ℕ × List ℕ) → IsBytes bytes → u4_at edge bytes ≡ Ok x → Takes bytes (u4 x.0) x.1 × (x.0 < 4294967296)
unfolding u4_at u4
u4_takes edge bytes x fits e = number_takes edge w32 (2 ^ 32) wide32 bytes x fits e

pub u8_takes : (edge : Edge) (bytes : List ℕ) (x : ℕ × List ℕ) → IsBytes bytes → u8_at edge bytes ≡ Ok x → Takes bytes (u8 x.0) x.1 × (x.0 < 2 ^ 64)
unfolding u8_at u8
u8_takes edge bytes x fits e = number_takes edge w64 (2 ^ 64) wide64 bytes x fits e

pub u2_again : (edge : Edge) (n : ℕ) (rest : List ℕ) → n < 65536 → edge.left ≤ length rest → u2_at edge (u2 n ++ rest) ≡ Ok (n, rest)
unfolding u2_at u2
u2_again edge n rest lt room = number_again edge w16 (2 ^ 16) wide16 n rest lt room

pub u4_again : (edge : Edge) (n : ℕ) (rest : List ℕ) → n < 4294967296 → edge.left ≤ length rest → u4_at edge (u4 n ++ rest) ≡ Ok (n, rest)
unfolding u4_at u4
u4_again edge n rest lt room = number_again edge w32 (2 ^ 32) wide32 n rest lt room

pub u8_again : (edge : Edge) (n : ℕ) (rest : List ℕ) → n < 2 ^ 64 → edge.left ≤ length rest → u8_at edge (u8 n ++ rest) ≡ Ok (n, rest)
unfolding u8_at u8
u8_again edge n rest lt room = number_again edge w64 (2 ^ 64) wide64 n rest lt room

-- ---- runs of bytes, and indices

pub run_takes : (edge : Edge) (n : ℕ) (bytes : List ℕ) (x : List ℕ × List ℕ) → IsBytes bytes → run_at edge n bytes ≡ Ok x → Takes bytes x.0 x.1 × (length x.0 ≡ n) × (x.0 ≡ take n bytes)
unfolding run_at
run_takes edge n bytes x fits e =
    let g = guard_ok (ltb (length bytes - edge.left) n) edge.short (take n bytes, drop n bytes) x e in
    let enough : n ≤ length bytes - edge.left = ltb-false _ _ g.0 in
    let len : length (take n bytes) ≡ n = omega (arith, length-take n bytes) in
    let made : Takes bytes (take n bytes) (drop n bytes) = record { parts = sym (take-append-drop n bytes); rest_fits = IsBytes-drop n bytes fits } in
    subst (λ (y : List ℕ × List ℕ). Takes bytes y.0 y.1 × (length y.0 ≡ n) × (y.0 ≡ take n bytes)) g.1 (made, len, refl)

pub run_again : (edge : Edge) (text rest : List ℕ) → edge.left ≤ length rest → run_at edge (length text) (text ++ rest) ≡ Ok (text, rest)
unfolding run_at
run_again edge text rest room =
    let long : ltb (length (text ++ rest) - edge.left) (length text) ≡ false = le-ltb _ _ (omega (arith, length-append text rest)) in
    rw (long, take_at text rest (length text) refl, drop_at text rest (length text) refl) refl

pub index_takes : (edge : Edge) (right : ℕ → Bool) (bytes : List ℕ) (x : ℕ × List ℕ) → IsBytes bytes → index_at edge right bytes ≡ Ok x → Takes bytes (u2 x.0) x.1 × (right x.0 ≡ true)
unfolding index_at
index_takes edge right bytes x fits e =
    let b = bind_ok (u2_at edge bytes) (λ index. cond (right index.0) (Ok index) (Err (fault Index bytes))) x e in
    let g = guard_then (right b.0.0) (fault Index bytes) (Ok b.0) x b.2 in
    let t = u2_takes edge bytes b.0 fits b.1 in
    subst (λ (y : ℕ × List ℕ). Takes bytes (u2 y.0) y.1 × (right y.0 ≡ true)) (ok_is b.0 x g.1) (t.0, g.0)

pub index_again : (edge : Edge) (right : ℕ → Bool) (n : ℕ) (rest : List ℕ) → right n ≡ true → n < 65536 → edge.left ≤ length rest → index_at edge right (u2 n ++ rest) ≡ Ok (n, rest)
unfolding index_at
index_again edge right n rest is lt room = rw (u2_again edge n rest lt room, is) refl

-- ---- lists of items

pub many_take : {A : Type 0} (item : List ℕ → Result (A × List ℕ) Defect) (spell : A → List ℕ) (right : A → Bool) (each : (bytes : List ℕ) (x : A × List ℕ) → IsBytes bytes → item bytes ≡ Ok x → Takes bytes (spell x.0) x.1 × (right x.0 ≡ true))
    (n : ℕ) (bytes : List ℕ) (x : List A × List ℕ) → IsBytes bytes → many_at item n bytes ≡ Ok x → Takes bytes (flat_map spell x.0) x.1 × (length x.0 ≡ n) × (list_all right x.0 ≡ true)
unfolding many_at
many_take {A} item spell right each zero bytes x fits e =
    subst (λ (y : List A × List ℕ). Takes bytes (flat_map spell y.0) y.1 × (length y.0 ≡ 0) × (list_all right y.0 ≡ true)) (ok_is ([], bytes) x e) (record { parts = refl; rest_fits = fits }, refl, refl)
many_take {A} item spell right each (suc n) bytes x fits e =
    let a = bind_ok (item bytes) (λ first. many_at item n first.1 >>= λ others. Ok (first.0 ∷ others.0, others.1)) x e in
    let b = bind_ok (many_at item n a.0.1) (λ others. Ok (a.0.0 ∷ others.0, others.1)) x a.2 in
    let first = each bytes a.0 fits a.1 in
    let second = many_take item spell right each n a.0.1 b.0 first.0.rest_fits b.1 in
    let whole = Takes-then bytes (spell a.0.0) a.0.1 (flat_map spell b.0.0) b.0.1 first.0 second.0 in
    let made : List A × List ℕ = (a.0.0 ∷ b.0.0, b.0.1) in
    subst (λ (y : List A × List ℕ). Takes bytes (flat_map spell y.0) y.1 × (length y.0 ≡ suc n) × (list_all right y.0 ≡ true)) (ok_is made x b.2) (rw flat_map-cons whole, ap suc second.1, and_both (right a.0.0) (list_all right b.0.0) first.1 second.2)

pub many_again : {A : Type 0} (edge : Edge) (item : List ℕ → Result (A × List ℕ) Defect) (spell : A → List ℕ) (right : A → Bool) (each : (x : A) (rest : List ℕ) → right x ≡ true → edge.left ≤ length rest → item (spell x ++ rest) ≡ Ok (x, rest))
    (xs : List A) (rest : List ℕ) → list_all right xs ≡ true → edge.left ≤ length rest → many_at item (length xs) (flat_map spell xs ++ rest) ≡ Ok (xs, rest)
unfolding many_at
many_again edge item spell right each [] rest h room = refl
many_again edge item spell right each (x ∷ xs) rest h room =
    let b = both (right x) (list_all right xs) h in
    let regrouped : flat_map spell (x ∷ xs) ++ rest ≡ spell x ++ (flat_map spell xs ++ rest) = ap (λ (t : List ℕ). t ++ rest) (flat_map-cons spell x xs) ∙ append_assoc (spell x) (flat_map spell xs) rest in
    ap (many_at item (suc (length xs))) regrouped ∙ rw (each x (flat_map spell xs ++ rest) b.0 (omega (arith, length-append (flat_map spell xs) rest)), many_again edge item spell right each xs rest b.1 room) refl
