-- A constant that is read is the constant that stands there, and what stands there is read again.
use Rattle.std.proofs.Common.{◌≡◌, ℕ, zero, suc, ◌+◌, ◌-◌, ◌<◌, ◌≤◌, Bool, true, false, not, ◌&&◌, cond, eqb, ltb, List, [], ◌∷◌, ◌++◌, length, take, drop, Option, Some, None, Result, Ok, refl, sym, ap, subst, arith, inl, inr}
use Rattle.std.specs.Prelude.{flat_map}
use Rattle.std.specs.List.{list_all, prefix_len, AllByRecursion}
use Rattle.std.specs.Int.{w32, w64, cast_signed, cast_unsigned}
use Rattle.std.proofs.lemmas.Bool.{false_from_ne_true, eqb-true, ltb-true, ltb-false, le-ltb, lt-ltb}
use Rattle.std.proofs.lemmas.Int.{of_z-to_z}
use Rattle.std.proofs.Math.Facts.{sfits_to_z, Fits-of_lt}
use Rattle.std.proofs.lemmas.List.{take_at}
use Rattle.std.proofs.lemmas.List.Concat.{flat_map-cons}
use Rattle.class_form.specs.declared.constant.Const.{Const}
use Rattle.class_form.specs.declared.constant.Const.TheVariants.{Unused, Utf8, Integer, Float, Long, Double, Class, Text, Fieldref, Methodref, InterfaceMethodref, NameAndType}
use Rattle.class_form.specs.WellFormed.{names, is_utf8, is_class, is_name_and_type, is_unused, is_wide, is_spaced, is_text_byte, text_fits, has_right_indices, constant_size}
use Rattle.class_form.specs.Layout.{u2, u4, u8, constant_bytes, pool_bytes, NumberInRange}
use Rattle.class_form.proofs.Facts.{both, and_both}
use Rattle.class_reader.specs.declared.fault.Defect.{Defect}
use Rattle.class_reader.specs.declared.fault.ClassKind.TheVariants as kinds
use Rattle.class_reader.specs.Fields.{◌>>=◌, fault, file_edge, u2_at, u4_at, u8_at, run_at}
use Rattle.class_reader.specs.Reading.{text_run, text_at, numbered, pair_at, wide_at, tagged_at, constant_at, entry_at, entries_at, bad_one, bad_pair, bad_index, found_first, bad_index_among, with_right_indices, pool_at}
use Rattle.class_reader.proofs.FieldLaws.{IsBytes, IsBytes-rest, bind_ok, guard_else, chosen, ok_is, Takes, Takes-then, u2_takes, u4_takes, u8_takes, u2_again, run_takes, run_again}

-- ---- texts

prefix_step : (b : Bool) (n m : ℕ) → suc n ≤ cond b (1 + m) 0 → (b ≡ true) × (n ≤ m)
prefix_step true n m le = (refl, omega (arith, le))
prefix_step false n m le = absurd (omega (arith, le))

prefix_all : (p : ℕ → Bool) (xs : List ℕ) → length xs ≤ prefix_len p xs → list_all p xs ≡ true
prefix_all p [] le = refl
prefix_all p (x ∷ xs) le =
    let s = prefix_step (p x) (length xs) (prefix_len p xs) le in
    and_both (p x) (list_all p xs) s.0 (prefix_all p xs s.1)

all_prefix : (p : ℕ → Bool) (xs : List ℕ) → list_all p xs ≡ true → prefix_len p xs ≡ length xs
all_prefix p [] h = refl
all_prefix p (x ∷ xs) h =
    let b = both (p x) (list_all p xs) h in
    rw b.0 (omega (arith, all_prefix p xs b.1))

text_takes : (bytes : List ℕ) (x : List ℕ × List ℕ) → IsBytes bytes → text_at bytes ≡ Ok x → Takes bytes (u2 (length x.0) ++ x.0) x.1 × (text_fits (Utf8 x.0) ≡ true)
unfolding text_at
text_takes bytes x fits e =
    let b = bind_ok (u2_at file_edge bytes) (λ count. text_run count.0 count.1) x e in
    let n = b.0 in
    let t = u2_takes file_edge bytes n fits b.1 in
    let g = guard_else (ltb (prefix_len is_text_byte (take n.0 n.1)) (length (take n.0 n.1))) (fault kinds.Utf8 (drop (prefix_len is_text_byte (take n.0 n.1)) n.1)) (run_at file_edge n.0 n.1) x b.2 in
    let r = run_takes file_edge n.0 n.1 x t.0.rest_fits g.1 in
    let right : list_all is_text_byte (take n.0 n.1) ≡ true = prefix_all is_text_byte (take n.0 n.1) (ltb-false _ _ g.0) in
    let right' : list_all is_text_byte x.0 ≡ true = subst (λ (y : List ℕ). list_all is_text_byte y ≡ true) (sym r.2) right in
    let whole = Takes-then bytes (u2 n.0) n.1 x.0 x.1 t.0 r.0 in
    (subst (λ (k : ℕ). Takes bytes (u2 k ++ x.0) x.1) (sym r.1) whole, and_both (ltb (length x.0) 65536) (list_all is_text_byte x.0) (lt-ltb _ _ (omega (arith, r.1, t.1))) right')

pub text_again : (text rest : List ℕ) → text_fits (Utf8 text) ≡ true → text_at (u2 (length text) ++ (text ++ rest)) ≡ Ok (text, rest)
unfolding text_at
text_again text rest h =
    let b = both (ltb (length text) 65536) (list_all is_text_byte text) h in
    let front = take_at text rest (length text) refl in
    let test : ltb (prefix_len is_text_byte text) (length text) ≡ false = le-ltb _ _ (omega (arith, all_prefix is_text_byte text b.1)) in
    rw (u2_again file_edge (length text) (text ++ rest) (ltb-true _ _ b.0) (omega arith), front, test, run_again file_edge text rest (omega arith)) refl

-- ---- constants

-- what is known of a constant that was read
pub record WasRead (is_last : Bool) (c : Const) : Type 0 where
  pub text : text_fits c ≡ true
  pub number : NumberInRange c
  pub used : is_unused c ≡ false
  pub room : (is_last && is_wide c) ≡ false

abbrev IsRead : Bool → ℕ → List ℕ → Const × List ℕ → Type 0
IsRead is_last tag rest x = Takes (tag ∷ rest) (constant_bytes x.0) x.1 × WasRead is_last x.0

pub no_room : (b : Bool) → (b && false) ≡ false
no_room true = refl
no_room false = refl

tag_takes : (tag k : ℕ) (rest text after : List ℕ) → tag ≡ k → Takes rest text after → Takes (tag ∷ rest) (k ∷ text) after
tag_takes tag k rest text after e t =
    let p = t.parts in
    record { parts = cc; rest_fits = t.rest_fits }

wide_ok : (is_last : Bool) (bytes : List ℕ) (read : Result (Const × List ℕ) Defect) (x : Const × List ℕ) → wide_at is_last bytes read ≡ Ok x → (is_last ≡ false) × (read ≡ Ok x)
wide_ok true bytes read x e = absurd cc
wide_ok false bytes read x e = (refl, e)

pair_takes : (make : ℕ → ℕ → Const) (bytes : List ℕ) (x : Const × List ℕ) → IsBytes bytes → pair_at make bytes ≡ Ok x → (a : ℕ) × (b : ℕ) × Takes bytes (u2 a ++ u2 b) x.1 × (make a b ≡ x.0)
unfolding pair_at
pair_takes make bytes x fits e =
    let p = bind_ok (u2_at file_edge bytes) (λ first. u2_at file_edge first.1 >>= λ second. Ok (make first.0 second.0, second.1)) x e in
    let q = bind_ok (u2_at file_edge p.0.1) (λ second. Ok (make p.0.0 second.0, second.1)) x p.2 in
    let s = u2_takes file_edge bytes p.0 fits p.1 in
    let t = u2_takes file_edge p.0.1 q.0 s.0.rest_fits q.1 in
    let whole = Takes-then bytes (u2 p.0.0) p.0.1 (u2 q.0.0) q.0.1 s.0 t.0 in
    let is = ok_is (make p.0.0 q.0.0, q.0.1) x q.2 in
    (p.0.0, q.0.0, subst (λ (r : List ℕ). Takes bytes (u2 p.0.0 ++ u2 q.0.0) r) (ap (λ (y : Const × List ℕ). y.1) is) whole, ap (λ (y : Const × List ℕ). y.0) is)

utf8_read : (l : Bool) (tag : ℕ) (rest : List ℕ) (x : Const × List ℕ) → IsBytes rest → tag ≡ 1 → (text_at rest >>= λ y. Ok (Utf8 y.0, y.1)) ≡ Ok x → IsRead l tag rest x
unfolding constant_bytes
utf8_read l tag rest x fits is e =
    let b = bind_ok (text_at rest) (λ y. Ok (Utf8 y.0, y.1)) x e in
    let t = text_takes rest b.0 fits b.1 in
    subst (IsRead l tag rest) (ok_is (Utf8 b.0.0, b.0.1) x b.2) (tag_takes tag 1 rest (u2 (length b.0.0) ++ b.0.0) b.0.1 is t.0, record { text = t.1; number = tt; used = refl; room = no_room l })

integer_read : (l : Bool) (tag : ℕ) (rest : List ℕ) (x : Const × List ℕ) → IsBytes rest → tag ≡ 3 → numbered (λ n. Integer (cast_signed w32 n)) (u4_at file_edge rest) ≡ Ok x → IsRead l tag rest x
unfolding constant_bytes
integer_read l tag rest x fits is e =
    let b = bind_ok (u4_at file_edge rest) (λ y. Ok (Integer (cast_signed w32 y.0), y.1)) x e in
    let t = u4_takes file_edge rest b.0 fits b.1 in
    let lt = t.1 in
    let back : cast_unsigned w32 (cast_signed w32 b.0.0) ≡ b.0.0 = of_z-to_z w32 b.0.0 lt in
    let whole : Takes rest (u4 (cast_unsigned w32 (cast_signed w32 b.0.0))) b.0.1 = subst (λ (k : ℕ). Takes rest (u4 k) b.0.1) (sym back) t.0 in
    subst (IsRead l tag rest) (ok_is (Integer (cast_signed w32 b.0.0), b.0.1) x b.2) (tag_takes tag 3 rest (u4 (cast_unsigned w32 (cast_signed w32 b.0.0))) b.0.1 is whole, record { text = refl; number = sfits_to_z (Fits-of_lt lt); used = refl; room = no_room l })

float_read : (l : Bool) (tag : ℕ) (rest : List ℕ) (x : Const × List ℕ) → IsBytes rest → tag ≡ 4 → numbered Float (u4_at file_edge rest) ≡ Ok x → IsRead l tag rest x
unfolding constant_bytes
float_read l tag rest x fits is e =
    let b = bind_ok (u4_at file_edge rest) (λ y. Ok (Float y.0, y.1)) x e in
    let t = u4_takes file_edge rest b.0 fits b.1 in
    subst (IsRead l tag rest) (ok_is (Float b.0.0, b.0.1) x b.2) (tag_takes tag 4 rest (u4 b.0.0) b.0.1 is t.0, record { text = refl; number = t.1; used = refl; room = no_room l })

long_read : (l : Bool) (tag : ℕ) (rest bytes : List ℕ) (x : Const × List ℕ) → IsBytes rest → tag ≡ 5 → wide_at l bytes (numbered (λ n. Long (cast_signed w64 n)) (u8_at file_edge rest)) ≡ Ok x → IsRead l tag rest x
unfolding constant_bytes
long_read l tag rest bytes x fits is e =
    let w = wide_ok l bytes (numbered (λ n. Long (cast_signed w64 n)) (u8_at file_edge rest)) x e in
    let b = bind_ok (u8_at file_edge rest) (λ y. Ok (Long (cast_signed w64 y.0), y.1)) x w.1 in
    let t = u8_takes file_edge rest b.0 fits b.1 in
    let lt = t.1 in
    let back : cast_unsigned w64 (cast_signed w64 b.0.0) ≡ b.0.0 = of_z-to_z w64 b.0.0 lt in
    let whole : Takes rest (u8 (cast_unsigned w64 (cast_signed w64 b.0.0))) b.0.1 = subst (λ (k : ℕ). Takes rest (u8 k) b.0.1) (sym back) t.0 in
    subst (IsRead l tag rest) (ok_is (Long (cast_signed w64 b.0.0), b.0.1) x b.2) (tag_takes tag 5 rest (u8 (cast_unsigned w64 (cast_signed w64 b.0.0))) b.0.1 is whole, record { text = refl; number = sfits_to_z (Fits-of_lt lt); used = refl; room = rw w.0 refl })

double_read : (l : Bool) (tag : ℕ) (rest bytes : List ℕ) (x : Const × List ℕ) → IsBytes rest → tag ≡ 6 → wide_at l bytes (numbered Double (u8_at file_edge rest)) ≡ Ok x → IsRead l tag rest x
unfolding constant_bytes
double_read l tag rest bytes x fits is e =
    let w = wide_ok l bytes (numbered Double (u8_at file_edge rest)) x e in
    let b = bind_ok (u8_at file_edge rest) (λ y. Ok (Double y.0, y.1)) x w.1 in
    let t = u8_takes file_edge rest b.0 fits b.1 in
    subst (IsRead l tag rest) (ok_is (Double b.0.0, b.0.1) x b.2) (tag_takes tag 6 rest (u8 b.0.0) b.0.1 is t.0, record { text = refl; number = t.1; used = refl; room = rw w.0 refl })

class_read : (l : Bool) (tag : ℕ) (rest : List ℕ) (x : Const × List ℕ) → IsBytes rest → tag ≡ 7 → numbered Class (u2_at file_edge rest) ≡ Ok x → IsRead l tag rest x
unfolding constant_bytes
class_read l tag rest x fits is e =
    let b = bind_ok (u2_at file_edge rest) (λ y. Ok (Class y.0, y.1)) x e in
    let t = u2_takes file_edge rest b.0 fits b.1 in
    subst (IsRead l tag rest) (ok_is (Class b.0.0, b.0.1) x b.2) (tag_takes tag 7 rest (u2 b.0.0) b.0.1 is t.0, record { text = refl; number = tt; used = refl; room = no_room l })

string_read : (l : Bool) (tag : ℕ) (rest : List ℕ) (x : Const × List ℕ) → IsBytes rest → tag ≡ 8 → numbered Text (u2_at file_edge rest) ≡ Ok x → IsRead l tag rest x
unfolding constant_bytes
string_read l tag rest x fits is e =
    let b = bind_ok (u2_at file_edge rest) (λ y. Ok (Text y.0, y.1)) x e in
    let t = u2_takes file_edge rest b.0 fits b.1 in
    subst (IsRead l tag rest) (ok_is (Text b.0.0, b.0.1) x b.2) (tag_takes tag 8 rest (u2 b.0.0) b.0.1 is t.0, record { text = refl; number = tt; used = refl; room = no_room l })

pair_read : (make : ℕ → ℕ → Const) (k : ℕ) → ((a b : ℕ) → constant_bytes (make a b) ≡ k ∷ u2 a ++ u2 b) → ((l : Bool) (a b : ℕ) → WasRead l (make a b)) → (l : Bool) (tag : ℕ) (rest : List ℕ) (x : Const × List ℕ) → IsBytes rest → tag ≡ k → pair_at make rest ≡ Ok x → IsRead l tag rest x
pair_read make k spelled known l tag rest x fits is e =
    let p = pair_takes make rest x fits e in
    let front : Takes (tag ∷ rest) (k ∷ u2 p.0 ++ u2 p.1) x.1 = tag_takes tag k rest (u2 p.0 ++ u2 p.1) x.1 is p.2 in
    let whole : Takes (tag ∷ rest) (constant_bytes (make p.0 p.1)) x.1 = subst (λ (t : List ℕ). Takes (tag ∷ rest) t x.1) (sym (spelled p.0 p.1)) front in
    subst (λ (c : Const). Takes (tag ∷ rest) (constant_bytes c) x.1 × WasRead l c) p.3 (whole, known l p.0 p.1)

field_read : (l : Bool) (tag : ℕ) (rest : List ℕ) (x : Const × List ℕ) → IsBytes rest → tag ≡ 9 → pair_at Fieldref rest ≡ Ok x → IsRead l tag rest x
unfolding constant_bytes
field_read = pair_read Fieldref 9 (λ a b. refl) (λ l a b. record { text = refl; number = tt; used = refl; room = no_room l })

method_read : (l : Bool) (tag : ℕ) (rest : List ℕ) (x : Const × List ℕ) → IsBytes rest → tag ≡ 10 → pair_at Methodref rest ≡ Ok x → IsRead l tag rest x
unfolding constant_bytes
method_read = pair_read Methodref 10 (λ a b. refl) (λ l a b. record { text = refl; number = tt; used = refl; room = no_room l })

interface_read : (l : Bool) (tag : ℕ) (rest : List ℕ) (x : Const × List ℕ) → IsBytes rest → tag ≡ 11 → pair_at InterfaceMethodref rest ≡ Ok x → IsRead l tag rest x
unfolding constant_bytes
interface_read = pair_read InterfaceMethodref 11 (λ a b. refl) (λ l a b. record { text = refl; number = tt; used = refl; room = no_room l })

name_read : (l : Bool) (tag : ℕ) (rest : List ℕ) (x : Const × List ℕ) → IsBytes rest → tag ≡ 12 → pair_at NameAndType rest ≡ Ok x → IsRead l tag rest x
unfolding constant_bytes
name_read = pair_read NameAndType 12 (λ a b. refl) (λ l a b. record { text = refl; number = tt; used = refl; room = no_room l })

tagged_takes : (l : Bool) (tag : ℕ) (rest bytes : List ℕ) (x : Const × List ℕ) → IsBytes rest → tagged_at l tag rest bytes ≡ Ok x → IsRead l tag rest x
unfolding tagged_at
tagged_takes l tag rest bytes x fits e =
    elim (chosen (eqb tag 1) _ _ (Ok x) e) [
      | inl h ↦ utf8_read l tag rest x fits (eqb-true tag 1 h.0) h.1
      | inr g1 ↦ elim (chosen (eqb tag 3) _ _ (Ok x) g1.1) [
        | inl h ↦ integer_read l tag rest x fits (eqb-true tag 3 h.0) h.1
        | inr g3 ↦ elim (chosen (eqb tag 4) _ _ (Ok x) g3.1) [
          | inl h ↦ float_read l tag rest x fits (eqb-true tag 4 h.0) h.1
          | inr g4 ↦ elim (chosen (eqb tag 5) _ _ (Ok x) g4.1) [
            | inl h ↦ long_read l tag rest bytes x fits (eqb-true tag 5 h.0) h.1
            | inr g5 ↦ elim (chosen (eqb tag 6) _ _ (Ok x) g5.1) [
              | inl h ↦ double_read l tag rest bytes x fits (eqb-true tag 6 h.0) h.1
              | inr g6 ↦ elim (chosen (eqb tag 7) _ _ (Ok x) g6.1) [
                | inl h ↦ class_read l tag rest x fits (eqb-true tag 7 h.0) h.1
                | inr g7 ↦ elim (chosen (eqb tag 8) _ _ (Ok x) g7.1) [
                  | inl h ↦ string_read l tag rest x fits (eqb-true tag 8 h.0) h.1
                  | inr g8 ↦ elim (chosen (eqb tag 9) _ _ (Ok x) g8.1) [
                    | inl h ↦ field_read l tag rest x fits (eqb-true tag 9 h.0) h.1
                    | inr g9 ↦ elim (chosen (eqb tag 10) _ _ (Ok x) g9.1) [
                      | inl h ↦ method_read l tag rest x fits (eqb-true tag 10 h.0) h.1
                      | inr g10 ↦ elim (chosen (eqb tag 11) _ _ (Ok x) g10.1) [
                        | inl h ↦ interface_read l tag rest x fits (eqb-true tag 11 h.0) h.1
                        | inr g11 ↦ elim (chosen (eqb tag 12) _ _ (Ok x) g11.1) [
                          | inl h ↦ name_read l tag rest x fits (eqb-true tag 12 h.0) h.1
                          | inr g12 ↦ absurd (let f = g12.1 in cc)
                        ]
                      ]
                    ]
                  ]
                ]
              ]
            ]
          ]
        ]
      ]
    ]

constant_takes : (l : Bool) (bytes : List ℕ) (x : Const × List ℕ) → IsBytes bytes → constant_at l bytes ≡ Ok x → Takes bytes (constant_bytes x.0) x.1 × WasRead l x.0
unfolding constant_at
constant_takes l [] x fits e = absurd cc
constant_takes l (tag ∷ rest) x fits e = tagged_takes l tag rest (tag ∷ rest) x (IsBytes-rest tag rest fits) e

-- ---- entries

-- what is known of an entry that was read, where Unused stands behind
record WasEntered (behind is_last : Bool) (c : Const) : Type 0 where
  text : text_fits c ≡ true
  number : NumberInRange c
  spaced : cond behind (is_unused c) (not (is_unused c)) ≡ true
  room : (is_wide c && is_last) ≡ false

pub swapped : (a b : Bool) → (a && b) ≡ false → (b && a) ≡ false
swapped true b e = rw e refl
swapped false b e = no_room b

entry_takes : (behind l : Bool) (bytes : List ℕ) (x : Const × List ℕ) → IsBytes bytes → entry_at behind l bytes ≡ Ok x → Takes bytes (constant_bytes x.0) x.1 × WasEntered behind l x.0
unfolding constant_bytes
entry_takes true l bytes x fits e =
    subst (λ (y : Const × List ℕ). Takes bytes (constant_bytes y.0) y.1 × WasEntered true l y.0) (ok_is (Unused, bytes) x e) (record { parts = refl; rest_fits = fits }, record { text = refl; number = tt; spaced = refl; room = refl })
entry_takes false l bytes x fits e =
    let t = constant_takes l bytes x fits e in
    (t.0, record { text = t.1.text; number = t.1.number; spaced = rw t.1.used refl; room = swapped l (is_wide x.0) t.1.room })

pub record WereEntered (behind : Bool) (cs : List Const) : Type 0 where
  pub texts : list_all text_fits cs ≡ true
  pub numbers : AllByRecursion NumberInRange cs
  pub spaced : is_spaced behind cs ≡ true

not_behind : (behind : Bool) → (behind && true) ≡ false → not behind ≡ true
not_behind true e = absurd cc
not_behind false e = refl

pub entries_take : (behind : Bool) (n : ℕ) (bytes : List ℕ) (x : List Const × List ℕ) → IsBytes bytes → (behind && eqb n 0) ≡ false → entries_at behind n bytes ≡ Ok x → Takes bytes (flat_map constant_bytes x.0) x.1 × (length x.0 ≡ n) × WereEntered behind x.0
unfolding entries_at
entries_take behind zero bytes x fits room e =
    subst (λ (y : List Const × List ℕ). Takes bytes (flat_map constant_bytes y.0) y.1 × (length y.0 ≡ 0) × WereEntered behind y.0) (ok_is ([], bytes) x e) (record { parts = refl; rest_fits = fits }, refl, record { texts = refl; numbers = tt; spaced = not_behind behind room })
entries_take behind (suc n) bytes x fits room e =
    let a = bind_ok (entry_at behind (eqb n 0) bytes) (λ first. entries_at (is_wide first.0) n first.1 >>= λ others. Ok (first.0 ∷ others.0, others.1)) x e in
    let b = bind_ok (entries_at (is_wide a.0.0) n a.0.1) (λ others. Ok (a.0.0 ∷ others.0, others.1)) x a.2 in
    let first = entry_takes behind (eqb n 0) bytes a.0 fits a.1 in
    let second = entries_take (is_wide a.0.0) n a.0.1 b.0 first.0.rest_fits first.1.room b.1 in
    let whole = Takes-then bytes (constant_bytes a.0.0) a.0.1 (flat_map constant_bytes b.0.0) b.0.1 first.0 second.0 in
    let made : List Const × List ℕ = (a.0.0 ∷ b.0.0, b.0.1) in
    let known : WereEntered behind (a.0.0 ∷ b.0.0) = record {
      texts = and_both (text_fits a.0.0) (list_all text_fits b.0.0) first.1.text second.2.texts;
      numbers = (first.1.number, second.2.numbers);
      spaced = and_both (cond behind (is_unused a.0.0) (not (is_unused a.0.0))) (is_spaced (is_wide a.0.0) b.0.0) first.1.spaced second.2.spaced;
    } in
    subst (λ (y : List Const × List ℕ). Takes bytes (flat_map constant_bytes y.0) y.1 × (length y.0 ≡ suc n) × WereEntered behind y.0) (ok_is made x b.2) (rw flat_map-cons whole, ap suc second.1, known)

pub never_zero : (n : ℕ) → eqb (suc n) 0 ≡ false
never_zero n = false_from_ne_true (eqb (suc n) 0) (λ h. let z : suc n ≡ 0 = eqb-true (suc n) 0 h in absurd (omega (arith, z)))

entered : (n : ℕ) (bytes : List ℕ) (x : List Const × List ℕ) → IsBytes bytes → entries_at true n bytes ≡ Ok x → Takes bytes (flat_map constant_bytes x.0) x.1 × (length x.0 ≡ n) × (list_all text_fits x.0 ≡ true) × AllByRecursion NumberInRange x.0 × (0 < length x.0 → is_spaced true x.0 ≡ true)
unfolding entries_at
entered zero bytes x fits e =
    subst (λ (y : List Const × List ℕ). Takes bytes (flat_map constant_bytes y.0) y.1 × (length y.0 ≡ 0) × (list_all text_fits y.0 ≡ true) × AllByRecursion NumberInRange y.0 × (0 < length y.0 → is_spaced true y.0 ≡ true)) (ok_is ([], bytes) x e) (record { parts = refl; rest_fits = fits }, refl, refl, tt, λ lt. absurd (omega (arith, lt)))
entered (suc n) bytes x fits e =
    let t = entries_take true (suc n) bytes x fits (never_zero n) e in
    (t.0, t.1, t.2.texts, t.2.numbers, λ lt. t.2.spaced)

-- ---- indices

one_none : (b : Bool) → bad_one b ≡ None → b ≡ true
one_none true e = refl
one_none false e = absurd cc

pair_none : (a b : Bool) → bad_pair a b ≡ None → (a && b) ≡ true
pair_none true true e = refl
pair_none true false e = absurd cc
pair_none false b e = absurd cc

right_of : (all : List Const) (c : Const) → bad_index all c ≡ None → has_right_indices all c ≡ true
right_of all Unused e = refl
right_of all (Utf8 text) e = refl
right_of all (Integer n) e = refl
right_of all (Float bits) e = refl
right_of all (Long n) e = refl
right_of all (Double bits) e = refl
right_of all (Class name) e = one_none (names is_utf8 all name) e
right_of all (Text text) e = one_none (names is_utf8 all text) e
right_of all (Fieldref class name) e = pair_none (names is_class all class) (names is_name_and_type all name) e
right_of all (Methodref class name) e = pair_none (names is_class all class) (names is_name_and_type all name) e
right_of all (InterfaceMethodref class name) e = pair_none (names is_class all class) (names is_name_and_type all name) e
right_of all (NameAndType name descriptor) e = pair_none (names is_utf8 all name) (names is_utf8 all descriptor) e

first_none : (o : Option ℕ) (left : ℕ) (more : Option ℕ) → found_first o left more ≡ None → (o ≡ None) × (more ≡ None)
first_none None left more e = (refl, e)
first_none (Some into) left more e = absurd cc

no_bad : (all cs : List Const) (left : ℕ) → bad_index_among all cs left ≡ None → list_all (has_right_indices all) cs ≡ true
unfolding bad_index_among
no_bad all [] left e = refl
no_bad all (c ∷ more) left e =
    let f = first_none (bad_index all c) left (bad_index_among all more (left - constant_size c)) e in
    and_both (has_right_indices all c) (list_all (has_right_indices all) more) (right_of all c f.0) (no_bad all more (left - constant_size c) f.1)

indices_ok : (o : Option ℕ) (r x : List Const × List ℕ) → with_right_indices o r ≡ Ok x → (o ≡ None) × (r ≡ x)
indices_ok None r x e = (refl, cc)
indices_ok (Some left) r x e = absurd cc

-- what is known of a pool that was read
pub record IsPool (cs : List Const) : Type 0 where
  pub count : length cs < 65536
  pub spaced : 0 < length cs → is_spaced true cs ≡ true
  pub texts : list_all text_fits cs ≡ true
  pub indices : list_all (has_right_indices cs) cs ≡ true
  pub numbers : AllByRecursion NumberInRange cs

pub pool_takes : (bytes : List ℕ) (x : List Const × List ℕ) → IsBytes bytes → pool_at bytes ≡ Ok x → Takes bytes (pool_bytes x.0) x.1 × IsPool x.0
unfolding pool_at pool_bytes
pool_takes bytes x fits e =
    let a = bind_ok (u2_at file_edge bytes) (λ count. entries_at true count.0 count.1 >>= λ constants. with_right_indices (bad_index_among constants.0 constants.0 (length count.1)) constants) x e in
    let b = bind_ok (entries_at true a.0.0 a.0.1) (λ constants. with_right_indices (bad_index_among constants.0 constants.0 (length a.0.1)) constants) x a.2 in
    let i = indices_ok (bad_index_among b.0.0 b.0.0 (length a.0.1)) b.0 x b.2 in
    let first = u2_takes file_edge bytes a.0 fits a.1 in
    let second = entered a.0.0 a.0.1 b.0 first.0.rest_fits b.1 in
    let whole = Takes-then bytes (u2 a.0.0) a.0.1 (flat_map constant_bytes b.0.0) b.0.1 first.0 second.0 in
    let counted : Takes bytes (u2 (length b.0.0) ++ flat_map constant_bytes b.0.0) b.0.1 = subst (λ (k : ℕ). Takes bytes (u2 k ++ flat_map constant_bytes b.0.0) b.0.1) (sym second.1) whole in
    let known : IsPool b.0.0 = record { count = omega (arith, second.1, first.1); spaced = second.4; texts = second.2; indices = no_bad b.0.0 b.0.0 (length a.0.1) i.0; numbers = second.3 } in
    subst (λ (y : List Const × List ℕ). Takes bytes (u2 (length y.0) ++ flat_map constant_bytes y.0) y.1 × IsPool y.0) i.1 (counted, known)
