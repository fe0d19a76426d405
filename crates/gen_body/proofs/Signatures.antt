-- A method's descriptor reads back.
use Rattle.std.proofs.Common.{◌≡◌, ℕ, zero, suc, ◌+◌, ◌<◌, ◌≤◌, List, [], ◌∷◌, ◌++◌, length, drop, Option, Some, None, refl, ap, ◌∙◌, arith, length-append, append_assoc}
use Rattle.std.specs.Prelude.{Bool, true, false, not, ◌==◌, nat_lt, cond, option_and_then}
use Rattle.std.specs.List.{flat_map, filter_map, position, position_or_len, prefix_len}
use Rattle.std.specs.Option.{option_map}
use Rattle.std.proofs.lemmas.Bool.{false≢true, lt-ltb}
use Rattle.std.proofs.Math.Seq.{drop-append-add}
use Rattle.class_form.proofs.Facts.{both}
use Rattle.jp_pred.specs.declared.ty.Ty.{Ty}
use Rattle.jp_pred.specs.declared.ty.Ty.TheVariants as ty
use Rattle.jp_store.specs.declared.value.Kind.{Kind}
use Rattle.jp_store.specs.declared.value.Kind.TheVariants.{Number, Reference}
use Rattle.jp_meaning.specs.Descriptors.{internal_name, descriptor_of, kind_of_type}
use Rattle.jvm_table.specs.Descriptors.{Signature, behind_name, single_type, in_arrays, first_type, types_in, only, result_of}
use Rattle.gen_body.specs.Names.{is_plain, are_nameable, is_result, SignaturesReadBack}

position_is : (p : ℕ → Bool) (xs : List ℕ) (k : ℕ) → position_or_len p xs ≡ k → k < length xs → position p xs ≡ Some k
position_is p xs k e le = ap (λ j. cond (nat_lt j (length xs)) (Some j) None) e ∙ ap (λ b. cond b (Some k) None) (lt-ltb k (length xs) le)

-- a name ends where its `;` stands
name_len : (name rest : List ℕ) → is_plain name ≡ true → prefix_len (λ c. not (c == 59)) (name ++ 59 ∷ rest) ≡ length name
name_len [] rest e = refl
name_len (c ∷ cs) rest e =
    let h = both (not (c == 59)) (is_plain cs) e in
    let n : 1 + length cs ≡ length (c ∷ cs) = omega arith in
    ap (λ b. cond b (1 + prefix_len (λ c. not (c == 59)) (cs ++ 59 ∷ rest)) 0) h.0 ∙ ap (λ n. 1 + n) (name_len cs rest h.1) ∙ n

behind_is : (name rest : List ℕ) → is_plain name ≡ true → behind_name (name ++ 59 ∷ rest) ≡ Some rest
behind_is name rest e =
    let len = length-append name (59 ∷ rest) in
    ap (option_map (λ at. drop (at + 1) (name ++ 59 ∷ rest))) (position_is (λ c. c == 59) (name ++ 59 ∷ rest) (length name) (name_len name rest e) (omega (arith, len)))
    ∙ ap Some (drop-append-add name (59 ∷ rest) 1)

-- a type at the front of a text
abbrev from_depth : List ℕ → Option ℕ → Option (Kind × List ℕ)
from_depth text depth = option_and_then (λ depth. option_map (in_arrays depth) (single_type (drop depth text))) depth

int_reads : (rest : List ℕ) → first_type (73 ∷ rest) ≡ Some (Number, rest)
int_reads rest = ap (from_depth (73 ∷ rest)) (position_is (λ c. not (c == 91)) (73 ∷ rest) 0 refl (omega arith))

boolean_reads : (rest : List ℕ) → first_type (90 ∷ rest) ≡ Some (Number, rest)
boolean_reads rest = ap (from_depth (90 ∷ rest)) (position_is (λ c. not (c == 91)) (90 ∷ rest) 0 refl (omega arith))

class_reads : (name rest : List ℕ) → is_plain name ≡ true → first_type (76 ∷ (name ++ 59 ∷ rest)) ≡ Some (Reference, rest)
class_reads name rest e =
    ap (from_depth (76 ∷ (name ++ 59 ∷ rest))) (position_is (λ c. not (c == 91)) (76 ∷ (name ++ 59 ∷ rest)) 0 refl (omega arith))
    ∙ ap (λ (x : Option (List ℕ)). option_map (in_arrays 0) (option_map (λ rest. (Reference, rest)) x)) (behind_is name rest e)

ints_read : (rest : List ℕ) → first_type (91 ∷ 73 ∷ rest) ≡ Some (Reference, rest)
ints_read rest = ap (from_depth (91 ∷ 73 ∷ rest)) (position_is (λ c. not (c == 91)) (91 ∷ 73 ∷ rest) 1 refl (omega arith))

booleans_read : (rest : List ℕ) → first_type (91 ∷ 90 ∷ rest) ≡ Some (Reference, rest)
booleans_read rest = ap (from_depth (91 ∷ 90 ∷ rest)) (position_is (λ c. not (c == 91)) (91 ∷ 90 ∷ rest) 1 refl (omega arith))

classes_read : (name rest : List ℕ) → is_plain name ≡ true → first_type (91 ∷ 76 ∷ (name ++ 59 ∷ rest)) ≡ Some (Reference, rest)
classes_read name rest e =
    ap (from_depth (91 ∷ 76 ∷ (name ++ 59 ∷ rest))) (position_is (λ c. not (c == 91)) (91 ∷ 76 ∷ (name ++ 59 ∷ rest)) 1 refl (omega arith))
    ∙ ap (λ (x : Option (List ℕ)). option_map (in_arrays 1) (option_map (λ rest. (Reference, rest)) x)) (behind_is name rest e)

-- types up to the `)`
closed : (n : ℕ) (rest : List ℕ) → types_in (suc n) (41 ∷ rest) ≡ Some ([], rest)
unfolding types_in
closed n rest = refl

one_more : (n c : ℕ) (more : List ℕ) → (c == 41) ≡ false → types_in (suc n) (c ∷ more) ≡ option_and_then (λ type. option_map (λ rest. (type.0 ∷ rest.0, rest.1)) (types_in n type.1)) (first_type (c ∷ more))
unfolding types_in
one_more n c more h = rw h refl

step : (n c : ℕ) (more : List ℕ) (kind : Kind) (kinds : List Kind) (rest last : List ℕ) → (c == 41) ≡ false → first_type (c ∷ more) ≡ Some (kind, rest) → types_in n rest ≡ Some (kinds, last) → types_in (suc n) (c ∷ more) ≡ Some (kind ∷ kinds, last)
step n c more kind kinds rest last h e ih =
    one_more n c more h
    ∙ ap (λ (x : Option (Kind × List ℕ)). option_and_then (λ type. option_map (λ rest. (type.0 ∷ rest.0, rest.1)) (types_in n type.1)) x) e
    ∙ ap (λ (x : Option (List Kind × List ℕ)). option_map (λ rest. (kind ∷ rest.0, rest.1)) x) ih

grouped : (name more rest : List ℕ) → ((name ++ 59 ∷ []) ++ more) ++ rest ≡ name ++ 59 ∷ (more ++ rest)
grouped name more rest = append_assoc (name ++ 59 ∷ []) more rest ∙ append_assoc name (59 ∷ []) (more ++ rest)

types_read : (params : List Ty) (last : List ℕ) (n : ℕ) → are_nameable params ≡ true → length params < n → types_in n (flat_map descriptor_of params ++ 41 ∷ last) ≡ Some (filter_map kind_of_type params, last)
types_read params last zero e le = absurd (omega (arith, le))
types_read [] last (suc n) e le = closed n last
types_read (ty.Void ∷ ts) last (suc n) e le = absurd (false≢true (both false (are_nameable ts) e).0)
types_read (ty.Int ∷ ts) last (suc n) e le =
    let rest = flat_map descriptor_of ts ++ 41 ∷ last in
    step n 73 rest Number (filter_map kind_of_type ts) rest last refl (int_reads rest) (types_read ts last n e (omega (arith, le)))
types_read (ty.Boolean ∷ ts) last (suc n) e le =
    let rest = flat_map descriptor_of ts ++ 41 ∷ last in
    step n 90 rest Number (filter_map kind_of_type ts) rest last refl (boolean_reads rest) (types_read ts last n e (omega (arith, le)))
types_read (ty.Class name ∷ ts) last (suc n) e le =
    let rest = flat_map descriptor_of ts ++ 41 ∷ last in
    let plain = internal_name name in
    let h = both (is_plain plain) (are_nameable ts) e in
    step n 76 (((plain ++ 59 ∷ []) ++ flat_map descriptor_of ts) ++ 41 ∷ last) Reference (filter_map kind_of_type ts) rest last refl
    (ap (λ l. first_type (76 ∷ l)) (grouped plain (flat_map descriptor_of ts) (41 ∷ last)) ∙ class_reads plain rest h.0) (types_read ts last n h.1 (omega (arith, le)))
types_read (ty.IntArray ∷ ts) last (suc n) e le =
    let rest = flat_map descriptor_of ts ++ 41 ∷ last in
    step n 91 (73 ∷ rest) Reference (filter_map kind_of_type ts) rest last refl (ints_read rest) (types_read ts last n e (omega (arith, le)))
types_read (ty.BooleanArray ∷ ts) last (suc n) e le =
    let rest = flat_map descriptor_of ts ++ 41 ∷ last in
    step n 91 (90 ∷ rest) Reference (filter_map kind_of_type ts) rest last refl (booleans_read rest) (types_read ts last n e (omega (arith, le)))
types_read (ty.ClassArray name ∷ ts) last (suc n) e le =
    let rest = flat_map descriptor_of ts ++ 41 ∷ last in
    let plain = internal_name name in
    let h = both (is_plain plain) (are_nameable ts) e in
    step n 91 (76 ∷ (((plain ++ 59 ∷ []) ++ flat_map descriptor_of ts) ++ 41 ∷ last)) Reference (filter_map kind_of_type ts) rest last refl
    (ap (λ l. first_type (91 ∷ 76 ∷ l)) (grouped plain (flat_map descriptor_of ts) (41 ∷ last)) ∙ classes_read plain rest h.0) (types_read ts last n h.1 (omega (arith, le)))

-- a result
abbrev whole : Option (Kind × List ℕ) → Option (Option Kind)
whole type = option_and_then (λ type. only (Some type.0) type.1) type

result_reads : (t : Ty) → is_result t ≡ true → result_of (descriptor_of t) ≡ Some (kind_of_type t)
result_reads ty.Void e = refl
result_reads ty.Int e = ap whole (int_reads [])
result_reads ty.Boolean e = ap whole (boolean_reads [])
result_reads (ty.Class name) e = ap whole (class_reads (internal_name name) [] e)
result_reads ty.IntArray e = ap whole (ints_read [])
result_reads ty.BooleanArray e = ap whole (booleans_read [])
result_reads (ty.ClassArray name) e = ap whole (classes_read (internal_name name) [] e)

one_char : (t : Ty) → 1 ≤ length (descriptor_of t)
one_char ty.Void = omega arith
one_char ty.Int = omega arith
one_char ty.Boolean = omega arith
one_char (ty.Class name) = omega arith
one_char ty.IntArray = omega arith
one_char ty.BooleanArray = omega arith
one_char (ty.ClassArray name) = omega arith

count_chars : (params : List Ty) → length params ≤ length (flat_map descriptor_of params)
count_chars [] = omega arith
count_chars (t ∷ ts) = omega (arith, length-append (descriptor_of t) (flat_map descriptor_of ts), one_char t, count_chars ts)

pub signatures_read_back : SignaturesReadBack
signatures_read_back params result e h =
    let rest = 41 ∷ descriptor_of result in
    let len = length-append (flat_map descriptor_of params) rest in
    ap (λ (x : Option (List Kind × List ℕ)). option_and_then (λ types. option_map (λ result. let s : Signature = record { parameters = types.0; result = result } in s) (result_of types.1)) x)
    (types_read params (descriptor_of result) (length (flat_map descriptor_of params ++ rest)) e (omega (arith, len, count_chars params)))
    ∙ ap (λ (x : Option (Option Kind)). option_map (λ result. let s : Signature = record { parameters = filter_map kind_of_type params; result = result } in s) x) (result_reads result h)
