-- What stands for constants is read again.
use Rattle.std.proofs.Common.{◌≡◌, ℕ, zero, suc, ◌-◌, ◌<◌, Bool, true, false, not, ◌&&◌, cond, eqb, List, [], ◌∷◌, ◌++◌, length, None, Ok, refl, sym, ap, subst, ◌∙◌, append_assoc, arith}
use Rattle.std.specs.Prelude.{flat_map}
use Rattle.std.specs.List.{list_all, AllByRecursion}
use Rattle.std.specs.Int.{w32, w64, cast_unsigned}
use Rattle.std.proofs.lemmas.Int.{to_z-of_z}
use Rattle.std.proofs.Math.Facts.{Fits-lt-pow, Fits-of_z}
use Rattle.std.proofs.lemmas.List.Concat.{flat_map-cons}
use Rattle.class_form.specs.declared.constant.Const.{Const}
use Rattle.class_form.specs.declared.constant.Const.TheVariants.{Unused, Utf8, Integer, Float, Long, Double, Class, Text, Fieldref, Methodref, InterfaceMethodref, NameAndType}
use Rattle.class_form.specs.WellFormed.{names, is_utf8, is_class, is_name_and_type, is_unused, is_wide, is_spaced, text_fits, has_right_indices, constant_size}
use Rattle.class_form.specs.Layout.{u2, constant_bytes, pool_bytes, NumberInRange}
use Rattle.class_form.proofs.Facts.{both}
use Rattle.class_reader.specs.Fields.{file_edge}
use Rattle.class_reader.specs.Reading.{text_at, pair_at, tagged_at, constant_at, entry_at, entries_at, bad_pair, bad_index, bad_index_among, pool_at}
use Rattle.class_reader.proofs.FieldLaws.{u2_again, u4_again, u8_again}
use Rattle.class_reader.proofs.PoolLaws.{no_room, never_zero, text_again}

pub names_small : (kind : Const → Bool) (cs : List Const) (i : ℕ) → names kind cs i ≡ true → i < length cs
names_small kind [] i h = absurd cc
names_small kind (c ∷ cs) zero h = omega arith
names_small kind (c ∷ cs) (suc i) h = omega (arith, names_small kind cs i h)

pub index_small : (kind : Const → Bool) (cs : List Const) (i : ℕ) → length cs < 65536 → names kind cs i ≡ true → i < 65536
index_small kind cs i few h = omega (arith, few, names_small kind cs i h)

text_again_left : (text rest : List ℕ) → text_fits (Utf8 text) ≡ true → text_at (u2 (length text) ++ text ++ rest) ≡ Ok (text, rest)
text_again_left text rest h = ap text_at (append_assoc (u2 (length text)) text rest) ∙ text_again text rest h

pair_again : (make : ℕ → ℕ → Const) (a b : ℕ) (rest : List ℕ) → a < 65536 → b < 65536 → pair_at make (u2 a ++ u2 b ++ rest) ≡ Ok (make a b, rest)
unfolding pair_at
pair_again make a b rest la lb =
    ap (pair_at make) (append_assoc (u2 a) (u2 b) rest) ∙ rw (u2_again file_edge a (u2 b ++ rest) la (omega arith), u2_again file_edge b rest lb (omega arith)) refl

constant_again : (all : List Const) (l : Bool) (c : Const) (rest : List ℕ) → length all < 65536 → has_right_indices all c ≡ true → text_fits c ≡ true → NumberInRange c → is_unused c ≡ false → (l && is_wide c) ≡ false → constant_at l (constant_bytes c ++ rest) ≡ Ok (c, rest)
unfolding constant_at tagged_at constant_bytes
constant_again all l Unused rest few right text number used room = absurd cc
constant_again all l (Utf8 bytes) rest few right text number used room = rw (text_again_left bytes rest text) refl
constant_again all l (Integer n) rest few right text number used room =
    rw (u4_again file_edge (cast_unsigned w32 n) rest (Fits-lt-pow (Fits-of_z number)) (omega arith), to_z-of_z w32 n number) refl
constant_again all l (Float bits) rest few right text number used room = rw (u4_again file_edge bits rest number (omega arith)) refl
constant_again all true (Long n) rest few right text number used room = absurd cc
constant_again all false (Long n) rest few right text number used room =
    rw (u8_again file_edge (cast_unsigned w64 n) rest (Fits-lt-pow (Fits-of_z number)) (omega arith), to_z-of_z w64 n number) refl
constant_again all true (Double bits) rest few right text number used room = absurd cc
constant_again all false (Double bits) rest few right text number used room = rw (u8_again file_edge bits rest number (omega arith)) refl
constant_again all l (Class name) rest few right text number used room = rw (u2_again file_edge name rest (index_small is_utf8 all name few right) (omega arith)) refl
constant_again all l (Text name) rest few right text number used room = rw (u2_again file_edge name rest (index_small is_utf8 all name few right) (omega arith)) refl
constant_again all l (Fieldref class name) rest few right text number used room =
    let b = both (names is_class all class) (names is_name_and_type all name) right in
    pair_again Fieldref class name rest (index_small is_class all class few b.0) (index_small is_name_and_type all name few b.1)
constant_again all l (Methodref class name) rest few right text number used room =
    let b = both (names is_class all class) (names is_name_and_type all name) right in
    pair_again Methodref class name rest (index_small is_class all class few b.0) (index_small is_name_and_type all name few b.1)
constant_again all l (InterfaceMethodref class name) rest few right text number used room =
    let b = both (names is_class all class) (names is_name_and_type all name) right in
    pair_again InterfaceMethodref class name rest (index_small is_class all class few b.0) (index_small is_name_and_type all name few b.1)
constant_again all l (NameAndType name descriptor) rest few right text number used room =
    let b = both (names is_utf8 all name) (names is_utf8 all descriptor) right in
    pair_again NameAndType name descriptor rest (index_small is_utf8 all name few b.0) (index_small is_utf8 all descriptor few b.1)

-- ---- entries

unused_is : (c : Const) → is_unused c ≡ true → c ≡ Unused
unused_is Unused e = refl
unused_is _ e = absurd cc

room_for : (wide : Bool) (more : List Const) → is_spaced wide more ≡ true → (eqb (length more) 0 && wide) ≡ false
room_for false more h = no_room (eqb (length more) 0)
room_for true [] h = absurd cc
room_for true (c ∷ more) h = rw (never_zero (length more)) refl

not_true : (b : Bool) → not b ≡ true → b ≡ false
not_true true e = absurd cc
not_true false e = refl

entry_again : (all : List Const) (behind l : Bool) (c : Const) (rest : List ℕ) → length all < 65536 → has_right_indices all c ≡ true → text_fits c ≡ true → NumberInRange c → cond behind (is_unused c) (not (is_unused c)) ≡ true → (l && is_wide c) ≡ false → entry_at behind l (constant_bytes c ++ rest) ≡ Ok (c, rest)
unfolding constant_bytes
entry_again all true l c rest few right text number spaced room =
    subst (λ (k : Const). entry_at true l (constant_bytes k ++ rest) ≡ Ok (k, rest)) (sym (unused_is c spaced)) refl
entry_again all false l c rest few right text number spaced room = constant_again all l c rest few right text number (not_true (is_unused c) spaced) room

entries_again : (all : List Const) (behind : Bool) (cs : List Const) (rest : List ℕ) → length all < 65536 → list_all (has_right_indices all) cs ≡ true → list_all text_fits cs ≡ true → AllByRecursion NumberInRange cs → is_spaced behind cs ≡ true → entries_at behind (length cs) (flat_map constant_bytes cs ++ rest) ≡ Ok (cs, rest)
unfolding entries_at
entries_again all behind [] rest few right texts numbers spaced = refl
entries_again all behind (c ∷ more) rest few right texts numbers spaced =
    let r = both (has_right_indices all c) (list_all (has_right_indices all) more) right in
    let t = both (text_fits c) (list_all text_fits more) texts in
    let s = both (cond behind (is_unused c) (not (is_unused c))) (is_spaced (is_wide c) more) spaced in
    let regrouped : flat_map constant_bytes (c ∷ more) ++ rest ≡ constant_bytes c ++ (flat_map constant_bytes more ++ rest) = ap (λ (x : List ℕ). x ++ rest) (flat_map-cons constant_bytes c more) ∙ append_assoc (constant_bytes c) (flat_map constant_bytes more) rest in
    ap (entries_at behind (suc (length more))) regrouped
    ∙ rw (entry_again all behind (eqb (length more) 0) c (flat_map constant_bytes more ++ rest) few r.0 t.0 numbers.0 s.0 (room_for (is_wide c) more s.1), entries_again all (is_wide c) more rest few r.1 t.1 numbers.1 s.1) refl

-- ---- indices

pair_right : (a b : Bool) → a ≡ true → b ≡ true → bad_pair a b ≡ None
pair_right a b p q = rw (p, q) refl

none_of : (all : List Const) (c : Const) → has_right_indices all c ≡ true → bad_index all c ≡ None
none_of all (Class name) h = rw h refl
none_of all (Text text) h = rw h refl
none_of all (Fieldref class name) h = let b = both (names is_class all class) (names is_name_and_type all name) h in pair_right (names is_class all class) (names is_name_and_type all name) b.0 b.1
none_of all (Methodref class name) h = let b = both (names is_class all class) (names is_name_and_type all name) h in pair_right (names is_class all class) (names is_name_and_type all name) b.0 b.1
none_of all (InterfaceMethodref class name) h = let b = both (names is_class all class) (names is_name_and_type all name) h in pair_right (names is_class all class) (names is_name_and_type all name) b.0 b.1
none_of all (NameAndType name descriptor) h = let b = both (names is_utf8 all name) (names is_utf8 all descriptor) h in pair_right (names is_utf8 all name) (names is_utf8 all descriptor) b.0 b.1
none_of all _ h = refl

none_among : (all cs : List Const) (left : ℕ) → list_all (has_right_indices all) cs ≡ true → bad_index_among all cs left ≡ None
unfolding bad_index_among
none_among all [] left h = refl
none_among all (c ∷ more) left h =
    let b = both (has_right_indices all c) (list_all (has_right_indices all) more) h in
    rw (none_of all c b.0) (none_among all more (left - constant_size c) b.1)

pub pool_again : (cs : List Const) (rest : List ℕ) → length cs < 65536 → list_all (has_right_indices cs) cs ≡ true → list_all text_fits cs ≡ true → AllByRecursion NumberInRange cs → is_spaced true cs ≡ true → pool_at (pool_bytes cs ++ rest) ≡ Ok (cs, rest)
unfolding pool_at pool_bytes
pool_again cs rest few right texts numbers spaced =
    ap pool_at (append_assoc (u2 (length cs)) (flat_map constant_bytes cs) rest)
    ∙ rw (u2_again file_edge (length cs) (flat_map constant_bytes cs ++ rest) few (omega arith), entries_again cs true cs rest few right texts numbers spaced, none_among cs cs (length (flat_map constant_bytes cs ++ rest)) right) refl
