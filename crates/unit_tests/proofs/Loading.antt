-- Well-formed files can be loaded.
use Rattle.std.proofs.Common.{◌≡◌, ℕ, suc, ◌<◌, ◌^◌, Bool, true, false, ◌&&◌, IsTrue, List, [], ◌∷◌, length, Option, Some, None, refl, arith}
use Rattle.std.specs.Prelude.{All, IfSome, nat_lt, not}
use Rattle.std.specs.List.{list_all}
use Rattle.std.proofs.lemmas.Bool.{false≢true, ltb-true}
use Rattle.std.proofs.lemmas.List.Elements.{All-cons, All-nil}
use Rattle.class_form.specs.declared.class_file.ClassFile.{ClassFile}
use Rattle.class_form.specs.declared.constant.Const.{Const}
use Rattle.class_form.specs.declared.member.MemberInfo.{MemberInfo}
use Rattle.class_form.specs.declared.member.Code.{Code}
use Rattle.class_form.specs.WellFormed.{WellFormed, is_utf8, names, is_code, attributes_fit, code_size, any_code_fits, code_count, member_fits}
use Rattle.jvm_load.specs.Loadable.{HasShortCode, IsLoadableFile, IsLoadable}
use Rattle.unit_build.specs.Files.{AreFormed}

first_of : (a b : Bool) → a && b ≡ true → a ≡ true
first_of true b h = refl
first_of false b h = absurd (false≢true h)

second_of : (a b : Bool) → a && b ≡ true → b ≡ true
second_of true b h = h
second_of false b h = absurd (false≢true h)

third_of : (a b c d e : Bool) → a && b && c && d && e ≡ true → c ≡ true
third_of a b c d e h = second_of (a && b) c (first_of (a && b && c) d (first_of (a && b && c && d) e h))

second_of_four : (a b c d : Bool) → a && b && c && d ≡ true → b ≡ true
second_of_four a b c d h = second_of a b (first_of (a && b) c (first_of (a && b && c) d h))

is_less : (m n : ℕ) → nat_lt m n ≡ true → m < n
is_less m n h = ltb-true m n h

short_bytes : (constants : List Const) (o : Option Code) → any_code_fits constants o ≡ true → IfSome o (λ code. length code.bytes < 2 ^ 32)
short_bytes constants None k = tt
short_bytes constants (Some code) k =
    let few = second_of_four (nat_lt 0 (length code.bytes)) (nat_lt (length code.bytes) 65536) (attributes_fit constants 0 code.attributes) (nat_lt (code_size code) 4294967296) k in
    omega (arith, is_less (length code.bytes) 65536 few)

short_code : (constants : List Const) (m : MemberInfo) → member_fits constants m ≡ true → HasShortCode m
short_code constants m h =
    short_bytes constants m.code (third_of (names is_utf8 constants m.name) (names is_utf8 constants m.descriptor) (any_code_fits constants m.code)
    (attributes_fit constants (code_count m.code) m.attributes) (list_all (λ attribute. not (is_code constants attribute)) m.attributes) h)

short_codes : (constants : List Const) (ms : List MemberInfo) → list_all (member_fits constants) ms ≡ true → All HasShortCode ms
short_codes constants [] h = All-nil HasShortCode
short_codes constants (m ∷ ms) h =
    All-cons HasShortCode m ms (short_code constants m (first_of (member_fits constants m) (list_all (member_fits constants) ms) h))
    (short_codes constants ms (second_of (member_fits constants m) (list_all (member_fits constants) ms) h))

loadable_file : (file : ClassFile) → WellFormed file → IsLoadableFile file
loadable_file file w = record {
  fields = omega (arith, is_less (length file.fields) 65536 w.field_count);
  methods = omega (arith, is_less (length file.methods) 65536 w.method_count);
  codes = short_codes file.constants file.methods w.methods;
}

each_loadable : (files : List ClassFile) → AreFormed files → All IsLoadableFile files
each_loadable [] h = All-nil IsLoadableFile
each_loadable (f ∷ fs) h = All-cons IsLoadableFile f fs (loadable_file f (h 0 f refl)) (each_loadable fs (λ i. h (suc i)))

-- where they are fewer than 2^32
pub loadable : (files : List ClassFile) → length files < 2 ^ 32 → AreFormed files → IsLoadable files
loadable files few h = record { count = few; each = each_loadable files h }
