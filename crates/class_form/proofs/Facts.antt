-- The one test of a class file, and the facts that it stands for.
use Rattle.std.proofs.Common.{◌≡◌, Bool, true, false, ◌&&◌, refl, length}
use Rattle.std.specs.Prelude.{◌↔◌, IsTrue, nat_lt}
use Rattle.std.specs.List.{list_all}
use Rattle.class_form.specs.declared.class_file.ClassFile.{ClassFile}
use Rattle.class_form.specs.WellFormed.{WellFormed, is_well_formed, pool_fits, head_fits, count_members_fit, attributes_fit, has_code_name, is_spaced, text_fits, has_right_indices, names, is_class, is_super_class, member_fits}

pub both : (a b : Bool) → (a && b) ≡ true → (a ≡ true) × (b ≡ true)
both true b e = (refl, e)
both false b e = absurd cc

pub and_both : (a b : Bool) → a ≡ true → b ≡ true → (a && b) ≡ true
and_both a b p q = rw (p, q) refl

pub four : (a b c d : Bool) → (a && b && c && d) ≡ true → (a ≡ true) × (b ≡ true) × (c ≡ true) × (d ≡ true)
four a b c d e =
    let x = both (a && b && c) d e in
    let y = both (a && b) c x.0 in
    let z = both a b y.0 in
    (z.0, z.1, y.1, x.1)

pub and_four : (a b c d : Bool) → a ≡ true → b ≡ true → c ≡ true → d ≡ true → (a && b && c && d) ≡ true
and_four a b c d p q r s = rw (p, q, r, s) refl

facts_of : (file : ClassFile) → IsTrue (is_well_formed file) → WellFormed file
facts_of file h =
    let cs = file.constants in
    let rest = count_members_fit cs file.fields && count_members_fit cs file.methods && attributes_fit cs 0 file.attributes && has_code_name file in
    let whole = both (pool_fits cs && head_fits cs file) rest h in
    let front = both (pool_fits cs) (head_fits cs file) whole.0 in
    let p = four (nat_lt (length cs) 65536) (is_spaced true cs) (list_all text_fits cs) (list_all (has_right_indices cs) cs) front.0 in
    let q = four (names is_class cs file.this_class) (is_super_class cs file.super_class) (nat_lt (length file.interfaces) 65536) (list_all (names is_class cs) file.interfaces) front.1 in
    let r = four (count_members_fit cs file.fields) (count_members_fit cs file.methods) (attributes_fit cs 0 file.attributes) (has_code_name file) whole.1 in
    let f = both (nat_lt (length file.fields) 65536) (list_all (member_fits cs) file.fields) r.0 in
    let m = both (nat_lt (length file.methods) 65536) (list_all (member_fits cs) file.methods) r.1 in
    record {
      count = p.0;
      spaced = p.1;
      texts = p.2;
      indices = p.3;
      this_class = q.0;
      super_class = q.1;
      interface_count = q.2;
      interfaces = q.3;
      field_count = f.0;
      fields = f.1;
      method_count = m.0;
      methods = m.1;
      attributes = r.2;
      code_name = r.3;
    }

test_of : (file : ClassFile) → WellFormed file → IsTrue (is_well_formed file)
test_of file w =
    let cs = file.constants in
    let p : pool_fits cs ≡ true = and_four (nat_lt (length cs) 65536) (is_spaced true cs) (list_all text_fits cs) (list_all (has_right_indices cs) cs) w.count w.spaced w.texts w.indices in
    let q : head_fits cs file ≡ true = and_four (names is_class cs file.this_class) (is_super_class cs file.super_class) (nat_lt (length file.interfaces) 65536) (list_all (names is_class cs) file.interfaces) w.this_class w.super_class w.interface_count w.interfaces in
    let f : count_members_fit cs file.fields ≡ true = and_both (nat_lt (length file.fields) 65536) (list_all (member_fits cs) file.fields) w.field_count w.fields in
    let m : count_members_fit cs file.methods ≡ true = and_both (nat_lt (length file.methods) 65536) (list_all (member_fits cs) file.methods) w.method_count w.methods in
    let r = and_four (count_members_fit cs file.fields) (count_members_fit cs file.methods) (attributes_fit cs 0 file.attributes) (has_code_name file) f m w.attributes w.code_name in
    and_both (pool_fits cs && head_fits cs file) (count_members_fit cs file.fields && count_members_fit cs file.methods && attributes_fit cs 0 file.attributes && has_code_name file) (and_both (pool_fits cs) (head_fits cs file) p q) r

pub test_is : (file : ClassFile) → IsTrue (is_well_formed file) ↔ WellFormed file
test_is file = (facts_of file, test_of file)
