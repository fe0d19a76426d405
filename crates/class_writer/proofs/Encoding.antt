-- What is written for a well-formed class file is an encoding of it.
use Rattle.std.proofs.Common.{◌≡◌, ℕ, suc, ◌+◌, ◌<◌, Bool, true, false, not, ◌||◌, ◌&&◌, cond, List, [], ◌∷◌, Option, Some, None, Result, Ok, Err, Vec, Global, refl, sym, ap, subst, arith}
use Rattle.std.specs.Prelude.{IfOk, OnOk, is_some}
use Rattle.std.specs.List.{filter, list_all, list_any, All, AllByRecursion}
use Rattle.std.specs.declared.alloc.AllocError.{AllocError}
use Rattle.std.proofs.lemmas.List.Concat.{flat_map-cons}
use Rattle.std.proofs.lemmas.List.Elements.{recursion_from_All}
use Rattle.class_form.specs.declared.constant.Const.{Const}
use Rattle.class_form.specs.declared.class_file.ClassFile.{ClassFile}
use Rattle.class_form.specs.declared.member.Attribute.{Attribute}
use Rattle.class_form.specs.declared.member.Code.{Code}
use Rattle.class_form.specs.declared.member.MemberInfo.{MemberInfo}
use Rattle.class_form.specs.WellFormed.{WellFormed, names, is_utf8, is_code_text, is_code, has_code, member_fits, any_code_fits, attributes_fit, code_count}
use Rattle.class_form.specs.Layout.{HasAttributes, EncodesMember, EncodesMembers, Encodes, MemberInRange, NumberInRange}
use Rattle.class_form.proofs.Facts.{both}
use Rattle.class_writer.specs.Written.{code_name, code_attribute, with_code, written_member, written_members, written}

not_true : (b : Bool) → not b ≡ true → b ≡ false
not_true true e = absurd cc
not_true false e = refl

-- a list of which no item passes
none_pass : {X : Type 0} (p : X → Bool) (xs : List X) → list_all (λ x. not (p x)) xs ≡ true → (filter (λ x. not (p x)) xs ≡ xs) × (filter p xs ≡ [])
none_pass p [] h = (refl, refl)
none_pass p (x ∷ xs) h =
    let e = both (not (p x)) (list_all (λ y. not (p y)) xs) h in
    let fails : p x ≡ false = not_true (p x) e.0 in
    let more = none_pass p xs e.1 in
    (rw fails (ap (λ ys. x ∷ ys) more.0), rw fails more.1)

attributes_of : (constants : List Const) (name : ℕ) (code : Option Code) (kept : List Attribute) → (is_some code ≡ true → names is_code_text constants name ≡ true) → list_all (λ a. not (is_code constants a)) kept ≡ true → HasAttributes constants code kept (with_code name code kept)
attributes_of constants name None kept named h =
    let n = none_pass (is_code constants) kept h in
    record { code_attribute = n.1; others = n.0 }
attributes_of constants name (Some code) kept named h =
    let n = none_pass (is_code constants) kept h in
    let e : is_code constants (code_attribute name code) ≡ true = named refl in
    record { code_attribute = (name, rw (e, n.1) refl); others = rw e n.0 }

or_left : (a b : Bool) → a ≡ true → (a || b) ≡ true
or_left a b e = rw e refl

or_right : (a b : Bool) → b ≡ true → (a || b) ≡ true
or_right true b e = refl
or_right false b e = e

member_of : (constants : List Const) (name : ℕ) (m : MemberInfo) → (has_code m ≡ true → names is_code_text constants name ≡ true) → member_fits constants m ≡ true → MemberInRange m → EncodesMember constants m (written_member name m)
member_of constants name m named fits numbers =
    let others = both (names is_utf8 constants m.name && names is_utf8 constants m.descriptor && any_code_fits constants m.code && attributes_fit constants (code_count m.code) m.attributes) (list_all (λ a. not (is_code constants a)) m.attributes) fits in
    record { all = with_code name m.code m.attributes; has_attributes = attributes_of constants name m.code m.attributes named others.1; spelled = refl; numbers = numbers }

members_of : (constants : List Const) (name : ℕ) (ms : List MemberInfo) → (list_any has_code ms ≡ true → names is_code_text constants name ≡ true) → list_all (member_fits constants) ms ≡ true → AllByRecursion MemberInRange ms → EncodesMembers constants ms (written_members name ms)
members_of constants name [] named fits numbers = refl
members_of constants name (m ∷ more) named fits numbers =
    let e = both (member_fits constants m) (list_all (member_fits constants) more) fits in (
      written_member name m,
      written_members name more,
      member_of constants name m (λ has. named (or_left (has_code m) (list_any has_code more) has)) e.0 numbers.0,
      members_of constants name more (λ has. named (or_right (has_code m) (list_any has_code more) has)) e.1 numbers.1,
      flat_map-cons (written_member name) m more,
    )

code_step : (c : Const) (cs : List Const) (n : ℕ) (b : Bool) → is_code_text c ≡ b → (b || list_any is_code_text cs) ≡ true → (list_any is_code_text cs ≡ true → names is_code_text cs n ≡ true) → names is_code_text (c ∷ cs) (cond (not b) (1 + n) 0) ≡ true
code_step c cs n true e h more = e
code_step c cs n false e h more =
    let k : suc n ≡ 1 + n = omega arith in
    subst (λ (i : ℕ). names is_code_text (c ∷ cs) i ≡ true) k (more h)

-- the text `Code` stands at its index, where there is one
code_named : (cs : List Const) → list_any is_code_text cs ≡ true → names is_code_text cs (code_name cs) ≡ true
code_named [] h = absurd cc
code_named (c ∷ cs) h = code_step c cs (code_name cs) (is_code_text c) refl h (code_named cs)

implied : (a b : Bool) → (not a || b) ≡ true → a ≡ true → b ≡ true
implied true b h e = h
implied false b h e = absurd cc

pub encoded : (file : ClassFile) → WellFormed file → All NumberInRange file.constants → All MemberInRange file.fields → All MemberInRange file.methods → file.flags < 65536 → Encodes file (written file)
encoded file w numbers fields methods flags =
    let cs = file.constants in
    let used = list_any has_code file.fields || list_any has_code file.methods in
    let named : used ≡ true → names is_code_text cs (code_name cs) ≡ true = λ e. code_named cs (implied used (list_any is_code_text cs) w.code_name e) in
    record {
      field_bytes = written_members (code_name cs) file.fields;
      method_bytes = written_members (code_name cs) file.methods;
      fields = members_of cs (code_name cs) file.fields (λ e. named (or_left (list_any has_code file.fields) (list_any has_code file.methods) e)) w.fields (recursion_from_All MemberInRange file.fields fields);
      methods = members_of cs (code_name cs) file.methods (λ e. named (or_right (list_any has_code file.fields) (list_any has_code file.methods) e)) w.methods (recursion_from_All MemberInRange file.methods methods);
      spelled = refl;
      numbers = numbers;
      flags = flags;
    }

pub is_encoded : (file : ClassFile) (r : Result (Vec ℕ Global) AllocError) → WellFormed file → IfOk r (λ v. v.items ≡ written file) → OnOk r (All NumberInRange file.constants) → OnOk r (All MemberInRange file.fields) → OnOk r (All MemberInRange file.methods) → OnOk r (file.flags < 65536) → IfOk r (λ v. Encodes file v.items)
is_encoded file (Ok v) w exact numbers fields methods flags = subst (Encodes file) (sym exact) (encoded file w numbers fields methods flags)
is_encoded file (Err e) w exact numbers fields methods flags = tt
