-- The texts of a class's constants fit.
use Rattle.std.proofs.Common.{◌≡◌, ℕ, zero, suc, Bool, true, ◌&&◌, List, [], ◌∷◌, Option, Some, None, refl, ◌∙◌}
use Rattle.std.specs.Prelude.{slice_get, option_and_then, codes}
use Rattle.std.specs.Option.{option_map}
use Rattle.std.specs.List.{fold, list_all}
use Rattle.class_form.specs.declared.constant.Const.{Const}
use Rattle.class_form.specs.declared.constant.Const.TheVariants.{Utf8}
use Rattle.class_form.proofs.Facts.{both, and_both}
use Rattle.jp_pred.specs.declared.hier.Hier.{Hier}
use Rattle.jp_pred.specs.declared.ty.Ty.{Ty}
use Rattle.jp_pred.specs.declared.ty.Ty.TheVariants as ty
use Rattle.jp_pred.specs.Names.{Word}
use Rattle.iface_codec.specs.declared.iface.Iface.{Iface}
use Rattle.iface_codec.specs.declared.iface.IfaceField.{IfaceField}
use Rattle.iface_codec.specs.declared.iface.IfaceMethod.{IfaceMethod}
use Rattle.iface_codec.specs.declared.iface.MethodKind.{MethodKind}
use Rattle.iface_codec.specs.declared.iface.MethodKind.TheVariants as kind
use Rattle.jp_store.specs.Classes.{object_name}
use Rattle.jp_meaning.specs.declared.unit.TypedMember.{TypedMember}
use Rattle.jp_meaning.specs.declared.unit.TypedPart.{TypedPart}
use Rattle.jp_meaning.specs.declared.unit.TypedPart.TheVariants as part
use Rattle.jp_meaning.specs.Descriptors.{internal_name, descriptor_of, method_descriptor}
use Rattle.code_asm.specs.Items.{Wanted, IntOf, TextOf, FieldOf, ClassOf, MethodOf, FamilyOf, BuiltIn, Item, Plain, Uses, CallsInterface, Branch, Mark}
use Rattle.code_asm.specs.Lines.{named_of, line_of, lines_of}
use Rattle.gen_body.specs.Members.{member_code}
use Rattle.gen_laws.specs.Compiled.{Name, name_of_method, name_of_part}
use Rattle.pool_laws.specs.Texts.{fits, is_fit, named_texts, line_fits}
use Rattle.pool_laws.proofs.Fitting as pool
use Rattle.code_texts.specs.Short.{is_short, names_short, has_short_params, or_so, is_short_member}
use Rattle.code_texts.specs.Fitting.{text_fits_in, wanted_texts, item_texts, items_fit}
use Rattle.code_texts.proofs.Texts.{names, types, methods}
use Rattle.code_texts.proofs.TextsOfMembers.{member_fits}
use Rattle.gen_class.specs.Asked.{with_text, with_name, with_class, with_superclass, with_heading, with_field, with_method, with_member, front_constants}
use Rattle.class_forms.specs.Heads.{is_short_field, is_short_method, names_short_supers, has_short_head}
use Rattle.class_forms.specs.Laws.{ClassConstantsFit}

-- LISTS

-- what each step keeps at an element that passes a test stays over elements that all pass
module _ {A : Type 0} (more : List Const → A → List Const) (test : A → Bool) (keeps : (list : List Const) (x : A) → test x ≡ true → fits list ≡ true → fits (more list x) ≡ true) where
  all_keep : (xs : List A) (list : List Const) → list_all test xs ≡ true → fits list ≡ true → fits (fold more list xs) ≡ true
  all_keep [] list e h = h
  all_keep (x ∷ xs) list e h = let p = both (test x) (list_all test xs) e in all_keep xs (more list x) p.1 (keeps list x p.0 h)

-- the element at an index passes too, if there is one
at_index : {A : Type 0} (test : A → Bool) (xs : List A) (i : ℕ) → list_all test xs ≡ true → or_so test (slice_get xs i) ≡ true
at_index test [] i e = refl
at_index test (x ∷ xs) zero e = (both (test x) (list_all test xs) e).0
at_index test (x ∷ xs) (suc i) e = at_index test xs i (both (test x) (list_all test xs) e).1

-- WHAT CODE NAMES

-- the texts of a line are those of its item
wanted_same : (wanted : Wanted) → list_all is_fit (named_texts (named_of wanted)) ≡ list_all text_fits_in (wanted_texts wanted)
wanted_same (IntOf n) = refl
wanted_same (TextOf bytes) = refl
wanted_same (FieldOf key) = refl
wanted_same (ClassOf name) = refl
wanted_same (MethodOf key signature) = refl
wanted_same (FamilyOf key signature) = refl
wanted_same (BuiltIn key) = refl

line_same : (item : Item) → line_fits (line_of item) ≡ list_all text_fits_in (item_texts item)
line_same (Plain instr) = refl
line_same (Uses use_ wanted) = wanted_same wanted
line_same (CallsInterface key signature) = refl
line_same (Branch jump label) = refl
line_same (Mark label) = refl

lines_fit : (items : List Item) → items_fit items ≡ true → list_all line_fits (lines_of items) ≡ true
lines_fit [] e = refl
lines_fit (item ∷ items) e =
    let p = both (list_all text_fits_in (item_texts item)) (items_fit items) e in
    and_both (line_fits (line_of item)) (list_all line_fits (lines_of items)) (line_same item ∙ p.0) (lines_fit items p.1)

-- WHAT THE HEAD NAMES

name_kept : (list : List Const) (name descriptor : List ℕ) → is_fit name ≡ true → is_fit descriptor ≡ true → fits list ≡ true → fits (with_name list name descriptor) ≡ true
name_kept list name descriptor e f h = pool.one_fits (with_text list name) (Utf8 descriptor) (pool.one_fits list (Utf8 name) h e) f

class_kept : (list : List Const) (name : Word) → is_short name ≡ true → fits list ≡ true → fits (with_class list name) ≡ true
class_kept list name e h = pool.class_fits list (internal_name name) h (names name e).1

superclass_kept : (list : List Const) (o : Option Word) → or_so is_short o ≡ true → fits list ≡ true → fits (with_superclass list o) ≡ true
superclass_kept list None e h = pool.class_fits list object_name h refl
superclass_kept list (Some name) e h = class_kept list name e h

heading_kept : (list : List Const) (head : Iface) → names_short_supers head ≡ true → fits list ≡ true → fits (with_heading list head) ≡ true
heading_kept list head e h =
    let p = both (is_short head.name) (or_so is_short head.superclass && list_all is_short head.interfaces) e in
    let q = both (or_so is_short head.superclass) (list_all is_short head.interfaces) p.1 in
    let named = with_class list head.name in
    all_keep with_class is_short class_kept head.interfaces (with_superclass named head.superclass) q.1
    (superclass_kept named head.superclass q.0 (class_kept list head.name p.0 h))

field_kept : (list : List Const) (field : IfaceField) → is_short_field field ≡ true → fits list ≡ true → fits (with_field list field) ≡ true
field_kept list field e h =
    let p = both (is_short field.name) (names_short field.ty) e in
    name_kept list field.name (descriptor_of field.ty) (names field.name p.0).0 (types field.ty p.1).0 h

-- WHAT MEMBERS NAME

-- a name and a descriptor fit, if there are some
abbrev IsNamed : Option Name → Type 0
IsNamed None = Unit {0}
IsNamed (Some name) = (is_fit name.name ≡ true) × (is_fit name.descriptor ≡ true)

method_texts : (m : IfaceMethod) → is_short_method m ≡ true → IsNamed (Some (record { name = m.name; descriptor = method_descriptor m.params m.result }))
method_texts m e =
    let p = both (is_short m.name) (has_short_params m.params && names_short m.result) e in
    let q = both (has_short_params m.params) (names_short m.result) p.1 in
    ((names m.name p.0).0, methods m.params m.result q.0 q.1)

kind_named : (k : MethodKind) (m : IfaceMethod) → is_short_method m ≡ true → IsNamed (name_of_method k m)
kind_named kind.Abstract m e = tt
kind_named kind.Body m e = method_texts m e
kind_named kind.Static m e = method_texts m e
kind_named kind.PrivateStatic m e = method_texts m e

method_named : (o : Option IfaceMethod) → or_so is_short_method o ≡ true → IsNamed (option_and_then (λ m. name_of_method m.kind m) o)
method_named None e = tt
method_named (Some m) e = kind_named m.kind m e

constructor_named : (o : Option (List Ty)) → or_so has_short_params o ≡ true → IsNamed (option_map (λ params. record { name = codes "<init>"; descriptor = method_descriptor params ty.Void }) o)
constructor_named None e = tt
constructor_named (Some params) e = (refl, methods params ty.Void e refl)

-- WHAT A CLASS NAMES

module _ (hier : Hier) (head : Iface) (short : has_short_head head ≡ true) where
  head_parts : (names_short_supers head ≡ true) × (list_all is_short_field head.fields ≡ true) × (list_all is_short_method head.methods ≡ true) × (list_all has_short_params head.constructors ≡ true)
  head_parts =
      let p = both (names_short_supers head) (list_all is_short_field head.fields && (list_all is_short_method head.methods && list_all has_short_params head.constructors)) short in
      let q = both (list_all is_short_field head.fields) (list_all is_short_method head.methods && list_all has_short_params head.constructors) p.1 in
      let r = both (list_all is_short_method head.methods) (list_all has_short_params head.constructors) q.1 in
      (p.0, q.0, r.0, r.1)

  part_named : (q : TypedPart) → IsNamed (name_of_part head q)
  part_named (part.Field at) = tt
  part_named (part.Method at) = method_named (slice_get head.methods at) (at_index is_short_method head.methods at head_parts.2)
  part_named (part.Constructor at) = constructor_named (slice_get head.constructors at) (at_index has_short_params head.constructors at head_parts.3)

  method_kept : (list : List Const) (m : TypedMember) (o : Option Name) → IsNamed o → items_fit (member_code hier head m).items ≡ true → fits list ≡ true → fits (with_method hier head list m o) ≡ true
  method_kept list m None n e h = h
  method_kept list m (Some name) n e h =
      let items = (member_code hier head m).items in
      pool.with_lines_fit (with_name list name.name name.descriptor) (lines_of items) (name_kept list name.name name.descriptor n.0 n.1 h) (lines_fit items e)

  member_kept : (list : List Const) (m : TypedMember) → is_short_member head m ≡ true → fits list ≡ true → fits (with_member hier head list m) ≡ true
  member_kept list m e h = method_kept list m (name_of_part head m.part) (part_named m.part) (member_fits hier head m e) h

  front_fits : fits (front_constants head) ≡ true
  front_fits =
      let text = with_text [] (codes "Code") in
      all_keep with_field is_short_field field_kept head.fields (with_heading text head) head_parts.1
      (heading_kept text head head_parts.0 (pool.one_fits [] (Utf8 (codes "Code")) refl refl))

pub class_fits : ClassConstantsFit
class_fits hier c e f =
    all_keep (with_member hier c.head) (is_short_member c.head) (member_kept hier c.head e) c.members (front_constants c.head) f (front_fits hier c.head e)
