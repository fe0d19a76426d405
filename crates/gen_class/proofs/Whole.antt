-- A file that is put together is that of its class.
use Rattle.std.proofs.Common.{◌≡◌, ℕ, zero, suc, Bool, true, false, List, [], ◌∷◌, ◌++◌, map, length, Option, Some, None, refl, sym, ap, ◌∙◌, subst, arith}
use Rattle.std.specs.Prelude.{◌||◌, ◌&&◌, ◌==◌, nat_lt, slice_get, option_and_then, unwrap_or, bit_or, if◌then◌else◌, codes}
use Rattle.std.proofs.lemmas.Bool.{ne_eqb}
use Rattle.std.proofs.lemmas.List.{length-map}
use Rattle.std.specs.List.{filter_map, list_all}
use Rattle.std.specs.Option.{option_map_or}
use Rattle.class_form.specs.declared.class_file.ClassFile.{ClassFile}
use Rattle.class_form.specs.declared.constant.Const.{Const}
use Rattle.class_form.specs.declared.constant.Const.TheVariants.{Unused, Utf8}
use Rattle.class_form.specs.declared.member.MemberInfo.{MemberInfo}
use Rattle.class_form.specs.Constants.{class_in, utf8_at, class_name_at}
use Rattle.class_form.specs.WellFormed.{WellFormed, pool_fits, member_fits}
use Rattle.jp_pred.specs.declared.hier.Hier.{Hier}
use Rattle.iface_codec.specs.declared.iface.Iface.{Iface}
use Rattle.jp_store.specs.Classes.{Class, Field, object_name}
use Rattle.jp_meaning.specs.declared.unit.TypedClass.{TypedClass}
use Rattle.jp_meaning.specs.Descriptors.{internal_name}
use Rattle.jp_meaning.specs.Classes.{field_of_head, class_of_head}
use Rattle.jvm_load.specs.FileClasses.{has_flag, class_text_at, field_of_member, class_of}
use Rattle.code_asm.specs.Held.{Extends, InFiles}
use Rattle.gen_laws.specs.Compiled.{name_of_part, IsFileOf}
use Rattle.gen_laws.proofs.Lists.{not_there}
use Rattle.gen_class.specs.declared.heads.Heading.{Heading}
use Rattle.gen_class.specs.Asked.{with_text, class_constants}
use Rattle.gen_class.specs.Excuses.{is_fit}
use Rattle.gen_class.specs.Files.{file_with}
use Rattle.gen_class.specs.Flags.{flag_if, class_flags, field_flags, flags_of_part, HasFlags}
use Rattle.gen_class.specs.Heads.{NamesClass}
use Rattle.gen_class.specs.Made.{InClass, AreMade}
use Rattle.gen_class.specs.Members.{EachWritten, HasFewItems, AreApart}
use Rattle.gen_class.proofs.Fitting.{texts_of, all_longer, held_first, well_formed_is}
use Rattle.gen_class.proofs.Growing.{grown, longer, in_file}
use Rattle.gen_class.proofs.Making.{made_count, each_has, no_others, none_twice}

-- the flags of a class
interface_flag : (i f a : Bool) → has_flag 0x0200 (if i then 0x0601 else bit_or (bit_or 0x0021 (flag_if f 0x0010)) (flag_if a 0x0400)) ≡ i
interface_flag true f a = refl
interface_flag false true true = refl
interface_flag false true false = refl
interface_flag false false true = refl
interface_flag false false false = refl

abstract_flag : (i f a : Bool) → has_flag 0x0400 (if i then 0x0601 else bit_or (bit_or 0x0021 (flag_if f 0x0010)) (flag_if a 0x0400)) ≡ (a || i)
abstract_flag true f true = refl
abstract_flag true f false = refl
abstract_flag false true true = refl
abstract_flag false true false = refl
abstract_flag false false true = refl
abstract_flag false false false = refl

-- an index that names a class isn't 0, at which nothing is named
named_super : (file : ClassFile) (i : ℕ) (name : List ℕ) (list : List Const) → file.constants ≡ Unused ∷ list → class_name_at file i ≡ Some name → (if i == 0 then None else Some (class_text_at file i)) ≡ Some name
named_super file zero name list has e = not_there _ name (class_name_at file zero) (ap (λ (l : List Const). option_and_then (utf8_at file) (option_and_then class_in (slice_get l zero))) has) e
named_super file (suc i) name list has e =
    ap (λ (b : Bool). if b then None else Some (class_text_at file (suc i))) (ne_eqb (suc i) 0 (λ z. omega (arith, z))) ∙ ap (λ (o : Option (List ℕ)). Some (unwrap_or o [])) e

same_class : (a b : Class) → a.name ≡ b.name → a.superclass ≡ b.superclass → a.interfaces ≡ b.interfaces → a.is_interface ≡ b.is_interface → a.is_abstract ≡ b.is_abstract → a.fields ≡ b.fields → a ≡ b
same_class a b n s i j k f =
    ap (λ (x : List ℕ). record { name = x; superclass = a.superclass; interfaces = a.interfaces; is_interface = a.is_interface; is_abstract = a.is_abstract; fields = a.fields }) n
    ∙ ap (λ (x : Option (List ℕ)). record { name = b.name; superclass = x; interfaces = a.interfaces; is_interface = a.is_interface; is_abstract = a.is_abstract; fields = a.fields }) s
    ∙ ap (λ (x : List (List ℕ)). record { name = b.name; superclass = b.superclass; interfaces = x; is_interface = a.is_interface; is_abstract = a.is_abstract; fields = a.fields }) i
    ∙ ap (λ (x : Bool). record { name = b.name; superclass = b.superclass; interfaces = b.interfaces; is_interface = x; is_abstract = a.is_abstract; fields = a.fields }) j
    ∙ ap (λ (x : Bool). record { name = b.name; superclass = b.superclass; interfaces = b.interfaces; is_interface = b.is_interface; is_abstract = x; fields = a.fields }) k
    ∙ ap (λ (x : List Field). record { name = b.name; superclass = b.superclass; interfaces = b.interfaces; is_interface = b.is_interface; is_abstract = b.is_abstract; fields = x }) f

class_is : (head : Iface) (heading : Heading) (fields methods : List MemberInfo) (list : List Const) → let file = file_with list (class_flags head) heading fields methods in
    NamesClass head heading file → map (field_of_member file) fields ≡ map field_of_head head.fields → class_of file ≡ class_of_head head
class_is head heading fields methods list names shows =
    let file = file_with list (class_flags head) heading fields methods in
    same_class (class_of file) (class_of_head head) (ap (λ (o : Option (List ℕ)). unwrap_or o []) names.this_class)
    (named_super file heading.super_class (option_map_or internal_name head.superclass object_name) list refl names.super_class)
    (texts_of (class_name_at file) internal_name heading.interfaces head.interfaces names.interfaces)
    (interface_flag head.is_interface head.is_final head.is_abstract) (abstract_flag head.is_interface head.is_final head.is_abstract) shows

-- what is put together of the parts of a class, which were made one after the other
module _ (hier : Hier) (c : TypedClass) (heading : Heading) (fields methods : List MemberInfo) (list : List Const) where
  abbrev whole : ClassFile
  whole = file_with list (class_flags c.head) heading fields methods

  abbrev Named : ClassFile → Type 0
  Named file = NamesClass c.head heading file

  abbrev Shows : ClassFile → Type 0
  Shows file = map (field_of_member file) fields ≡ map field_of_head c.head.fields

  abbrev There : ClassFile → Type 0
  There file = AreMade hier c.head file c.members methods

  whole_is : NamesClass c.head heading whole → map (field_of_member whole) fields ≡ map field_of_head c.head.fields → AreMade hier c.head whole c.members methods → AreApart c
      → (most : ℕ) → EachWritten c (HasFewItems hier c.head most) → IsFileOf hier c whole most
  whole_is names shows there apart most few = record {
    class = class_is c.head heading fields methods list names shows;
    each = λ i m name e n. each_has hier c whole there most i m name e n (few i m e name n);
    others = no_others hier c whole there;
    once = none_twice hier c whole there apart;
  }

  pub file_is : (first second : List Const) (flags : ℕ) (file : ClassFile) → file ≡ file_with list flags heading fields methods → flags ≡ class_flags c.head → Extends first second → Extends second list
      → InFiles first (λ file. NamesClass c.head heading file) → InFiles second (λ file. map (field_of_member file) fields ≡ map field_of_head c.head.fields) → InClass c.head list (λ file. AreMade hier c.head file c.members methods)
      → AreApart c → (most : ℕ) → EachWritten c (HasFewItems hier c.head most) → IsFileOf hier c file most
  file_is first second flags file put flagged grows goes names shows made apart most few =
      let is : file ≡ whole = put ∙ ap (λ (n : ℕ). file_with list n heading fields methods) flagged in
      let named : NamesClass c.head heading whole = in_file Named list whole refl (longer Named second list goes (longer Named first second grows names)) in
      let shown : map (field_of_member whole) fields ≡ map field_of_head c.head.fields = in_file Shows list whole refl (longer Shows second list goes shows) in
      let there : AreMade hier c.head whole c.members methods = in_file (λ (file : ClassFile). class_name_at file file.this_class ≡ Some (internal_name c.head.name) → There file) list whole refl made named.this_class in
      subst (λ (f : ClassFile). IsFileOf hier c f most) (sym is) (whole_is named shown there apart most few)

  -- and it is well formed where its constants are and nothing in it is too much
  pub fit_is : (text first second : List Const) (flags : ℕ) (file : ClassFile) → file ≡ file_with list flags heading fields methods → flags ≡ class_flags c.head → text ≡ with_text [] (codes "Code") → Extends text first → Extends first second → Extends second list
      → InFiles first (λ file. NamesClass c.head heading file) → InFiles second (λ file. map (field_of_member file) fields ≡ map field_of_head c.head.fields) → InClass c.head list (λ file. AreMade hier c.head file c.members methods)
      → InFiles second (λ file. list_all (member_fits file.constants) fields ≡ true) → InFiles list (λ file. list_all (member_fits file.constants) methods ≡ true) → list ≡ class_constants hier c → is_fit hier c ≡ true → WellFormed file
  fit_is text first second flags file put flagged begins starts grows goes names shows made fields_fit methods_fit asked fit =
      let that : ClassFile = file_with list flags heading fields methods in
      let named : NamesClass c.head heading that = in_file Named list that refl (longer Named second list goes (longer Named first second grows names)) in
      let shown : map (field_of_member that) fields ≡ map field_of_head c.head.fields = in_file Shows list that refl (longer Shows second list goes shows) in
      let there : AreMade hier c.head that c.members methods = in_file (λ (file : ClassFile). class_name_at file file.this_class ≡ Some (internal_name c.head.name) → There file) list that refl made named.this_class in
      let all_fields : list_all (member_fits that.constants) fields ≡ true = in_file (λ (file : ClassFile). list_all (member_fits file.constants) fields ≡ true) list that refl (all_longer second list fields goes fields_fit) in
      let all_methods : list_all (member_fits that.constants) methods ≡ true = in_file (λ (file : ClassFile). list_all (member_fits file.constants) methods ≡ true) list that refl methods_fit in
      let many : length fields ≡ length c.head.fields = sym (length-map fields (field_of_member that)) ∙ ap (λ (l : List Field). length l) shown ∙ length-map c.head.fields field_of_head in
      let more : Extends text list = grown text second list (grown text first second starts grows) goes in
      let code : list ≡ Utf8 (codes "Code") ∷ more.0 = more.1 ∙ ap (λ (l : List Const). l ++ more.0) (begins ∙ held_first (codes "Code")) in
      let count : ℕ = length (filter_map (λ m. name_of_part c.head m.part) c.members) in
      let fits : (pool_fits (Unused ∷ list) && nat_lt (length c.head.interfaces) 65536 && nat_lt (length c.head.fields) 65536 && nat_lt count 65536) ≡ true =
      ap (λ (l : List Const). pool_fits (Unused ∷ l) && nat_lt (length c.head.interfaces) 65536 && nat_lt (length c.head.fields) 65536 && nat_lt count 65536) asked ∙ fit in
      subst (λ (f : ClassFile). WellFormed f) (sym put)
      (well_formed_is that list more.0 (internal_name c.head.name) (option_map_or internal_name c.head.superclass object_name) internal_name c.head.interfaces c.head.fields count refl code named.this_class named.super_class named.interfaces many
      (made_count hier c.head that c.members methods there) refl all_fields all_methods fits)

pub constants_are : (list : List Const) (flags : ℕ) (heading : Heading) (fields methods : List MemberInfo) (file : ClassFile) (all : List Const) → file ≡ file_with list flags heading fields methods → list ≡ all → file.constants ≡ Unused ∷ all
constants_are list flags heading fields methods file all put asked = ap (λ (f : ClassFile). f.constants) put ∙ ap (λ (l : List Const). Unused ∷ l) asked

pub flags_are : (c : TypedClass) (heading : Heading) (fields methods : List MemberInfo) (list : List Const) (flags : ℕ) (file : ClassFile) → file ≡ file_with list flags heading fields methods → flags ≡ class_flags c.head
    → map (λ field. field.flags) fields ≡ map field_flags c.head.fields → map (λ method. method.flags) methods ≡ filter_map (λ m. flags_of_part c.head m.part) c.members → HasFlags c file
flags_are c heading fields methods list flags file put is fields_are methods_are = subst (λ (f : ClassFile). HasFlags c f) (sym put) (record { class = is; fields = fields_are; methods = methods_are })
