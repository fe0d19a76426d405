-- The methods of a class's file are found by the names of its members.
use Rattle.std.proofs.Common.{◌≡◌, ℕ, zero, suc, Bool, true, false, List, [], ◌∷◌, Option, Some, None, refl, sym, ap, ◌∙◌, subst}
use Rattle.std.specs.Prelude.{◌≢◌, ◌&&◌, is_some, position, slice_get, option_and_then, if◌then◌else◌, codes}
use Rattle.std.specs.List.{filter_map, cons_option}
use Rattle.std.specs.Option.{option_map, option_map_or}
use Rattle.std.specs.Str.{bytes_eq}
use Rattle.std.proofs.lemmas.Bool.{false≢true, false_from_ne_true}
use Rattle.std.proofs.lemmas.Slice.Eq.{bytes_eq-Decides}
use Rattle.class_form.proofs.Facts.{both}
use Rattle.class_form.specs.declared.class_file.ClassFile.{ClassFile}
use Rattle.class_form.specs.declared.member.MemberInfo.{MemberInfo}
use Rattle.jp_pred.specs.declared.hier.Hier.{Hier}
use Rattle.jp_pred.specs.declared.ty.Ty.{Ty}
use Rattle.jp_pred.specs.declared.ty.Ty.TheVariants as ty
use Rattle.iface_codec.specs.declared.iface.Iface.{Iface}
use Rattle.iface_codec.specs.declared.iface.IfaceMethod.{IfaceMethod}
use Rattle.iface_codec.specs.declared.iface.MethodKind.{MethodKind}
use Rattle.iface_codec.specs.declared.iface.MethodKind.TheVariants as kind
use Rattle.jp_meaning.specs.declared.unit.TypedClass.{TypedClass}
use Rattle.jp_meaning.specs.declared.unit.TypedMember.{TypedMember}
use Rattle.jp_meaning.specs.declared.unit.TypedPart.{TypedPart}
use Rattle.jp_meaning.specs.declared.unit.TypedPart.TheVariants as part
use Rattle.jp_meaning.specs.Does.{Method}
use Rattle.jp_meaning.specs.Descriptors.{method_descriptor}
use Rattle.jp_meaning.specs.Classes.{Candidate, is_body, is_static, is_named, as_method, as_named, methods_in}
use Rattle.jvm_load.specs.FileClasses.{text_at}
use Rattle.jvm_load.specs.Methods.{is_method, own_method}
use Rattle.gen_laws.specs.Compiled.{Name, name_of_method, name_of_part, name_in, IsMethodOf, HasMember, IsFileOf}
use Rattle.gen_laws.proofs.Lists.{one_there, only_position, no_position}

same_bytes : (a b : List ℕ) → a ≡ b → bytes_eq a b ≡ true
same_bytes a b e = (bytes_eq-Decides a b).1 e

equal_bytes : (a b : List ℕ) → bytes_eq a b ≡ true → a ≡ b
equal_bytes a b e = (bytes_eq-Decides a b).0 e

pub same_name : (a b : Name) → a.name ≡ b.name → a.descriptor ≡ b.descriptor → a ≡ b
same_name a b e f = ap (λ (n : List ℕ). record { name = n; descriptor = a.descriptor }) e ∙ ap (λ (d : List ℕ). record { name = b.name; descriptor = d }) f

module _ (of_kind : MethodKind → Bool) (m : Method) (head : Iface) where
  -- a method of such a kind, with the name and the descriptor
  pub record Fits (x : Candidate) : Type 0 where
    pub head_is : x.head ≡ head
    pub at : ℕ
    pub part_is : x.member.part ≡ part.Method at
    pub method_there : slice_get head.methods at ≡ Some x.method
    pub kind : of_kind x.method.kind ≡ true
    pub name : x.method.name ≡ m.name
    pub descriptor : method_descriptor x.method.params x.method.result ≡ m.descriptor

  abbrev FitsIf : Option Candidate → Type 0
  FitsIf None = Unit {0}
  FitsIf (Some x) = Fits x

  by_part : (member : TypedMember) (q : TypedPart) → member.part ≡ q → FitsIf (option_and_then (λ c. if of_kind c.method.kind && is_named m c.method then Some c else None) (as_method head member q))
  by_part member (part.Field at) e = tt
  by_part member (part.Constructor at) e = tt
  by_part member (part.Method at) e = by_method (slice_get head.methods at) refl where
    by_test : (method : IfaceMethod) → slice_get head.methods at ≡ Some method → (b : Bool) → (of_kind method.kind && is_named m method) ≡ b → FitsIf (if b then Some (record { head = head; member = member; method = method }) else None)
    by_test method there false k = tt
    by_test method there true k =
        let h = both (of_kind method.kind) (is_named m method) k in
        let n = both (bytes_eq method.name m.name) (bytes_eq (method_descriptor method.params method.result) m.descriptor) h.1 in
        record { head_is = refl; at = at; part_is = e; method_there = there; kind = h.0; name = equal_bytes method.name m.name n.0; descriptor = equal_bytes (method_descriptor method.params method.result) m.descriptor n.1 }

    by_method : (o : Option IfaceMethod) → slice_get head.methods at ≡ o → FitsIf (option_and_then (λ c. if of_kind c.method.kind && is_named m c.method then Some c else None) (option_map (λ method. record { head = head; member = member; method = method }) o))
    by_method None there = tt
    by_method (Some method) there = by_test method there (of_kind method.kind && is_named m method) refl

  -- one of a class's members is such a method
  pub record IsOne (members : List TypedMember) (x : Candidate) : Type 0 where
    pub index : ℕ
    pub there : slice_get members index ≡ Some x.member
    pub fits : Fits x

  -- of a member itself
  member_is : (member : TypedMember) (x : Candidate) → as_named of_kind m head member ≡ Some x → x.member ≡ member
  member_is member x e = by_method (as_method head member member.part) (of_method member.part) e where
    Of : Option Candidate → Type 0
    Of None = Unit {0}
    Of (Some c) = c.member ≡ member

    of_map : (o : Option IfaceMethod) → Of (option_map (λ method. record { head = head; member = member; method = method }) o)
    of_map None = tt
    of_map (Some method) = refl

    of_method : (q : TypedPart) → Of (as_method head member q)
    of_method (part.Field at) = tt
    of_method (part.Constructor at) = tt
    of_method (part.Method at) = of_map (slice_get head.methods at)

    by_test : (c : Candidate) → c.member ≡ member → (b : Bool) → (if b then Some c else None) ≡ Some x → x.member ≡ member
    by_test c h true e = ap (λ (y : Candidate). y.member) (sym (one_there (Some c) c x refl e)) ∙ h
    by_test c h false e = absurd (false≢true (ap is_some e))

    by_method : (o : Option Candidate) → Of o → option_and_then (λ c. if of_kind c.method.kind && is_named m c.method then Some c else None) o ≡ Some x → x.member ≡ member
    by_method None h e = absurd (false≢true (ap is_some e))
    by_method (Some c) h e = by_test c h (of_kind c.method.kind && is_named m c.method) e

  one_is : (members : List TypedMember) (j : ℕ) (x : Candidate) → slice_get (filter_map (as_named of_kind m head) members) j ≡ Some x → IsOne members x
  one_is [] j x e = absurd (false≢true (ap is_some e))
  one_is (member ∷ members) j x e = by_one (as_named of_kind m head member) (λ y e. member_is member y e) (by_part member member.part refl) (λ j e. one_is members j x e) j e where
    Rec : Type 0
    Rec = (j : ℕ) → slice_get (filter_map (as_named of_kind m head) members) j ≡ Some x → IsOne members x

    behind : IsOne members x → IsOne (member ∷ members) x
    behind r = record { index = suc r.index; there = r.there; fits = r.fits }

    by_one : (o : Option Candidate) → ((y : Candidate) → o ≡ Some y → y.member ≡ member) → FitsIf o → Rec → (j : ℕ) → slice_get (cons_option o (filter_map (as_named of_kind m head) members)) j ≡ Some x → IsOne (member ∷ members) x
    by_one None same fits rec j e = behind (rec j e)
    by_one (Some y) same fits rec zero e =
        let is = one_there (Some y) y x refl e in
        record { index = zero; there = ap (λ (z : TypedMember). Some z) (sym (same x (ap (λ (z : Candidate). Some z) is))); fits = subst Fits is fits }
    by_one (Some y) same fits rec (suc j) e = behind (rec j e)

  -- none of the members is such a method
  pub none_is : (members : List TypedMember) → filter_map (as_named of_kind m head) members ≡ [] → (i at : ℕ) (member : TypedMember) (method : IfaceMethod) → slice_get members i ≡ Some member → member.part ≡ part.Method at → slice_get head.methods at ≡ Some method → of_kind method.kind ≡ true → method.name ≡ m.name → method_descriptor method.params method.result ≡ m.descriptor → ⊥
  none_is [] e i at member method there q k a b c = absurd (false≢true (ap is_some there))
  none_is (z ∷ members) e i at member method there q k a b c = by_one (as_named of_kind m head z) refl e i there (λ e i there. none_is members e i at member method there q k a b c) where
    named : is_named m method ≡ true
    named = ap (λ x. x && bytes_eq (method_descriptor method.params method.result) m.descriptor) (same_bytes method.name m.name b) ∙ same_bytes (method_descriptor method.params method.result) m.descriptor c

    is_here : as_named of_kind m head member ≡ Some (record { head = head; member = member; method = method })
    is_here =
        ap (λ (q : TypedPart). option_and_then (λ c. if of_kind c.method.kind && is_named m c.method then Some c else None) (as_method head member q)) q
        ∙ ap (λ (o : Option IfaceMethod). option_and_then (λ c. if of_kind c.method.kind && is_named m c.method then Some c else None) (option_map (λ method. record { head = head; member = member; method = method }) o)) k
        ∙ ap (λ x. if x && is_named m method then Some (record { head = head; member = member; method = method }) else None) a
        ∙ ap (λ x. if x then Some (record { head = head; member = member; method = method }) else None) named

    by_one : (o : Option Candidate) → as_named of_kind m head z ≡ o → cons_option o (filter_map (as_named of_kind m head) members) ≡ [] → (i : ℕ) → slice_get (z ∷ members) i ≡ Some member → (filter_map (as_named of_kind m head) members ≡ [] → (i : ℕ) → slice_get members i ≡ Some member → ⊥) → ⊥
    by_one (Some y) k e i there rec = cc
    by_one None k e zero there rec =
        let is = one_there (Some z) z member refl there in
        absurd (false≢true (ap is_some (sym k ∙ ap (as_named of_kind m head) is ∙ is_here)))
    by_one None k e (suc i) there rec = rec e i there

pub one_of_class : (of_kind : MethodKind → Bool) (m : Method) (c : TypedClass) (j : ℕ) (x : Candidate) → slice_get (methods_in of_kind m c) j ≡ Some x → IsOne of_kind m c.head c.members x
one_of_class of_kind m c j x e = one_is of_kind m c.head c.members j x e

module _ (hier : Hier) (most : ℕ) (files : List ClassFile) (at : ℕ) (file : ClassFile) (file_there : slice_get files at ≡ Some file) (c : TypedClass) (is : IsFileOf hier c file most) where
  own_in : (name descriptor : List ℕ) → own_method files name descriptor at ≡ position (is_method name descriptor file) file.methods
  own_in name descriptor = ap (λ (o : Option ClassFile). option_map_or (λ file. position (is_method name descriptor file) file.methods) o None) file_there

  named_in : (name : Name) (method : MemberInfo) → is_method name.name name.descriptor file method ≡ true → name ≡ name_in file method
  named_in name method e =
      let h = both (bytes_eq (text_at file method.name) name.name) (bytes_eq (text_at file method.descriptor) name.descriptor) e in
      same_name name (name_in file method) (sym (equal_bytes (text_at file method.name) name.name h.0)) (sym (equal_bytes (text_at file method.descriptor) name.descriptor h.1))

  -- the method of a member is the file's own
  pub record Own (m : TypedMember) (name : Name) : Type 0 where
    pub index : ℕ
    pub method : MemberInfo
    pub there : slice_get file.methods index ≡ Some method
    pub own : own_method files name.name name.descriptor at ≡ Some index
    pub method_is : IsMethodOf hier c.head m file method most

  pub own_of : (i : ℕ) (m : TypedMember) (name : Name) → slice_get c.members i ≡ Some m → name_of_part c.head m.part ≡ Some name → Own m name
  own_of i m name e called =
      let h = is.each i m name e called in
      let same : name ≡ name_in file h.method = one_there (name_of_part c.head m.part) name (name_in file h.method) called h.is.named in
      let passes : is_method name.name name.descriptor file h.method ≡ true =
      ap (λ x. x && bytes_eq (text_at file h.method.descriptor) name.descriptor) (same_bytes (text_at file h.method.name) name.name (sym (ap (λ (n : Name). n.name) same)))
      ∙ same_bytes (text_at file h.method.descriptor) name.descriptor (sym (ap (λ (n : Name). n.descriptor) same)) in
      record {
        index = h.index;
        method = h.method;
        there = h.there;
        own = own_in name.name name.descriptor ∙ only_position (is_method name.name name.descriptor file) file.methods h.index h.method h.there passes
            (λ j y there k. is.once j h.index y h.method there h.there (sym (named_in name y k) ∙ same));
        method_is = h.is;
      }

  -- a file has no method of a name where the class has no member with statements of that name
  pub none_own : (m : Method) → m.name ≢ codes "<init>" → methods_in is_body m c ≡ [] → methods_in is_static m c ≡ [] → own_method files m.name m.descriptor at ≡ None
  none_own m init body static =
      own_in m.name m.descriptor ∙ no_position (is_method m.name m.descriptor file) file.methods (λ j y there. false_from_ne_true (is_method m.name m.descriptor file y) (λ k. by_member y k (is.others j y there))) where
        named : Name
        named = record { name = m.name; descriptor = m.descriptor }

        by_method : (i at : ℕ) (member : TypedMember) (method : IfaceMethod) → slice_get c.members i ≡ Some member → member.part ≡ part.Method at → slice_get c.head.methods at ≡ Some method → (k : MethodKind) → method.kind ≡ k → name_of_method k method ≡ Some named → ⊥
        by_method i at member method there q e kind.Abstract f g = absurd (false≢true (ap is_some g))
        by_method i at member method there q e kind.Body f g =
            let n = one_there (Some (record { name = method.name; descriptor = method_descriptor method.params method.result })) (record { name = method.name; descriptor = method_descriptor method.params method.result }) named refl g in
            none_is is_body m c.head c.members body i at member method there q e (ap is_body f) (ap (λ (x : Name). x.name) n) (ap (λ (x : Name). x.descriptor) n)
        by_method i at member method there q e kind.Static f g =
            let n = one_there (Some (record { name = method.name; descriptor = method_descriptor method.params method.result })) (record { name = method.name; descriptor = method_descriptor method.params method.result }) named refl g in
            none_is is_static m c.head c.members static i at member method there q e (ap is_static f) (ap (λ (x : Name). x.name) n) (ap (λ (x : Name). x.descriptor) n)
        by_method i at member method there q e kind.PrivateStatic f g =
            let n = one_there (Some (record { name = method.name; descriptor = method_descriptor method.params method.result })) (record { name = method.name; descriptor = method_descriptor method.params method.result }) named refl g in
            none_is is_static m c.head c.members static i at member method there q e (ap is_static f) (ap (λ (x : Name). x.name) n) (ap (λ (x : Name). x.descriptor) n)

        by_found : (i at : ℕ) (member : TypedMember) → slice_get c.members i ≡ Some member → member.part ≡ part.Method at → (o : Option IfaceMethod) → slice_get c.head.methods at ≡ o → option_and_then (λ m. name_of_method m.kind m) o ≡ Some named → ⊥
        by_found i at member there q None e g = absurd (false≢true (ap is_some g))
        by_found i at member there q (Some method) e g = by_method i at member method there q e method.kind refl g

        by_params : (o : Option (List Ty)) → option_map (λ params. record { name = codes "<init>"; descriptor = method_descriptor params ty.Void }) o ≡ Some named → ⊥
        by_params None g = absurd (false≢true (ap is_some g))
        by_params (Some params) g = init (sym (ap (λ (x : Name). x.name) (one_there (Some (record { name = codes "<init>"; descriptor = method_descriptor params ty.Void })) (record { name = codes "<init>"; descriptor = method_descriptor params ty.Void }) named refl g)))

        by_part : (i : ℕ) (member : TypedMember) → slice_get c.members i ≡ Some member → (q : TypedPart) → member.part ≡ q → name_of_part c.head q ≡ Some named → ⊥
        by_part i member there (part.Field at) e g = absurd (false≢true (ap is_some g))
        by_part i member there (part.Method at) e g = by_found i at member there e (slice_get c.head.methods at) refl g
        by_part i member there (part.Constructor at) e g = by_params (slice_get c.head.constructors at) g

        by_member : (y : MemberInfo) → is_method m.name m.descriptor file y ≡ true → HasMember c file y → ⊥
        by_member y k h = by_part h.index h.member h.there h.member.part refl (h.named ∙ ap (λ (x : Name). Some x) (sym (named_in named y k)))
