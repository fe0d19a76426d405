-- The constructor that is named is a member of its class.
use Rattle.std.proofs.Common.{◌≡◌, ℕ, zero, suc, Bool, true, false, List, [], ◌∷◌, Option, Some, None, refl, sym, ap, ◌∙◌, subst}
use Rattle.std.specs.Prelude.{is_some, slice_get, option_and_then, if◌then◌else◌}
use Rattle.std.specs.List.{filter_map, cons_option}
use Rattle.std.specs.Str.{bytes_eq}
use Rattle.std.proofs.lemmas.Bool.{false≢true}
use Rattle.jp_pred.specs.declared.ty.Ty.{Ty}
use Rattle.jp_pred.specs.declared.ty.Ty.TheVariants as ty
use Rattle.iface_codec.specs.declared.iface.Iface.{Iface}
use Rattle.jp_meaning.specs.declared.unit.TypedMember.{TypedMember}
use Rattle.jp_meaning.specs.declared.unit.TypedPart.{TypedPart}
use Rattle.jp_meaning.specs.declared.unit.TypedPart.TheVariants as part
use Rattle.jp_meaning.specs.Does.{Method}
use Rattle.jp_meaning.specs.Descriptors.{method_descriptor}
use Rattle.jp_meaning.specs.Classes.{Placed, as_constructor}
use Rattle.gen_laws.proofs.Lists.{one_there}
use Rattle.gen_laws.proofs.Names.{equal_bytes}

module _ (m : Method) (head : Iface) where
  -- a constructor of a class with the descriptor
  pub record Makes (q : Placed) : Type 0 where
    pub head_is : q.head ≡ head
    pub at : ℕ
    pub part_is : q.member.part ≡ part.Constructor at
    pub params : List Ty
    pub params_there : slice_get head.constructors at ≡ Some params
    pub descriptor : method_descriptor params ty.Void ≡ m.descriptor

  -- what is there is such a constructor, and this member
  abbrev MakesIf : TypedMember → Option Placed → Type 0
  MakesIf member None = Unit {0}
  MakesIf member (Some q) = Makes q × (q.member ≡ member)

  made : (member : TypedMember) (q : TypedPart) → member.part ≡ q → MakesIf member (as_constructor m head member q)
  made member (part.Field at) e = tt
  made member (part.Method at) e = tt
  made member (part.Constructor at) e = by_params (slice_get head.constructors at) refl where
    by_test : (params : List Ty) → slice_get head.constructors at ≡ Some params → (b : Bool) → bytes_eq (method_descriptor params ty.Void) m.descriptor ≡ b → MakesIf member (if b then Some (record { head = head; member = member }) else None)
    by_test params there false k = tt
    by_test params there true k = (record { head_is = refl; at = at; part_is = e; params = params; params_there = there; descriptor = equal_bytes (method_descriptor params ty.Void) m.descriptor k }, refl)

    by_params : (o : Option (List Ty)) → slice_get head.constructors at ≡ o → MakesIf member (option_and_then (λ params. if bytes_eq (method_descriptor params ty.Void) m.descriptor then Some (record { head = head; member = member }) else None) o)
    by_params None there = tt
    by_params (Some params) there = by_test params there (bytes_eq (method_descriptor params ty.Void) m.descriptor) refl

  pub record IsMaker (members : List TypedMember) (q : Placed) : Type 0 where
    pub index : ℕ
    pub there : slice_get members index ≡ Some q.member
    pub makes : Makes q

  pub maker_is : (members : List TypedMember) (q : Placed) → slice_get (filter_map (λ member. as_constructor m head member member.part) members) 0 ≡ Some q → IsMaker members q
  maker_is [] q e = absurd (false≢true (ap is_some e))
  maker_is (member ∷ members) q e = by_one (as_constructor m head member member.part) (made member member.part refl) (λ e. maker_is members q e) e where
    by_one : (o : Option Placed) → MakesIf member o → (slice_get (filter_map (λ member. as_constructor m head member member.part) members) 0 ≡ Some q → IsMaker members q) → slice_get (cons_option o (filter_map (λ member. as_constructor m head member member.part) members)) 0 ≡ Some q → IsMaker (member ∷ members) q
    by_one None h rec e = let r = rec e in record { index = suc r.index; there = r.there; makes = r.makes }
    by_one (Some y) h rec e =
        let is = one_there (Some y) y q refl e in
        record { index = zero; there = ap (λ (z : TypedMember). Some z) (sym h.1 ∙ ap (λ (z : Placed). z.member) is); makes = subst Makes is h.0 }
