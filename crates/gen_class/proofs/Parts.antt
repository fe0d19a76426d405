-- Why a part can't have its constants is why the whole can't.
use Rattle.std.proofs.Common.{◌≡◌, ℕ, ◌<◌, ◌≤◌, List, length, take, get_or, subst}
use Rattle.std.specs.List.{fold}
use Rattle.class_form.specs.declared.constant.Const.{Const}
use Rattle.iface_codec.specs.declared.iface.Iface.{Iface}
use Rattle.iface_codec.specs.declared.iface.IfaceField.{IfaceField}
use Rattle.jp_meaning.specs.Descriptors.{descriptor_of}
use Rattle.code_asm.specs.declared.fault.AsmFault.{AsmFault}
use Rattle.code_asm.specs.Held.{Fails}
use Rattle.gen_class.specs.Asked.{with_text, with_class, with_superclass, with_heading, with_field}
use Rattle.gen_class.proofs.Grows.{part_grows, name_grows, first_of_heading, front_of_heading, fails_more}

-- THE HEADING

module _ (list first : List Const) (head : Iface) where
  pub first_fails : (fault : AsmFault) → Fails fault (with_class list head.name) → Fails fault (with_heading list head)
  first_fails fault h = fails_more fault (with_class list head.name) (with_heading list head) (first_of_heading list head) h

  pub second_fails : (fault : AsmFault) → first ≡ with_class list head.name → Fails fault (with_superclass first head.superclass) → Fails fault (with_heading list head)
  second_fails fault e h =
      fails_more fault (with_superclass (with_class list head.name) head.superclass) (with_heading list head) (front_of_heading list head)
      (subst (λ (l : List Const). Fails fault (with_superclass l head.superclass)) e h)

-- LISTS

module _ {A : Type 0} (more : List Const → A → List Const) (grows : (list : List Const) (x : A) → length list ≤ length (more list x)) (list : List Const) (xs : List A) (i : ℕ) (x : A) (within : i < length xs) (is : x ≡ get_or xs i x)
    (before : List Const) (asked : before ≡ fold more list (take i xs)) where
  pub part_fails : (fault : AsmFault) → Fails fault (more before x) → Fails fault (fold more list xs)
  part_fails fault h =
      fails_more fault (more (fold more list (take i xs)) x) (fold more list xs) (part_grows more grows list xs i x within is)
      (subst (λ (l : List Const). Fails fault (more l x)) asked h)

-- A FIELD

module _ (list : List Const) (field : IfaceField) where
  pub name_fails : (fault : AsmFault) (spelled : List ℕ) → spelled ≡ field.name → Fails fault (with_text list spelled) → Fails fault (with_field list field)
  name_fails fault spelled e h =
      fails_more fault (with_text list field.name) (with_field list field) (name_grows list field.name (descriptor_of field.ty)) (subst (λ (b : List ℕ). Fails fault (with_text list b)) e h)
