-- Where the classes of a program stand, among those that predicates see and in the store.
use Rattle.std.proofs.Common.{◌≡◌, ℕ, zero, suc, Bool, true, false, List, [], ◌∷◌, length, map, Option, Some, None, refl, sym, ap, ◌∙◌, subst}
use Rattle.std.specs.Prelude.{◌≢◌, slice_get, position, cond, if◌then◌else◌}
use Rattle.std.specs.Str.{bytes_eq}
use Rattle.std.proofs.lemmas.Bool.{false≢true, false_from_ne_true}
use Rattle.std.proofs.lemmas.List.{length-map}
use Rattle.std.proofs.lemmas.Option.{none-some, same_Some}
use Rattle.std.proofs.lemmas.Slice.Eq.{bytes_eq-Decides}
use Rattle.jp_pred.specs.declared.hier.SeenClass.{SeenClass}
use Rattle.jp_pred.specs.declared.hier.Hier.{Hier}
use Rattle.jp_pred.specs.Names.{Word, object, same, In}
use Rattle.jp_pred.specs.Hierarchy.{class_named, named, named_of, parents}
use Rattle.iface_codec.specs.declared.iface.Iface.{Iface}
use Rattle.iface_codec.specs.Hierarchy.{seen_class}
use Rattle.jp_store.specs.Classes.{Class, object_name, place_of}
use Rattle.jp_meaning.specs.declared.unit.TypedClass.{TypedClass}
use Rattle.jp_meaning.specs.Descriptors.{internal_name}
use Rattle.jp_meaning.specs.Classes.{class_of_head, hier_in}
use Rattle.value_types.proofs.Lists.{get_map, from_map}
use Rattle.class_lines.specs.Agreeing.{store_classes, AreClasses}
use Rattle.class_lines.proofs.Standing.{only_position, no_position, one_place, in_mapped, named_first, found_at, none_named}

equal_bytes : (a b : List ℕ) → bytes_eq a b ≡ true → a ≡ b
equal_bytes a b h = (bytes_eq-Decides a b).0 h

-- a class at a place
pub record Stands (classes : List TypedClass) (name : Word) : Type 0 where
  pub at : ℕ
  pub class : TypedClass
  pub there : slice_get classes at ≡ Some class
  pub named : class.head.name ≡ name

module _ (classes : List TypedClass) (are : AreClasses classes) where
  abbrev hier : Hier
  hier = hier_in classes

  abbrev store : List Class
  store = store_classes classes

  abbrev as_stored : TypedClass → Class
  as_stored c = class_of_head c.head

  abbrev head_of : TypedClass → Iface
  head_of c = c.head

  abbrev name_of : SeenClass → Word
  name_of c = c.name

  pub stored_at : (at : ℕ) (c : TypedClass) → slice_get classes at ≡ Some c → slice_get store at ≡ Some (class_of_head c.head)
  stored_at at c e = get_map as_stored classes at c e

  pub seen_at : (at : ℕ) (c : TypedClass) → slice_get classes at ≡ Some c → slice_get hier.classes at ≡ Some (seen_class c.head)
  seen_at at c e = get_map seen_class (map head_of classes) at c.head (get_map head_of classes at c e)

  pub as_many : length hier.classes ≡ length store
  as_many = length-map (map head_of classes) seen_class ∙ length-map classes head_of ∙ sym (length-map classes as_stored)

  -- no two classes have one name
  pub one_of_name : (at up : ℕ) (c d : TypedClass) → slice_get classes at ≡ Some c → slice_get classes up ≡ Some d → c.head.name ≡ d.head.name → at ≡ up
  one_of_name at up c d e f k =
      one_place (map name_of hier.classes) at up c.head.name are.universe.distinct (get_map name_of hier.classes at (seen_class c.head) (seen_at at c e))
      (get_map name_of hier.classes up (seen_class d.head) (seen_at up d f) ∙ ap Some (sym k))

  -- a class is found by its name
  pub found_so : (at : ℕ) (c : TypedClass) → slice_get classes at ≡ Some c → class_named c.head.name hier.classes ≡ Some (seen_class c.head)
  found_so at c e = named_first hier.classes at (seen_class c.head) are.universe.distinct (seen_at at c e)

  pub stands : (name : Word) (x : SeenClass) → class_named name hier.classes ≡ Some x → Stands classes name
  stands name x e =
      let f = found_at name hier.classes x e in
      let g = from_map seen_class (map head_of classes) f.0 x f.1 in
      let h = from_map head_of classes f.0 g.0 g.1 in
      record { at = f.0; class = h.0; there = h.1; named = ap (λ (y : Iface). y.name) h.2 ∙ ap name_of g.2 ∙ f.2 }

  pub not_object : (at : ℕ) (c : TypedClass) → slice_get classes at ≡ Some c → c.head.name ≢ object
  not_object at c e k = are.universe.no_object (subst (λ (y : Word). In y (map (λ c. c.name) hier.classes)) k (in_mapped name_of hier.classes at (seen_class c.head) (seen_at at c e)))

  -- a class's name is the same in code
  pub same_name : (at : ℕ) (c : TypedClass) → slice_get classes at ≡ Some c → internal_name c.head.name ≡ c.head.name
  same_name at c e = ap (λ b. if b then object_name else c.head.name) (false_from_ne_true (same c.head.name object) (λ k. not_object at c e (equal_bytes c.head.name object k)))

  pub placed_at : (at : ℕ) (c : TypedClass) → slice_get classes at ≡ Some c → place_of store (internal_name c.head.name) ≡ Some at
  placed_at at c e = only_position (λ (k : Class). bytes_eq k.name (internal_name c.head.name)) store at (class_of_head c.head) (stored_at at c e)
      ((bytes_eq-Decides (internal_name c.head.name) (internal_name c.head.name)).1 refl) (λ i y there passes.
      let g = from_map as_stored classes i y there in
      one_of_name i at g.0 c g.1 e (sym (same_name i g.0 g.1) ∙ ap (λ (k : Class). k.name) g.2 ∙ equal_bytes y.name (internal_name c.head.name) passes ∙ same_name at c e))

  -- none is placed as Object
  pub no_root : place_of store object_name ≡ None
  no_root = no_position (λ (k : Class). bytes_eq k.name object_name) store (λ i y there. false_from_ne_true (bytes_eq y.name object_name) (λ k.
      let g = from_map as_stored classes i y there in
      are.ordinary i g.0 g.1 (sym (same_name i g.0 g.1) ∙ ap (λ (k : Class). k.name) g.2 ∙ equal_bytes y.name object_name k)))

  pub parents_so : (at : ℕ) (c : TypedClass) → slice_get classes at ≡ Some c → parents hier c.head.name ≡ named (seen_class c.head)
  parents_so at c e = ap named_of (found_so at c e)

  pub no_parents : parents hier object ≡ []
  no_parents = ap named_of (none_named object hier.classes are.universe.no_object)

  -- a class that is placed has the name
  pub placed_so : (s : Word) (m : ℕ) (d : TypedClass) → slice_get classes m ≡ Some d → internal_name d.head.name ≡ internal_name s → d.head.name ≡ s
  placed_so s m d e k = by_object (same s object) refl where
    by_object : (b : Bool) → same s object ≡ b → d.head.name ≡ s
    by_object true h = absurd (are.ordinary m d e (sym (same_name m d e) ∙ k ∙ ap (λ b. if b then object_name else s) h))
    by_object false h = sym (same_name m d e) ∙ k ∙ ap (λ b. if b then object_name else s) h
