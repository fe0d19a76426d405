-- Fields and the values that they hold.
use Rattle.std.proofs.Common.{◌≡◌, ℕ, zero, suc, Bool, true, false, List, [], ◌∷◌, map, reverse, Option, Some, None, refl, sym, ap, ◌∙◌, subst}
use Rattle.std.specs.Prelude.{slice_get, slice_set, filter}
use Rattle.std.specs.List.{flat_map}
use Rattle.std.specs.Option.{option_map_or}
use Rattle.std.proofs.lemmas.Option.{none-some, same_Some}
use Rattle.jp_pred.specs.declared.ty.Ty.{Ty}
use Rattle.jp_store.specs.declared.value.Value.{Value}
use Rattle.jp_store.specs.declared.value.Value.TheVariants.{Null}
use Rattle.jp_store.specs.declared.value.ClassAt.{ClassAt}
use Rattle.jp_store.specs.declared.value.ClassAt.TheVariants.{Root, Listed}
use Rattle.jp_store.specs.Arith.{default_of}
use Rattle.jp_store.specs.Classes.{Class, Field, kind_of, has_role, own_part, line, first_value, first_values, first_statics}
use Rattle.jp_store.specs.Store.{first_store}
use Rattle.jp_meaning.specs.Descriptors.{descriptor_of}
use Rattle.value_types.specs.Values.{Sort, is_value_of}
use Rattle.value_types.specs.Stores.{Holds, AllHold, AreHeld, fields_of}
use Rattle.value_types.specs.Laws.{TheFirstStoreIsTyped}
use Rattle.value_types.proofs.Lists.{get_map, flat_mapped}
use Rattle.value_types.proofs.KindsOfValues.{first_described}
use Rattle.value_types.proofs.Descriptors.{same_values}

module _ (classes : List Class) (made : List Sort) where
  -- a value of a type is held by a field of the type's descriptor
  pub held_by : (t : Ty) (f : Field) (v : Value) → f.descriptor ≡ descriptor_of t → is_value_of classes made t v ≡ true → Holds classes made f v
  held_by t f v d h u e = same_values classes made u t v (e ∙ d) ∙ h

  pub hold_get : (fs : List Field) (vs : List Value) (i : ℕ) (f : Field) → AllHold classes made fs vs → slice_get fs i ≡ Some f → (v : Value) × (slice_get vs i ≡ Some v) × Holds classes made f v
  hold_get [] vs i f h e = absurd (none-some f e)
  hold_get (g ∷ fs) [] i f h e = absurd h
  hold_get (g ∷ fs) (v ∷ vs) zero f h e = (v, refl, subst (λ (x : Field). Holds classes made x v) (same_Some g f e) h.0)
  hold_get (g ∷ fs) (v ∷ vs) (suc i) f h e = hold_get fs vs i f h.1 e

  pub hold_set : (fs : List Field) (vs : List Value) (i : ℕ) (f : Field) (v : Value) → AllHold classes made fs vs → slice_get fs i ≡ Some f → Holds classes made f v → AllHold classes made fs (slice_set vs i v)
  hold_set [] vs i f v h e k = absurd (none-some f e)
  hold_set (g ∷ fs) [] i f v h e k = absurd h
  hold_set (g ∷ fs) (w ∷ vs) zero f v h e k = (subst (λ (x : Field). Holds classes made x v) (sym (same_Some g f e)) k, h.1)
  hold_set (g ∷ fs) (w ∷ vs) (suc i) f v h e k = (h.0, hold_set fs vs i f v h.1 e k)

  pub hold_first : (fs : List Field) → AllHold classes made fs (map first_value fs)
  hold_first [] = tt
  hold_first (f ∷ fs) =
      ((λ t e. subst (λ d. is_value_of classes made t (option_map_or default_of (kind_of d) Null) ≡ true) e (first_described classes made t)), hold_first fs)

  -- what a new object holds
  pub new_holds : (class : ClassAt) → AllHold classes made (fields_of classes class) (first_values classes class)
  new_holds Root = tt
  new_holds (Listed at) =
      subst (AllHold classes made (fields_of classes (Listed at))) (sym (flat_mapped first_value (own_part false classes) (reverse (line classes at)))) (hold_first (fields_of classes (Listed at)))

  pub held_there : (fs : List Field) (o : Option (List Value)) → AreHeld classes made fs o → (vs : List Value) × (o ≡ Some vs) × AllHold classes made fs vs
  held_there fs None h = absurd h
  held_there fs (Some vs) h = (vs, refl, h)

pub first : TheFirstStoreIsTyped
first classes = record {
  things = λ o thing e. absurd (none-some thing e);
  statics = λ at c e. subst (AreHeld classes [] (filter (has_role true) c.fields))
      (sym (get_map (λ (d : Class). map first_value (filter (has_role true) d.fields)) classes at c e)) (hold_first classes [] (filter (has_role true) c.fields));
}
