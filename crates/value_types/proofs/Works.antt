-- Objects and casts, and each operation.
use Rattle.std.proofs.Common.{◌≡◌, ℕ, zero, suc, Bool, true, false, ◌||◌, List, [], ◌∷◌, map, length, Option, Some, None, refl, sym, ap, ◌∙◌, subst}
use Rattle.std.specs.Prelude.{◌==◌, slice_get, is_some}
use Rattle.std.specs.List.{list_any}
use Rattle.std.specs.Option.{option_map_or}
use Rattle.std.proofs.lemmas.Bool.{false≢true, or_left}
use Rattle.std.proofs.lemmas.Bool.Decides.{Decides-eqb}
use Rattle.jp_pred.specs.declared.ty.Ty.{Ty}
use Rattle.jp_pred.specs.declared.ty.Ty.TheVariants as ty
use Rattle.jp_pred.specs.Names.{Word}
use Rattle.jp_pred.specs.Kinds.{is_reference}
use Rattle.jp_store.specs.declared.value.Value.{Value}
use Rattle.jp_store.specs.declared.value.Value.TheVariants.{Int, Long, Null, Ref, Text}
use Rattle.jp_store.specs.declared.value.ClassAt.{ClassAt}
use Rattle.jp_store.specs.declared.value.ClassAt.TheVariants.{Root, Listed}
use Rattle.jp_store.specs.declared.heap.Thing.{Thing}
use Rattle.jp_store.specs.declared.heap.Thing.TheVariants.{Object, Array}
use Rattle.jp_store.specs.declared.outcome.Outcome.{Outcome}
use Rattle.jp_store.specs.declared.outcome.Outcome.TheVariants.{Fine, Trap, Wrong}
use Rattle.jp_store.specs.Arith.{of_truth}
use Rattle.jp_store.specs.Classes.{Class, class_at, first_values, supers_of, is_below_in, is_below}
use Rattle.jp_store.specs.Outcome.{then_with, on_some}
use Rattle.jp_store.specs.Store.{Store}
use Rattle.jp_store.specs.Work.{MakeObject, InstanceOf, Cast, work, answers, made, where_true, is_concrete, is_instance, is_null_or, instance_truth, cast_by}
use Rattle.jp_meaning.specs.Descriptors.{internal_name}
use Rattle.value_types.specs.Values.{Sort, ObjectOf, sort_of, sorts, is_at_or_below, is_sort_of, refers, has_type}
use Rattle.value_types.specs.Stores.{IsTyped, InheritsFields}
use Rattle.value_types.specs.Work.{Answers, has_class, has_objects, WorkIsTyped}
use Rattle.value_types.specs.Laws.{TypedWorkIsSound}
use Rattle.value_types.proofs.Lists.{some_of, passing, from_map, get_map}
use Rattle.value_types.proofs.KindsOfValues.{refers_so}
use Rattle.value_types.proofs.Holding.{new_holds}
use Rattle.value_types.proofs.Going.{on_some_at, where_at, answers_typed, made_typed}
use Rattle.value_types.proofs.Fields.{get_field, put_field, get_static, put_static}
use Rattle.value_types.proofs.Arrays.{instance_so, get_element, put_element, make_array, length_of}

below_itself_in : (n : ℕ) (classes : List Class) (at : ℕ) → is_below_in n classes at at ≡ true
unfolding is_below_in
below_itself_in zero classes at = (Decides-eqb at at).1 refl
below_itself_in (suc n) classes at = or_left (at == at) (list_any (is_below_in n classes at) (supers_of classes at)) ((Decides-eqb at at).1 refl)

below_itself : (classes : List Class) (class : ClassAt) → is_below classes class class ≡ true
below_itself classes Root = refl
below_itself classes (Listed at) = below_itself_in (length classes) classes at

module _ (s : Store) (typed : IsTyped s) where
  make_object : (class : Word) → has_objects s.classes class ≡ true → Answers s (ty.Class class) (work (MakeObject (internal_name class)) s)
  make_object class h =
      let p = passing (is_concrete s.classes) (class_at s.classes (internal_name class)) h in
      let new = λ (c : ClassAt). made s (Object c (first_values s.classes c)) in
      on_some_at (class_at s.classes (internal_name class)) p.0 (λ c. where_true (is_concrete s.classes c) (new c)) (Answers s (ty.Class class)) p.1
      (where_at (is_concrete s.classes p.0) (new p.0) (Answers s (ty.Class class)) p.2
      (made_typed s typed (Object p.0 (first_values s.classes p.0)) (ty.Class class) refl
      (ap (λ (o : Option ClassAt). option_map_or (λ up. is_at_or_below s.classes up (ObjectOf p.0)) o false) p.1 ∙ below_itself s.classes p.0)
      (p.2, new_holds s.classes (sorts s) p.0)))

  -- a reference, which names something that is there or is null
  by_reference : (t : Ty) (v : Value) (P : Value → Type 0) → is_reference t ≡ true → has_type s t v ≡ true → P Null → ((o : ℕ) (thing : Thing) → slice_get s.heap o ≡ Some thing → P (Ref o)) → P v
  by_reference t v P r h null there = by_value v (sym (refers_so s.classes (sorts s) t v r) ∙ h) where
    by_value : (v : Value) → refers (sorts s) (is_sort_of s.classes t) v ≡ true → P v
    by_value Null h = null
    by_value (Ref o) h =
        let p = passing (is_sort_of s.classes t) (slice_get (sorts s) o) h in
        let f = from_map sort_of s.heap o p.0 p.1 in
        there o f.0 f.1
    by_value (Int n) h = absurd (false≢true h)
    by_value (Long n) h = absurd (false≢true h)
    by_value (Text t) h = absurd (false≢true h)

  truth_typed : (b : Bool) → Answers s ty.Boolean (answers s (of_truth b))
  truth_typed true = answers_typed s typed ty.Boolean (of_truth true) refl
  truth_typed false = answers_typed s typed ty.Boolean (of_truth false) refl

  instance_of : (t : Ty) (v : Value) (class : Word) → is_reference t ≡ true → has_type s t v ≡ true → has_class s.classes class ≡ true → Answers s ty.Boolean (work (InstanceOf v (internal_name class)) s)
  instance_of t v class r h k =
      let p = some_of (class_at s.classes (internal_name class)) k in
      on_some_at (class_at s.classes (internal_name class)) p.0 (λ up. then_with (instance_truth s up v) (answers s)) (Answers s ty.Boolean) p.1
      (by_reference t v (λ v. Answers s ty.Boolean (then_with (instance_truth s p.0 v) (answers s))) r h (truth_typed false) (λ o thing there.
      subst (λ (x : Option Thing). Answers s ty.Boolean (then_with (on_some x (λ thing. Fine (of_truth (is_instance s.classes p.0 thing)))) (answers s))) (sym there)
      (truth_typed (is_instance s.classes p.0 thing))))

  cast_typed : (t : Ty) (v : Value) (b : Bool) → (b ≡ true → has_type s t v ≡ true) → Answers s t (cast_by s v b)
  cast_typed t v true h = answers_typed s typed t v (h refl)
  cast_typed t v false h = tt

  cast : (t : Ty) (v : Value) (class : Word) → is_reference t ≡ true → has_type s t v ≡ true → has_class s.classes class ≡ true → Answers s (ty.Class class) (work (Cast v (internal_name class)) s)
  cast t v class r h k =
      let p = some_of (class_at s.classes (internal_name class)) k in
      on_some_at (class_at s.classes (internal_name class)) p.0 (λ up. then_with (is_null_or (is_instance s.classes up) s.heap v) (cast_by s v)) (Answers s (ty.Class class)) p.1
      (by_reference t v (λ v. Answers s (ty.Class class) (then_with (is_null_or (is_instance s.classes p.0) s.heap v) (cast_by s v))) r h (cast_typed (ty.Class class) Null true (λ b. refl)) (λ o thing there.
      subst (λ (x : Option Thing). Answers s (ty.Class class) (then_with (on_some x (λ thing. Fine (is_instance s.classes p.0 thing))) (cast_by s (Ref o)))) (sym there)
      (cast_typed (ty.Class class) (Ref o) (is_instance s.classes p.0 thing) (λ b.
      ap (λ (x : Option Sort). option_map_or (is_sort_of s.classes (ty.Class class)) x false) (get_map sort_of s.heap o thing there)
      ∙ ap (λ (x : Option ClassAt). option_map_or (λ up. is_at_or_below s.classes up (sort_of thing)) x false) p.1
      ∙ sym (instance_so s.classes p.0 thing) ∙ b))))

pub sound : TypedWorkIsSound
sound s inherits typed = record {
  get_field = λ class name t o. get_field s inherits typed class name t o;
  put_field = λ class name t o v. put_field s inherits typed class name t o v;
  get_static = λ class name t. get_static s inherits typed class name t;
  put_static = λ class name t v. put_static s inherits typed class name t v;
  make_object = make_object s typed;
  make_array = make_array s typed;
  get_element = get_element s typed;
  put_element = put_element s typed;
  length_of = length_of s typed;
  instance_of = instance_of s typed;
  cast = cast s typed;
}
