-- Arrays and their elements.
use Rattle.std.proofs.Common.{◌≡◌, ℕ, zero, suc, ℤ, pos, negsuc, Bool, true, false, List, [], ◌∷◌, map, length, replicate, Option, Some, None, refl, sym, ap, ◌∙◌, subst}
use Rattle.std.specs.Prelude.{slice_get, slice_set, is_some}
use Rattle.std.specs.List.{list_all}
use Rattle.std.specs.Option.{option_map, option_map_or}
use Rattle.std.proofs.lemmas.Bool.{false≢true}
use Rattle.std.proofs.lemmas.Bool.Decides.{Decides-eqb}
use Rattle.std.proofs.lemmas.Option.{none-some, same_Some}
use Rattle.jp_pred.specs.declared.ty.Ty.{Ty}
use Rattle.jp_pred.specs.declared.ty.Ty.TheVariants as ty
use Rattle.jp_pred.specs.Kinds.{is_reference, is_array}
use Rattle.jp_store.specs.declared.value.Value.{Value}
use Rattle.jp_store.specs.declared.value.Value.TheVariants.{Int, Long, Null, Ref, Text}
use Rattle.jp_store.specs.declared.value.Kind.TheVariants.{Number, Reference}
use Rattle.jp_store.specs.declared.value.TrapKind.TheVariants.{OutOfBounds}
use Rattle.jp_store.specs.declared.value.ClassAt.{ClassAt}
use Rattle.jp_store.specs.declared.value.ClassAt.TheVariants.{Root, Listed}
use Rattle.jp_store.specs.declared.value.Element.{Element}
use Rattle.jp_store.specs.declared.value.Element.TheVariants.{Numbers, Truths, References}
use Rattle.jp_store.specs.declared.value.ElementKind.{ElementKind}
use Rattle.jp_store.specs.declared.value.ElementKind.TheVariants.{NumberElement, TruthElement, ReferenceElement}
use Rattle.jp_store.specs.declared.heap.Thing.{Thing}
use Rattle.jp_store.specs.declared.heap.Thing.TheVariants.{Object, Array}
use Rattle.jp_store.specs.declared.outcome.Outcome.{Outcome}
use Rattle.jp_store.specs.declared.outcome.Outcome.TheVariants.{Fine, Trap, Wrong}
use Rattle.jp_store.specs.Arith.{is_kind, on_int}
use Rattle.jp_store.specs.Classes.{Class, class_at}
use Rattle.jp_store.specs.Outcome.{then_with, on_some}
use Rattle.jp_store.specs.Store.{Store}
use Rattle.jp_store.specs.Work.{NamedElement, IntElements, BooleanElements, ClassElements, MakeArray, GetElem, PutElem, Length, work, answers, changed, where_true, on_thing, on_array, or_outside, at_index, element_of, first_element, array_made, is_element, can_store, is_instance, is_null_or, fits_element, size_of}
use Rattle.jp_meaning.specs.Descriptors.{internal_name, element_kind_of, elements_of}
use Rattle.value_types.specs.Values.{Sort, ObjectOf, ArrayOf, sort_of, sorts, is_at_or_below, same_class, same_element, is_array_of, is_sort_of, refers, is_value_of, has_type}
use Rattle.value_types.specs.Stores.{is_element_of, IsFilled, IsTyped}
use Rattle.value_types.specs.Work.{Answers, array_of, has_arrays}
use Rattle.value_types.proofs.Lists.{some_of, passing, from_map, all_get, all_set, all_replicate}
use Rattle.value_types.proofs.KindsOfValues.{refers_so, refers_reference}
use Rattle.value_types.proofs.Going.{on_some_at, where_at, on_int_at, on_thing_at, answers_typed, changed_typed, made_typed}

same_classes : (a b : ClassAt) → same_class a b ≡ true → a ≡ b
same_classes Root Root h = refl
same_classes Root (Listed n) h = absurd (false≢true h)
same_classes (Listed m) Root h = absurd (false≢true h)
same_classes (Listed m) (Listed n) h = ap Listed ((Decides-eqb m n).0 h)

itself : (a : ClassAt) → same_class a a ≡ true
itself Root = refl
itself (Listed n) = (Decides-eqb n n).1 refl

same_elements : (a b : Element) → same_element a b ≡ true → b ≡ a
same_elements Numbers Numbers h = refl
same_elements Numbers Truths h = absurd (false≢true h)
same_elements Numbers (References class) h = absurd (false≢true h)
same_elements Truths Numbers h = absurd (false≢true h)
same_elements Truths Truths h = refl
same_elements Truths (References class) h = absurd (false≢true h)
same_elements (References class) Numbers h = absurd (false≢true h)
same_elements (References class) Truths h = absurd (false≢true h)
same_elements (References class) (References other) h = ap References (sym (same_classes class other h))

-- an array whose elements are of a type
record IsArray (classes : List Class) (t : Ty) (thing : Thing) : Type 0 where
  element : Element
  values : List Value
  is : thing ≡ Array element values
  kind_so : is_element (element_kind_of t) element ≡ true
  values_so : (made : List Sort) (v : Value) → is_element_of classes made element v ≡ is_value_of classes made t v

array_here : (element : Element) (thing : Thing) → is_array_of element (sort_of thing) ≡ true → (values : List Value) × (thing ≡ Array element values)
array_here element (Object class fields) h = absurd (false≢true h)
array_here element (Array other values) h = (values, ap (λ x. Array x values) (same_elements element other h))

module _ (classes : List Class) where
  -- by what the type of the array is
  by_type : (t u : Ty) (thing : Thing) → array_of t ≡ Some u → is_sort_of classes u (sort_of thing) ≡ true → IsArray classes t thing
  by_type ty.Void u thing e h = absurd (none-some u e)
  by_type ty.Int u thing e h =
      let a = array_here Numbers thing (subst (λ (x : Ty). is_sort_of classes x (sort_of thing) ≡ true) (sym (same_Some ty.IntArray u e)) h) in
      record { element = Numbers; values = a.0; is = a.1; kind_so = refl; values_so = λ made v. refl }
  by_type ty.Boolean u thing e h =
      let a = array_here Truths thing (subst (λ (x : Ty). is_sort_of classes x (sort_of thing) ≡ true) (sym (same_Some ty.BooleanArray u e)) h) in
      record { element = Truths; values = a.0; is = a.1; kind_so = refl; values_so = λ made v. refl }
  by_type (ty.Class name) u thing e h =
      let k : is_sort_of classes (ty.ClassArray name) (sort_of thing) ≡ true = subst (λ (x : Ty). is_sort_of classes x (sort_of thing) ≡ true) (sym (same_Some (ty.ClassArray name) u e)) h in
      let p = passing (λ class. is_array_of (References class) (sort_of thing)) (class_at classes (internal_name name)) k in
      let a = array_here (References p.0) thing p.2 in
      record {
        element = References p.0;
        values = a.0;
        is = a.1;
        kind_so = refl;
        values_so = λ made v. ap (λ (o : Option ClassAt). refers made (λ sort. option_map_or (λ up. is_at_or_below classes up sort) o false) v) (sym p.1);
      }
  by_type ty.IntArray u thing e h = absurd (none-some u e)
  by_type ty.BooleanArray u thing e h = absurd (none-some u e)
  by_type (ty.ClassArray name) u thing e h = absurd (none-some u e)

  -- a type of arrays is one of references
  array_refers : (t u : Ty) → array_of t ≡ Some u → is_reference u ≡ true
  array_refers ty.Void u e = absurd (none-some u e)
  array_refers ty.Int u e = subst (λ (x : Ty). is_reference x ≡ true) (same_Some ty.IntArray u e) refl
  array_refers ty.Boolean u e = subst (λ (x : Ty). is_reference x ≡ true) (same_Some ty.BooleanArray u e) refl
  array_refers (ty.Class name) u e = subst (λ (x : Ty). is_reference x ≡ true) (same_Some (ty.ClassArray name) u e) refl
  array_refers ty.IntArray u e = absurd (none-some u e)
  array_refers ty.BooleanArray u e = absurd (none-some u e)
  array_refers (ty.ClassArray name) u e = absurd (none-some u e)

  -- a value of the elements' type may be stored
  storable : (made : List Sort) (t u : Ty) (v : Value) → array_of t ≡ Some u → is_value_of classes made t v ≡ true → can_store (element_kind_of t) v ≡ true
  storable made ty.Void u v e h = absurd (none-some u e)
  storable made ty.Int u v e h = h
  storable made ty.Boolean u v e h = h
  storable made (ty.Class name) u v e h = refers_reference made _ v h
  storable made ty.IntArray u v e h = absurd (none-some u e)
  storable made ty.BooleanArray u v e h = absurd (none-some u e)
  storable made (ty.ClassArray name) u v e h = absurd (none-some u e)

pub instance_so : (classes : List Class) (up : ClassAt) (thing : Thing) → is_instance classes up thing ≡ is_at_or_below classes up (sort_of thing)
instance_so classes up (Object class fields) = refl
instance_so classes up (Array element values) = refl

module _ {A : Type 0} where
  outside_at : (o : Option Value) (go : Value → Outcome A) (P : Outcome A → Type 0) → P (Trap OutOfBounds) → ((v : Value) → o ≡ Some v → P (go v)) → P (or_outside o go)
  outside_at None go P trap k = trap
  outside_at (Some v) go P trap k = k v refl

  -- an element that is there, or a trap
  index_at : (values : List Value) (i : ℤ) (go : ℕ → Value → Outcome A) (P : Outcome A → Type 0) → P (Trap OutOfBounds) → ((n : ℕ) (v : Value) → slice_get values n ≡ Some v → P (go n v)) → P (at_index values i go)
  index_at values (pos n) go P trap k = outside_at (slice_get values n) (go n) P trap (k n)
  index_at values (negsuc n) go P trap k = trap

module _ (s : Store) where
  -- what may be an element fits
  fits_so : (element : Element) (v : Value) → is_element_of s.classes (sorts s) element v ≡ true → fits_element s element v ≡ Fine true
  fits_so Numbers v h = refl
  fits_so Truths v h = refl
  fits_so (References class) Null h = refl
  fits_so (References class) (Ref o) h =
      let p = passing (is_at_or_below s.classes class) (slice_get (sorts s) o) h in
      let f = from_map sort_of s.heap o p.0 p.1 in
      ap (λ (x : Option Thing). on_some x (λ thing. Fine (is_instance s.classes class thing))) f.1
      ∙ ap Fine (instance_so s.classes class f.0 ∙ ap (is_at_or_below s.classes class) f.2 ∙ p.2)
  fits_so (References class) (Int n) h = absurd (false≢true h)
  fits_so (References class) (Long n) h = absurd (false≢true h)
  fits_so (References class) (Text t) h = absurd (false≢true h)

module _ (s : Store) (typed : IsTyped s) where
  abbrev Good : Ty → Outcome (Value × Store) → Type 0
  Good = Answers s

  pub get_element : (t u : Ty) (a i : Value) → array_of t ≡ Some u → has_type s u a ≡ true → has_type s ty.Int i ≡ true → Answers s t (work (GetElem (element_kind_of t) a i) s)
  get_element t u a i e h k =
      let get = λ (n : ℕ) (v : Value). answers s v in
      let on = λ (z : ℤ) (o : ℕ) (thing : Thing). on_array (element_kind_of t) thing (λ element values. at_index values z get) in
      on_int_at i (λ z. on_thing s.heap a (on z)) (Good t) k (λ z.
      on_thing_at s.heap (is_sort_of s.classes u) a (on z) (Good t) (sym (refers_so s.classes (sorts s) u a (array_refers s.classes t u e)) ∙ h) tt (λ n thing there passes.
      let x = by_type s.classes t u thing e passes in
      subst (λ (y : Thing). Good t (on z n y)) (sym x.is)
      (where_at (is_element (element_kind_of t) x.element) (at_index x.values z get) (Good t) x.kind_so
      (index_at x.values z get (Good t) tt (λ i v at.
      answers_typed s typed t v (sym (x.values_so (sorts s) v) ∙ all_get (is_element_of s.classes (sorts s) x.element) x.values i v (subst (IsFilled s.classes (sorts s)) x.is (typed.things n thing there)) at))))))

  pub put_element : (t u : Ty) (a i v : Value) → array_of t ≡ Some u → has_type s u a ≡ true → has_type s ty.Int i ≡ true → has_type s t v ≡ true → Answers s ty.Void (work (PutElem (element_kind_of t) a i v) s)
  put_element t u a i v e h k w =
      let put = λ (o : ℕ) (element : Element) (values : List Value) (n : ℕ) (old : Value).
      then_with (fits_element s element v) (λ fits. where_true fits (changed s o (Array element (slice_set values n v)))) in
      let on = λ (z : ℤ) (o : ℕ) (thing : Thing). on_array (element_kind_of t) thing (λ element values. at_index values z (put o element values)) in
      on_int_at i (λ z. where_true (can_store (element_kind_of t) v) (on_thing s.heap a (on z))) (Good ty.Void) k (λ z.
      where_at (can_store (element_kind_of t) v) (on_thing s.heap a (on z)) (Good ty.Void) (storable s.classes (sorts s) t u v e w)
      (on_thing_at s.heap (is_sort_of s.classes u) a (on z) (Good ty.Void) (sym (refers_so s.classes (sorts s) u a (array_refers s.classes t u e)) ∙ h) tt (λ n thing there passes.
      let x = by_type s.classes t u thing e passes in
      let fine = x.values_so (sorts s) v ∙ w in
      subst (λ (y : Thing). Good ty.Void (on z n y)) (sym x.is)
      (where_at (is_element (element_kind_of t) x.element) (at_index x.values z (put n x.element x.values)) (Good ty.Void) x.kind_so
      (index_at x.values z (put n x.element x.values) (Good ty.Void) tt (λ i old at.
      subst (λ (o : Outcome Bool). Good ty.Void (then_with o (λ fits. where_true fits (changed s n (Array x.element (slice_set x.values i v)))))) (sym (fits_so s x.element v fine))
      (changed_typed s typed n thing (Array x.element (slice_set x.values i v)) there (ap sort_of (sym x.is))
      (all_set (is_element_of s.classes (sorts s) x.element) x.values i v (subst (IsFilled s.classes (sorts s)) x.is (typed.things n thing there)) fine))))))))

  first_so : (element : Element) → is_element_of s.classes (sorts s) element (first_element element) ≡ true
  first_so Numbers = refl
  first_so Truths = refl
  first_so (References class) = refl

  new_array : (u : Ty) (element : Element) (z : ℤ) → is_reference u ≡ true → is_sort_of s.classes u (ArrayOf element) ≡ true → Answers s u (array_made s element z)
  new_array u element (pos n) r h = made_typed s typed (Array element (replicate n (first_element element))) u r h (all_replicate (is_element_of s.classes (sorts s) element) n (first_element element) (first_so element))
  new_array u element (negsuc n) r h = tt

  -- the arrays that are made are of the type
  element_so : (t u : Ty) (named : NamedElement) (element : Element) → array_of t ≡ Some u → elements_of t ≡ Some named → element_of s.classes named ≡ Some element → is_sort_of s.classes u (ArrayOf element) ≡ true
  element_so ty.Void u named element e f g = absurd (none-some u e)
  element_so ty.Int u named element e f g =
      subst (λ (x : Ty). is_sort_of s.classes x (ArrayOf element) ≡ true) (same_Some ty.IntArray u e)
      (subst (λ (x : Element). is_array_of Numbers (ArrayOf x) ≡ true) (same_Some Numbers element (ap (element_of s.classes) (same_Some IntElements named f) ∙ g)) refl)
  element_so ty.Boolean u named element e f g =
      subst (λ (x : Ty). is_sort_of s.classes x (ArrayOf element) ≡ true) (same_Some ty.BooleanArray u e)
      (subst (λ (x : Element). is_array_of Truths (ArrayOf x) ≡ true) (same_Some Truths element (ap (element_of s.classes) (same_Some BooleanElements named f) ∙ g)) refl)
  element_so (ty.Class name) u named element e f g =
      subst (λ (x : Ty). is_sort_of s.classes x (ArrayOf element) ≡ true) (same_Some (ty.ClassArray name) u e)
      (by_class (class_at s.classes (internal_name name)) (ap (element_of s.classes) (same_Some (ClassElements (internal_name name)) named f) ∙ g)) where
        by_class : (o : Option ClassAt) → option_map References o ≡ Some element → option_map_or (λ class. is_array_of (References class) (ArrayOf element)) o false ≡ true
        by_class None h = absurd (none-some element h)
        by_class (Some class) h = subst (λ (x : Element). is_array_of (References class) (ArrayOf x) ≡ true) (same_Some (References class) element h) (itself class)
  element_so ty.IntArray u named element e f g = absurd (none-some u e)
  element_so ty.BooleanArray u named element e f g = absurd (none-some u e)
  element_so (ty.ClassArray name) u named element e f g = absurd (none-some u e)

  pub make_array : (t u : Ty) (named : NamedElement) (n : Value) → array_of t ≡ Some u → elements_of t ≡ Some named → has_arrays s.classes t ≡ true → has_type s ty.Int n ≡ true → Answers s u (work (MakeArray named n) s)
  make_array t u named n e f h k =
      let there = subst (λ (o : Option NamedElement). option_map_or (λ named. is_some (element_of s.classes named)) o false ≡ true) f h in
      let p = some_of (element_of s.classes named) there in
      on_some_at (element_of s.classes named) p.0 (λ element. on_int (array_made s element) n) (Good u) p.1
      (on_int_at n (array_made s p.0) (Good u) k (λ z. new_array u p.0 z (array_refers s.classes t u e) (element_so t u named p.0 e f p.1)))

  -- what is of an array type is an array
  sized : (u : Ty) (thing : Thing) → is_array u ≡ true → is_sort_of s.classes u (sort_of thing) ≡ true → Answers s ty.Int (size_of s thing)
  sized u (Array element values) a h = answers_typed s typed ty.Int (Int (pos (length values))) refl
  sized ty.Void (Object class fields) a h = absurd (false≢true h)
  sized ty.Int (Object class fields) a h = absurd (false≢true h)
  sized ty.Boolean (Object class fields) a h = absurd (false≢true h)
  sized (ty.Class name) (Object class fields) a h = absurd (false≢true a)
  sized ty.IntArray (Object class fields) a h = absurd (false≢true h)
  sized ty.BooleanArray (Object class fields) a h = absurd (false≢true h)
  sized (ty.ClassArray name) (Object class fields) a h = absurd (false≢true (passing (λ (c : ClassAt). false) (class_at s.classes (internal_name name)) h).2)

  array_reference : (u : Ty) → is_array u ≡ true → is_reference u ≡ true
  array_reference ty.Void a = a
  array_reference ty.Int a = a
  array_reference ty.Boolean a = a
  array_reference (ty.Class name) a = absurd (false≢true a)
  array_reference ty.IntArray a = refl
  array_reference ty.BooleanArray a = refl
  array_reference (ty.ClassArray name) a = refl

  pub length_of : (u : Ty) (a : Value) → is_array u ≡ true → has_type s u a ≡ true → Answers s ty.Int (work (Length a) s)
  length_of u a array h =
      on_thing_at s.heap (is_sort_of s.classes u) a (λ o thing. size_of s thing) (Good ty.Int) (sym (refers_so s.classes (sorts s) u a (array_reference u array)) ∙ h) tt
      (λ n thing there passes. sized u thing array passes)
