-- What values and stores are stays so as more is made.
use Rattle.std.proofs.Common.{◌≡◌, ℕ, Bool, true, false, List, [], ◌∷◌, ◌++◌, map, Option, Some, None, refl, sym, ap, ◌∙◌, subst, append_assoc, append-nil}
use Rattle.std.specs.Prelude.{slice_get, filter}
use Rattle.std.specs.Option.{option_map_or}
use Rattle.std.proofs.lemmas.Bool.{false≢true}
use Rattle.jp_pred.specs.declared.ty.Ty.{Ty}
use Rattle.jp_pred.specs.declared.ty.Ty.TheVariants as ty
use Rattle.jp_store.specs.declared.value.Value.{Value}
use Rattle.jp_store.specs.declared.value.Value.TheVariants.{Int, Long, Null, Ref, Text}
use Rattle.jp_store.specs.declared.value.Element.{Element}
use Rattle.jp_store.specs.declared.value.Element.TheVariants.{Numbers, Truths, References}
use Rattle.jp_store.specs.declared.heap.Thing.{Thing}
use Rattle.jp_store.specs.declared.heap.Thing.TheVariants.{Object, Array}
use Rattle.jp_store.specs.Classes.{Class, Field}
use Rattle.jp_store.specs.Store.{Store}
use Rattle.value_types.specs.Values.{Sort, sorts, refers, is_value_of, has_type}
use Rattle.value_types.specs.Stores.{Holds, AllHold, is_element_of, IsFilled, AreHeld, GoesOn, fields_of}
use Rattle.value_types.specs.Laws.{GoingOnIsAnOrder, ValuesStay}
use Rattle.value_types.proofs.Lists.{passing, get_append, all_more}

refers_stays : (made more : List Sort) (test : Sort → Bool) (v : Value) → refers made test v ≡ true → refers (made ++ more) test v ≡ true
refers_stays made more test Null h = refl
refers_stays made more test (Ref o) h =
    let p = passing test (slice_get made o) h in ap (λ x. option_map_or test x false) (get_append made more o p.0 p.1) ∙ p.2
refers_stays made more test (Int n) h = h
refers_stays made more test (Long n) h = h
refers_stays made more test (Text t) h = h

module _ (classes : List Class) (made more : List Sort) where
  pub value_stays : (t : Ty) (v : Value) → is_value_of classes made t v ≡ true → is_value_of classes (made ++ more) t v ≡ true
  value_stays ty.Void v h = h
  value_stays ty.Int v h = h
  value_stays ty.Boolean v h = h
  value_stays (ty.Class name) v h = refers_stays made more _ v h
  value_stays ty.IntArray v h = refers_stays made more _ v h
  value_stays ty.BooleanArray v h = refers_stays made more _ v h
  value_stays (ty.ClassArray name) v h = refers_stays made more _ v h

  element_stays : (element : Element) (v : Value) → is_element_of classes made element v ≡ true → is_element_of classes (made ++ more) element v ≡ true
  element_stays Numbers v h = h
  element_stays Truths v h = h
  element_stays (References class) v h = refers_stays made more _ v h

  hold_stay : (fs : List Field) (vs : List Value) → AllHold classes made fs vs → AllHold classes (made ++ more) fs vs
  hold_stay [] [] h = tt
  hold_stay [] (v ∷ vs) h = h
  hold_stay (f ∷ fs) [] h = h
  hold_stay (f ∷ fs) (v ∷ vs) h = ((λ t e. value_stays t v (h.0 t e)), hold_stay fs vs h.1)

  pub filled_stays : (thing : Thing) → IsFilled classes made thing → IsFilled classes (made ++ more) thing
  filled_stays (Object class fields) h = (h.0, hold_stay (fields_of classes class) fields h.1)
  filled_stays (Array element values) h = all_more (is_element_of classes made element) (is_element_of classes (made ++ more) element) values (element_stays element) h

  pub held_stay : (fs : List Field) (o : Option (List Value)) → AreHeld classes made fs o → AreHeld classes (made ++ more) fs o
  held_stay fs None h = h
  held_stay fs (Some vs) h = hold_stay fs vs h

itself_so : (s : Store) → GoesOn s s
itself_so s = record { same = refl; more = []; grown = sym (append-nil (sorts s)) }

joined_so : (s u w : Store) → GoesOn s u → GoesOn u w → GoesOn s w
joined_so s u w a b = record {
  same = b.same ∙ a.same;
  more = a.more ++ b.more;
  grown = b.grown ∙ ap (λ l. l ++ b.more) a.grown ∙ append_assoc (sorts s) a.more b.more;
}

pub order : GoingOnIsAnOrder
order = record { itself = itself_so; joined = joined_so }

pub stays : ValuesStay
stays s u t v on h =
    subst (λ c. is_value_of c (sorts u) t v ≡ true) (sym on.same)
    (subst (λ m. is_value_of s.classes m t v ≡ true) (sym on.grown) (value_stays s.classes (sorts s) on.more t v h))
