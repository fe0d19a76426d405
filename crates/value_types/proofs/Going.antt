-- Stores that go on from a typed one, and are typed.
use Rattle.std.proofs.Common.{◌≡◌, ℕ, zero, suc, Bool, true, false, List, [], ◌∷◌, ◌++◌, map, length, Option, Some, None, inl, inr, refl, sym, ap, ◌∙◌, subst, append-nil}
use Rattle.std.specs.Prelude.{slice_get, slice_set, filter}
use Rattle.std.specs.Option.{option_map_or}
use Rattle.std.proofs.lemmas.Bool.{false≢true}
use Rattle.jp_pred.specs.declared.ty.Ty.{Ty}
use Rattle.jp_pred.specs.declared.ty.Ty.TheVariants as ty
use Rattle.jp_pred.specs.Kinds.{is_reference}
use Rattle.jp_store.specs.declared.value.Value.{Value}
use Rattle.jp_store.specs.declared.value.Value.TheVariants.{Int, Long, Null, Ref, Text}
use Rattle.jp_store.specs.declared.value.Kind.TheVariants.{Number}
use Rattle.jp_store.specs.declared.value.TrapKind.TheVariants.{NullReference}
use Rattle.jp_store.specs.declared.heap.Thing.{Thing}
use Rattle.jp_store.specs.declared.outcome.Outcome.{Outcome}
use Rattle.jp_store.specs.declared.outcome.Outcome.TheVariants.{Fine, Trap, Wrong}
use Rattle.jp_store.specs.Outcome.{on_some}
use Rattle.jp_store.specs.Arith.{is_kind, on_int}
use Rattle.std.proofs.Common.{ℤ}
use Rattle.jp_store.specs.Classes.{Class, has_role}
use Rattle.jp_store.specs.Store.{Store}
use Rattle.jp_store.specs.Work.{Worked, answers, on_thing, where_true, changed, made}
use Rattle.value_types.specs.Values.{Sort, sort_of, sorts, is_sort_of, refers, has_type}
use Rattle.value_types.specs.Stores.{IsFilled, AreHeld, IsTyped, GoesOn}
use Rattle.value_types.specs.Work.{Comes, Answers}
use Rattle.value_types.proofs.Lists.{passing, from_map, get_map, from_set, map_set, map_joined, from_end, last_there}
use Rattle.value_types.proofs.KindsOfValues.{refers_so}
use Rattle.value_types.proofs.Stays.{filled_stays, held_stay}

module _ {A B : Type 0} where
  -- what is looked up is there
  pub on_some_at : (o : Option A) (a : A) (go : A → Outcome B) (P : Outcome B → Type 0) → o ≡ Some a → P (go a) → P (on_some o go)
  on_some_at o a go P e h = subst (λ (x : Option A). P (on_some x go)) (sym e) h

module _ {A : Type 0} where
  pub where_at : (b : Bool) (go : Outcome A) (P : Outcome A → Type 0) → b ≡ true → P go → P (where_true b go)
  where_at b go P e h = subst (λ x. P (where_true x go)) (sym e) h

  -- an int
  pub on_int_at : (v : Value) (go : ℤ → Outcome A) (P : Outcome A → Type 0) → is_kind Number v ≡ true → ((n : ℤ) → P (go n)) → P (on_int go v)
  on_int_at (Int n) go P h k = k n
  on_int_at (Long n) go P h k = absurd (false≢true h)
  on_int_at Null go P h k = absurd (false≢true h)
  on_int_at (Ref o) go P h k = absurd (false≢true h)
  on_int_at (Text t) go P h k = absurd (false≢true h)

  -- something that is there, or a trap
  pub on_thing_at : (heap : List Thing) (test : Sort → Bool) (v : Value) (go : ℕ → Thing → Outcome A) (P : Outcome A → Type 0) → refers (map sort_of heap) test v ≡ true → P (Trap NullReference) →
      ((n : ℕ) (thing : Thing) → slice_get heap n ≡ Some thing → test (sort_of thing) ≡ true → P (go n thing)) → P (on_thing heap v go)
  on_thing_at heap test Null go P h trap k = trap
  on_thing_at heap test (Ref n) go P h trap k =
      let p = passing test (slice_get (map sort_of heap) n) h in
      let f = from_map sort_of heap n p.0 p.1 in
      on_some_at (slice_get heap n) f.0 (go n) P f.1 (k n f.0 f.1 (ap test f.2 ∙ p.2))
  on_thing_at heap test (Int n) go P h trap k = absurd (false≢true h)
  on_thing_at heap test (Long n) go P h trap k = absurd (false≢true h)
  on_thing_at heap test (Text t) go P h trap k = absurd (false≢true h)

-- typed, by the sorts of what is made
typed_by : (classes : List Class) (heap : List Thing) (statics : List (List Value)) (all : List Sort) → map sort_of heap ≡ all →
    ((o : ℕ) (thing : Thing) → slice_get heap o ≡ Some thing → IsFilled classes all thing) →
    ((at : ℕ) (c : Class) → slice_get classes at ≡ Some c → AreHeld classes all (filter (has_role true) c.fields) (slice_get statics at)) →
    IsTyped (record { classes = classes; heap = heap; statics = statics })
typed_by classes heap statics all e h k = record {
  things = λ o thing i. subst (λ (m : List Sort). IsFilled classes m thing) (sym e) (h o thing i);
  statics = λ at c i. subst (λ (m : List Sort). AreHeld classes m (filter (has_role true) c.fields) (slice_get statics at)) (sym e) (k at c i);
}

module _ (s : Store) (typed : IsTyped s) where
  -- the store as it is
  pub answers_typed : (t : Ty) (v : Value) → has_type s t v ≡ true → Answers s t (answers s v)
  answers_typed t v h = record { typed = typed; on = record { same = refl; more = []; grown = sym (append-nil (sorts s)) }; value = h }

  -- something that is made holds something else
  pub changed_typed : (n : ℕ) (old new : Thing) → slice_get s.heap n ≡ Some old → sort_of new ≡ sort_of old → IsFilled s.classes (sorts s) new → Answers s ty.Void (changed s n new)
  changed_typed n old new there same filled =
      let e = map_set sort_of s.heap n new old there same in
      record {
        typed = typed_by s.classes (slice_set s.heap n new) s.statics (sorts s) e (λ o thing i. elim (from_set s.heap n o new thing i) [
          | inl l ↦ subst (IsFilled s.classes (sorts s)) (sym l) filled
          | inr r ↦ typed.things o thing r
        ]) typed.statics;
        on = record { same = refl; more = []; grown = e ∙ sym (append-nil (sorts s)) };
        value = refl;
      }

  -- something more is made
  pub made_typed : (thing : Thing) (t : Ty) → is_reference t ≡ true → is_sort_of s.classes t (sort_of thing) ≡ true → IsFilled s.classes (sorts s) thing → Answers s t (made s thing)
  made_typed thing t reference passes filled =
      let e = map_joined sort_of s.heap (thing ∷ []) in
      let more = sort_of thing ∷ [] in
      record {
        typed = typed_by s.classes (s.heap ++ thing ∷ []) s.statics (sorts s ++ more) e (λ o old i. filled_stays s.classes (sorts s) more old (elim (from_end s.heap thing o old i) [
          | inl l ↦ subst (IsFilled s.classes (sorts s)) (sym l) filled
          | inr r ↦ typed.things o old r
        ])) (λ at c i. held_stay s.classes (sorts s) more (filter (has_role true) c.fields) (slice_get s.statics at) (typed.statics at c i));
        on = record { same = refl; more = more; grown = e };
        value = refers_so s.classes (map sort_of (s.heap ++ thing ∷ [])) t (Ref (length s.heap)) reference
            ∙ ap (λ o. option_map_or (is_sort_of s.classes t) o false) (get_map sort_of (s.heap ++ thing ∷ []) (length s.heap) thing (last_there s.heap thing)) ∙ passes;
      }

  -- a static field holds something else
  pub statics_typed : (statics : List (List Value)) → ((at : ℕ) (c : Class) → slice_get s.classes at ≡ Some c → AreHeld s.classes (sorts s) (filter (has_role true) c.fields) (slice_get statics at)) →
      Answers s ty.Void (Fine (Null, record s { statics = statics }))
  statics_typed statics held = record {
    typed = record { things = typed.things; statics = held };
    on = record { same = refl; more = []; grown = sym (append-nil (sorts s)) };
    value = refl;
  }
