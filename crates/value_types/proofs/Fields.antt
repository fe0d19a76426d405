-- Fields of objects, and static fields.
use Rattle.std.proofs.Common.{◌≡◌, ℕ, zero, suc, Bool, true, false, List, [], ◌∷◌, map, length, Option, Some, None, ◌⊎◌, inl, inr, refl, sym, ap, ◌∙◌, subst}
use Rattle.std.specs.Prelude.{slice_get, slice_set, filter, option_and_then, if◌then◌else◌}
use Rattle.std.specs.Option.{option_map, option_map_or}
use Rattle.std.specs.Str.{bytes_eq}
use Rattle.std.proofs.lemmas.Bool.{false≢true}
use Rattle.std.proofs.lemmas.Option.{none-some, same_Some}
use Rattle.jp_pred.specs.declared.ty.Ty.{Ty}
use Rattle.jp_pred.specs.declared.ty.Ty.TheVariants as ty
use Rattle.jp_pred.specs.Names.{Word}
use Rattle.jp_store.specs.declared.value.Value.{Value}
use Rattle.jp_store.specs.declared.value.Value.TheVariants.{Null}
use Rattle.jp_store.specs.declared.outcome.Outcome.TheVariants.{Fine}
use Rattle.jp_store.specs.declared.value.ClassAt.{ClassAt}
use Rattle.jp_store.specs.declared.value.ClassAt.TheVariants.{Root, Listed}
use Rattle.jp_store.specs.declared.heap.Thing.{Thing}
use Rattle.jp_store.specs.declared.heap.Thing.TheVariants.{Object, Array}
use Rattle.jp_store.specs.Arith.{is_kind}
use Rattle.jp_store.specs.Classes.{Class, Field, Found, object_name, class_at, kind_of, place_of, field_of, has_role, own_part, is_below_in, slot_of}
use Rattle.jp_store.specs.Outcome.{on_some}
use Rattle.jp_store.specs.Store.{Store}
use Rattle.jp_store.specs.Work.{is_concrete, GetField, PutField, GetStatic, PutStatic, work, answers, changed, where_true, on_thing, field_in, with_field, static_in, with_static}
use Rattle.jp_meaning.specs.Descriptors.{internal_name, descriptor_of, key_of}
use Rattle.value_types.specs.Values.{Sort, ObjectOf, ArrayOf, sort_of, sorts, is_at_or_below, is_sort_of, has_type}
use Rattle.value_types.specs.Stores.{Holds, AllHold, AreHeld, IsFilled, IsTyped, InheritsFields, fields_of}
use Rattle.value_types.specs.Work.{Answers, has_field}
use Rattle.value_types.proofs.Lists.{some_of, set_at}
use Rattle.value_types.proofs.KindsOfValues.{described_kind}
use Rattle.value_types.proofs.Found.{IsFound, found_so, IsHeldAt, held_at, own_there}
use Rattle.value_types.proofs.Holding.{held_by, hold_get, hold_set, held_there}
use Rattle.value_types.proofs.Going.{on_some_at, where_at, on_thing_at, answers_typed, changed_typed, statics_typed}

-- what is of a listed class is an object of a class below it
record IsObject (classes : List Class) (up : ℕ) (thing : Thing) : Type 0 where
  down : ℕ
  fields : List Value
  is : thing ≡ Object (Listed down) fields
  below : is_below_in (length classes) classes up down ≡ true

object_so : (classes : List Class) (class : Word) (up : ℕ) (thing : Thing) → place_of classes (internal_name class) ≡ Some up → is_sort_of classes (ty.Class class) (sort_of thing) ≡ true → IsObject classes up thing
object_so classes class up thing placed h =
    by_thing thing (subst (λ (o : Option ℕ). option_map_or (λ c. is_at_or_below classes c (sort_of thing)) (option_map_or (λ at. Some (Listed at)) o (if bytes_eq (internal_name class) object_name then Some Root else None)) false ≡ true) placed h) where
      by_thing : (thing : Thing) → is_at_or_below classes (Listed up) (sort_of thing) ≡ true → IsObject classes up thing
      by_thing (Object Root fields) h = absurd (false≢true h)
      by_thing (Object (Listed down) fields) h = record { down = down; fields = fields; is = refl; below = h }
      by_thing (Array element values) h = absurd (false≢true h)

module _ (s : Store) (inherits : InheritsFields s.classes) (typed : IsTyped s) (class name : Word) (t : Ty) where
  -- an object that holds a field of the type
  record Holder (found : Found) (n : ℕ) (thing : Thing) : Type 0 where
    down : ℕ
    fields : List Value
    is : thing ≡ Object (Listed down) fields
    field : Field
    described : field.descriptor ≡ descriptor_of t
    held : IsHeldAt s.classes down found field
    concrete : is_concrete s.classes (Listed down) ≡ true
    filled : AllHold s.classes (sorts s) (fields_of s.classes (Listed down)) fields

  holder : (found : Found) → IsFound false s.classes (key_of class name t) found → (n : ℕ) (thing : Thing) → slice_get s.heap n ≡ Some thing → is_sort_of s.classes (ty.Class class) (sort_of thing) ≡ true → Holder found n thing
  holder found f n thing there passes =
      let o = object_so s.classes class f.at thing f.placed passes in
      let h = subst (IsFilled s.classes (sorts s)) o.is (typed.things n thing there) in
      record {
        down = o.down;
        fields = o.fields;
        is = o.is;
        field = f.field;
        described = f.described;
        held = held_at s.classes o.down found f.field (inherits o.down f.at found.class o.below f.in_line f.field found.slot f.there) f.there;
        concrete = h.0;
        filled = h.1;
      }

  pub get_field : (o : Value) → has_field false s.classes class name t ≡ true → has_type s (ty.Class class) o ≡ true → Answers s t (work (GetField o (key_of class name t)) s)
  get_field o h k =
      let p = some_of (field_of false s.classes (key_of class name t)) h in
      let found = p.0 in
      let f = found_so false s.classes (key_of class name t) found p.1 in
      on_some_at (field_of false s.classes (key_of class name t)) found (λ (found : Found). on_thing s.heap o (λ n thing. on_some (field_in s.classes found thing) (answers s))) (Answers s t) p.1
      (on_thing_at s.heap (is_sort_of s.classes (ty.Class class)) o (λ n thing. on_some (field_in s.classes found thing) (answers s)) (Answers s t) k tt (λ n thing there passes.
      let x = holder found f n thing there passes in
      let v = hold_get s.classes (sorts s) (fields_of s.classes (Listed x.down)) x.fields x.held.slot x.field x.filled x.held.there in
      let e : field_in s.classes found thing ≡ Some v.0 = ap (field_in s.classes found) x.is ∙ ap (option_and_then (slice_get x.fields)) x.held.slot_so ∙ v.1 in
      on_some_at (field_in s.classes found thing) v.0 (answers s) (Answers s t) e (answers_typed s typed t v.0 (v.2 t (sym x.described)))))

  pub put_field : (o v : Value) → has_field false s.classes class name t ≡ true → has_type s (ty.Class class) o ≡ true → has_type s t v ≡ true → Answers s ty.Void (work (PutField o (key_of class name t) v) s)
  put_field o v h k w =
      let p = some_of (field_of false s.classes (key_of class name t)) h in
      let found = p.0 in
      let f = found_so false s.classes (key_of class name t) found p.1 in
      let put = λ (found : Found) (n : ℕ) (thing : Thing). on_some (with_field s.classes found v thing) (changed s n) in
      on_some_at (field_of false s.classes (key_of class name t)) found (λ (found : Found). where_true (is_kind found.kind v) (on_thing s.heap o (put found))) (Answers s ty.Void) p.1
      (where_at (is_kind found.kind v) (on_thing s.heap o (put found)) (Answers s ty.Void)
      (described_kind s.classes (sorts s) t v found.kind (subst (λ d. kind_of d ≡ Some found.kind) f.described f.kind_so) w)
      (on_thing_at s.heap (is_sort_of s.classes (ty.Class class)) o (put found) (Answers s ty.Void) k tt (λ n thing there passes.
      let x = holder found f n thing there passes in
      let new = Object (Listed x.down) (slice_set x.fields x.held.slot v) in
      let e : with_field s.classes found v thing ≡ Some new =
      ap (with_field s.classes found v) x.is ∙ ap (option_map (λ slot. Object (Listed x.down) (slice_set x.fields slot v))) x.held.slot_so in
      on_some_at (with_field s.classes found v thing) new (changed s n) (Answers s ty.Void) e
      (changed_typed s typed n thing new there (ap sort_of (sym x.is))
      (x.concrete, hold_set s.classes (sorts s) (fields_of s.classes (Listed x.down)) x.fields x.held.slot x.field v x.filled x.held.there (held_by s.classes (sorts s) t x.field v x.described w))))))

  -- a class that holds a static field of the type
  record StaticHolder (found : Found) : Type 0 where
    c : Class
    class_there : slice_get s.classes found.class ≡ Some c
    field : Field
    described : field.descriptor ≡ descriptor_of t
    there : slice_get (filter (has_role true) c.fields) found.slot ≡ Some field
    values : List Value
    values_there : slice_get s.statics found.class ≡ Some values
    filled : AllHold s.classes (sorts s) (filter (has_role true) c.fields) values

  static_holder : (found : Found) → IsFound true s.classes (key_of class name t) found → StaticHolder found
  static_holder found f =
      let o = own_there true s.classes found.class found.slot f.field f.there in
      let fields = filter (has_role true) (o.0).fields in
      let h = held_there s.classes (sorts s) fields (slice_get s.statics found.class) (typed.statics found.class o.0 o.1) in
      record { c = o.0; class_there = o.1; field = f.field; described = f.described; there = o.2; values = h.0; values_there = h.1; filled = h.2 }

  pub get_static : has_field true s.classes class name t ≡ true → Answers s t (work (GetStatic (key_of class name t)) s)
  get_static h =
      let p = some_of (field_of true s.classes (key_of class name t)) h in
      let found = p.0 in
      let x = static_holder found (found_so true s.classes (key_of class name t) found p.1) in
      let v = hold_get s.classes (sorts s) (filter (has_role true) x.c.fields) x.values found.slot x.field x.filled x.there in
      let e : static_in s.statics found ≡ Some v.0 = ap (option_and_then (λ values. slice_get values found.slot)) x.values_there ∙ v.1 in
      on_some_at (field_of true s.classes (key_of class name t)) found (λ (found : Found). on_some (static_in s.statics found) (answers s)) (Answers s t) p.1
      (on_some_at (static_in s.statics found) v.0 (answers s) (Answers s t) e (answers_typed s typed t v.0 (v.2 t (sym x.described))))

  pub put_static : (v : Value) → has_field true s.classes class name t ≡ true → has_type s t v ≡ true → Answers s ty.Void (work (PutStatic (key_of class name t) v) s)
  put_static v h w =
      let p = some_of (field_of true s.classes (key_of class name t)) h in
      let found = p.0 in
      let f = found_so true s.classes (key_of class name t) found p.1 in
      let x = static_holder found f in
      let values = slice_set x.values found.slot v in
      let new = slice_set s.statics found.class values in
      let e : with_static s.statics found v ≡ Some new = ap (option_map (λ vs. slice_set s.statics found.class (slice_set vs found.slot v))) x.values_there in
      let go = λ (statics : List (List Value)). Fine (Null, record s { statics = statics }) in
      on_some_at (field_of true s.classes (key_of class name t)) found (λ (found : Found). where_true (is_kind found.kind v) (on_some (with_static s.statics found v) go)) (Answers s ty.Void) p.1
      (where_at (is_kind found.kind v) (on_some (with_static s.statics found v) go) (Answers s ty.Void)
      (described_kind s.classes (sorts s) t v found.kind (subst (λ d. kind_of d ≡ Some found.kind) f.described f.kind_so) w)
      (on_some_at (with_static s.statics found v) new go (Answers s ty.Void) e
      (statics_typed s typed new (λ at c i. elim (set_at s.statics found.class at values x.values x.values_there) [
        | inl l ↦
            let same : x.c ≡ c = same_Some x.c c (sym x.class_there ∙ ap (slice_get s.classes) (sym l.0) ∙ i) in
            subst (AreHeld s.classes (sorts s) (filter (has_role true) c.fields)) (sym l.1)
            (subst (λ (d : Class). AllHold s.classes (sorts s) (filter (has_role true) d.fields) values) same
            (hold_set s.classes (sorts s) (filter (has_role true) x.c.fields) x.values found.slot x.field v x.filled x.there (held_by s.classes (sorts s) t x.field v x.described w)))
        | inr r ↦ subst (AreHeld s.classes (sorts s) (filter (has_role true) c.fields)) (sym r) (typed.statics at c i)
      ]))))
