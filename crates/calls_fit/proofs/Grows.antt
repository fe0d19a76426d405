-- Objects keep their classes: what an operation, a call or a run leaves has each object that was there, of the same class.
use Rattle.std.proofs.Common.{◌≡◌, ℕ, zero, suc, Bool, true, false, cond, List, [], ◌∷◌, ◌++◌, Option, Some, None, refl, sym, ap, ◌∙◌}
use Rattle.std.specs.Prelude.{ℤ, pos, negsuc, is_some, unwrap_or, option_and_then, slice_get, slice_set}
use Rattle.std.specs.Option.{option_map}
use Rattle.std.proofs.lemmas.Bool.{false≢true}
use Rattle.std.specs.Fmt.{signed_decimal}
use Rattle.jp_pred.specs.Names.{Word}
use Rattle.jp_store.specs.declared.value.Value.{Value}
use Rattle.jp_store.specs.declared.value.Value.TheVariants.{Int, Long, Null, Ref, Text}
use Rattle.jp_store.specs.declared.value.ClassAt.{ClassAt}
use Rattle.jp_store.specs.declared.value.ClassAt.TheVariants.{Root, Listed}
use Rattle.jp_store.specs.declared.value.Element.{Element}
use Rattle.jp_store.specs.declared.value.ElementKind.{ElementKind}
use Rattle.jp_store.specs.declared.heap.Thing.{Thing}
use Rattle.jp_store.specs.declared.heap.Thing.TheVariants.{Object, Array}
use Rattle.jp_store.specs.declared.outcome.Outcome.{Outcome}
use Rattle.jp_store.specs.declared.outcome.Outcome.TheVariants.{Fine, Trap, Wrong}
use Rattle.jp_store.specs.Outcome.{then_with, on_some}
use Rattle.jp_store.specs.Arith.{is_kind, on_int}
use Rattle.jp_store.specs.Classes.{Found, slot_of, class_at, field_of}
use Rattle.jp_store.specs.Store.{Store}
use Rattle.jp_store.specs.Work.{Op, GetField, PutField, GetStatic, PutStatic, MakeObject, MakeArray, GetElem, PutElem, Length, InstanceOf, Cast, Worked, answers, on_thing, where_true, field_in, with_field, static_in, with_static, is_concrete, element_of, array_made, is_element, can_store, on_array, or_outside, at_index, size_of, is_instance, is_null_or, fits_element, instance_truth, cast_by, work}
use Rattle.jp_does.specs.OpenTrace.{first_of, rest_of}
use Rattle.jp_does.specs.Does.{Gives, Traps, Ticks, Prints, Shows, Reads, Works, Calls, Limit, Stuck}
use Rattle.jp_meaning.specs.Does.{Target, StaticMethod, Constructor, OfClass, OfInterface, OfSuperclass, Call, Does}
use Rattle.jp_meaning.specs.Descriptors.{word_of, kind_of_type}
use Rattle.jp_meaning.specs.Expressions.{fit}
use Rattle.jp_meaning.specs.Classes.{Placed, Candidate, placed, static_named, constructor_named, has_family, chain_of}
use Rattle.jp_meaning.specs.Choice.{Choice, Selects, NoneIsTrue, NoneIsBest}
use Rattle.jp_meaning.specs.Run.{World, Run, Came, Ended, IsStuck, after, spend, worked, write, play, Program, class_of_thing, class_of_value, receiver_class, selected, there, chosen, select_in, call_by, placed_does, member_run, calls}

-- each object of the first store is one of the second, of the same class
abbrev pub IsKeptIn : Store → Store → Type 0
IsKeptIn s r = (v : Value) (own : Word) → class_of_value s v ≡ Some own → class_of_value r v ≡ Some own

module _ (f : Thing → Option Word) where
  set_keeps : (things : List Thing) (o : ℕ) (old new : Thing) → slice_get things o ≡ Some old → f new ≡ f old → (k : ℕ) (own : Word) →
      option_and_then f (slice_get things k) ≡ Some own → option_and_then f (slice_get (slice_set things o new) k) ≡ Some own
  set_keeps [] o old new e same k own h = absurd (false≢true (ap is_some h))
  set_keeps (t ∷ ts) zero old new e same zero own h = same ∙ ap (λ (x : Option Thing). f (unwrap_or x t)) (sym e) ∙ h
  set_keeps (t ∷ ts) zero old new e same (suc k) own h = h
  set_keeps (t ∷ ts) (suc o) old new e same zero own h = h
  set_keeps (t ∷ ts) (suc o) old new e same (suc k) own h = set_keeps ts o old new e same k own h

  more_keeps : (things : List Thing) (thing : Thing) (k : ℕ) (own : Word) →
      option_and_then f (slice_get things k) ≡ Some own → option_and_then f (slice_get (things ++ thing ∷ []) k) ≡ Some own
  more_keeps [] thing k own h = absurd (false≢true (ap is_some h))
  more_keeps (t ∷ ts) thing zero own h = h
  more_keeps (t ∷ ts) thing (suc k) own h = more_keeps ts thing k own h

no_class : {A : Type 0} (own : Word) → None ≡ Some own → A
no_class own h = absurd (false≢true (ap is_some h))

pub set_kept : (s : Store) (o : ℕ) (old new : Thing) → slice_get s.heap o ≡ Some old → class_of_thing s new ≡ class_of_thing s old → IsKeptIn s (record s { heap = slice_set s.heap o new })
set_kept s o old new e same (Ref k) own h = set_keeps (class_of_thing s) s.heap o old new e same k own h
set_kept s o old new e same Null own h = no_class own h
set_kept s o old new e same (Int n) own h = no_class own h
set_kept s o old new e same (Long n) own h = no_class own h
set_kept s o old new e same (Text t) own h = no_class own h

pub more_kept : (s : Store) (thing : Thing) → IsKeptIn s (record s { heap = s.heap ++ thing ∷ [] })
more_kept s thing (Ref k) own h = more_keeps (class_of_thing s) s.heap thing k own h
more_kept s thing Null own h = no_class own h
more_kept s thing (Int n) own h = no_class own h
more_kept s thing (Long n) own h = no_class own h
more_kept s thing (Text t) own h = no_class own h

statics_kept : (s : Store) (statics : List (List Value)) → IsKeptIn s (record s { statics = statics })
statics_kept s statics (Ref k) own h = h
statics_kept s statics Null own h = no_class own h
statics_kept s statics (Int n) own h = no_class own h
statics_kept s statics (Long n) own h = no_class own h
statics_kept s statics (Text t) own h = no_class own h

field_class : (s : Store) (f : Found) (v : Value) (thing t : Thing) → with_field s.classes f v thing ≡ Some t → class_of_thing s t ≡ class_of_thing s thing
field_class s f v (Object class fields) t e = by_slot (slot_of s.classes class f) e where
  by_slot : (x : Option ℕ) → option_map (λ slot. Object class (slice_set fields slot v)) x ≡ Some t → class_of_thing s t ≡ class_of_thing s (Object class fields)
  by_slot None e = absurd (false≢true (ap is_some e))
  by_slot (Some slot) e = ap (λ (x : Option Thing). class_of_thing s (unwrap_or x t)) (sym e) ∙ as_it_is class where
    as_it_is : (c : ClassAt) → class_of_thing s (Object c (slice_set fields slot v)) ≡ class_of_thing s (Object c fields)
    as_it_is Root = refl
    as_it_is (Listed at) = refl
field_class s f v (Array element values) t e = absurd (false≢true (ap is_some e))

-- what an operation leaves
abbrev pub Leaves : Store → Worked → Type 0
Leaves s (Fine r) = IsKeptIn s r.1
Leaves s (Trap kind) = Unit {0}
Leaves s Wrong = Unit {0}

module _ (s : Store) where
  on_found : {A : Type 0} (o : Option A) (go : A → Worked) → ((a : A) → o ≡ Some a → Leaves s (go a)) → Leaves s (on_some o go)
  on_found None go h = tt
  on_found (Some a) go h = h a refl

  on_any : {A : Type 0} (o : Option A) (go : A → Worked) → ((a : A) → Leaves s (go a)) → Leaves s (on_some o go)
  on_any o go h = on_found o go (λ a e. h a)

  on_named : (heap : List Thing) (r : Value) (go : ℕ → Thing → Worked) → ((o : ℕ) (thing : Thing) → slice_get heap o ≡ Some thing → Leaves s (go o thing)) → Leaves s (on_thing heap r go)
  on_named heap (Ref o) go h = on_found (slice_get heap o) (go o) (h o)
  on_named heap Null go h = tt
  on_named heap (Int n) go h = tt
  on_named heap (Long n) go h = tt
  on_named heap (Text t) go h = tt

  on_true : (b : Bool) (go : Worked) → Leaves s go → Leaves s (where_true b go)
  on_true true go h = h
  on_true false go h = tt

  on_number : (v : Value) (go : ℤ → Worked) → ((n : ℤ) → Leaves s (go n)) → Leaves s (on_int go v)
  on_number (Int n) go h = h n
  on_number (Long n) go h = tt
  on_number Null go h = tt
  on_number (Ref o) go h = tt
  on_number (Text t) go h = tt

  on_with : {A : Type 0} (r : Outcome A) (go : A → Worked) → ((a : A) → Leaves s (go a)) → Leaves s (then_with r go)
  on_with (Fine a) go h = h a
  on_with (Trap kind) go h = tt
  on_with Wrong go h = tt

  on_elements : (kind : ElementKind) (thing : Thing) (go : Element → List Value → Worked) → ((e : Element) (vs : List Value) → thing ≡ Array e vs → Leaves s (go e vs)) → Leaves s (on_array kind thing go)
  on_elements kind (Object class fields) go h = tt
  on_elements kind (Array element values) go h = on_true (is_element kind element) (go element values) (h element values refl)

  on_index : (vs : List Value) (i : ℤ) (go : ℕ → Value → Worked) → ((n : ℕ) (v : Value) → Leaves s (go n v)) → Leaves s (at_index vs i go)
  on_index vs (pos i) go h = inside (slice_get vs i) where
    inside : (o : Option Value) → Leaves s (or_outside o (go i))
    inside None = tt
    inside (Some v) = h i v
  on_index vs (negsuc i) go h = tt

  as_it_was : (v : Value) → Leaves s (answers s v)
  as_it_was v = λ w own h. h

  on_made : (e : Element) (n : ℤ) → Leaves s (array_made s e n)
  on_made e (pos n) = more_kept s _
  on_made e (negsuc n) = tt

  on_size : (thing : Thing) → Leaves s (size_of s thing)
  on_size (Object class fields) = tt
  on_size (Array element values) = λ w own h. h

  on_cast : (v : Value) (b : Bool) → Leaves s (cast_by s v b)
  on_cast v true = as_it_was v
  on_cast v false = tt

  in_array : (o : ℕ) (thing : Thing) (e : Element) (vs : List Value) → slice_get s.heap o ≡ Some thing → thing ≡ Array e vs → (new : List Value) → IsKeptIn s (record s { heap = slice_set s.heap o (Array e new) })
  in_array o thing e vs x y new = set_kept s o thing (Array e new) x (ap (class_of_thing s) (sym y))

pub work_leaves : (op : Op) (s : Store) → Leaves s (work op s)
work_leaves (GetField r key) s = on_any s (field_of false s.classes key) _ (λ f. on_named s s.heap r _ (λ o thing e. on_any s (field_in s.classes f thing) _ (λ v. as_it_was s v)))
work_leaves (PutField r key v) s =
    on_any s (field_of false s.classes key) _ (λ f. on_true s (is_kind f.kind v) _ (on_named s s.heap r _ (λ o thing e. on_found s (with_field s.classes f v thing) _ (λ t x.
    set_kept s o thing t e (field_class s f v thing t x)))))
work_leaves (GetStatic key) s = on_any s (field_of true s.classes key) _ (λ f. on_any s (static_in s.statics f) _ (λ v. as_it_was s v))
work_leaves (PutStatic key v) s = on_any s (field_of true s.classes key) _ (λ f. on_true s (is_kind f.kind v) _ (on_any s (with_static s.statics f v) _ (λ t. statics_kept s t)))
work_leaves (MakeObject name) s = on_any s (class_at s.classes name) _ (λ class. on_true s (is_concrete s.classes class) _ (more_kept s _))
work_leaves (MakeArray named size) s = on_any s (element_of s.classes named) _ (λ e. on_number s size _ (on_made s e))
work_leaves (GetElem kind r index) s = on_number s index _ (λ i. on_named s s.heap r _ (λ o thing x. on_elements s kind thing _ (λ e vs y. on_index s vs i _ (λ n v. as_it_was s v))))
work_leaves (PutElem kind r index v) s =
    on_number s index _ (λ i. on_true s (can_store kind v) _ (on_named s s.heap r _ (λ o thing x. on_elements s kind thing _ (λ e vs y.
    on_index s vs i _ (λ n old. on_with s (fits_element s e v) _ (λ b. on_true s b _ (in_array s o thing e vs x y _)))))))
work_leaves (Length r) s = on_named s s.heap r _ (λ o thing x. on_size s thing)
work_leaves (InstanceOf r name) s = on_any s (class_at s.classes name) _ (λ up. on_with s (instance_truth s up r) _ (λ v. as_it_was s v))
work_leaves (Cast r name) s = on_any s (class_at s.classes name) _ (λ up. on_with s (is_null_or (is_instance s.classes up) s.heap r) _ (λ b. on_cast s r b))

-- a run that came to a value
abbrev pub Grows : {A : Type 0} → World → Run A → Type 0
Grows w (Came a u) = IsKeptIn w.store u.store
Grows w (Ended e u) = Unit {0}

grows_from : {A : Type 0} (w v : World) → IsKeptIn w.store v.store → (r : Run A) → Grows v r → Grows w r
grows_from w v f (Came a u) h = λ x own e. h x own (f x own e)
grows_from w v f (Ended e u) h = tt

after_grows : {A B : Type 0} (w : World) (r : Run A) (go : A → World → Run B) → Grows w r → ((a : A) (v : World) → Grows v (go a v)) → Grows w (after r go)
after_grows w (Came a v) go h k = grows_from w v h (go a v) (k a v)
after_grows w (Ended e v) go h k = tt

spend_grows : {A : Type 0} (w : World) (t : ℕ) (go : World → Run A) → ((v : World) → Grows v (go v)) → Grows w (spend w t go)
spend_grows w zero go h = tt
spend_grows w (suc t) go h = grows_from w (record w { ticks = t }) (λ x own e. e) (go (record w { ticks = t })) (h (record w { ticks = t }))

worked_grows : {A : Type 0} (w : World) (r : Worked) → Leaves w.store r → (go : Value → World → Run A) → ((v : Value) (u : World) → Grows u (go v u)) → Grows w (worked w r go)
worked_grows w (Fine r) e go h = grows_from w (record w { store = r.1 }) e (go r.0 (record w { store = r.1 })) (h r.0 (record w { store = r.1 }))
worked_grows w (Trap kind) e go h = tt
worked_grows w Wrong e go h = tt

play_grows : {A : Type 0} (call : Call → World → Run Value) → ((c : Call) (w : World) → Grows w (call c w)) → (d : Does A) (w : World) → Grows w (play call d w)
play_grows call h (Gives a) w = λ x own e. e
play_grows call h (Traps kind) w = tt
play_grows call h (Ticks d) w = spend_grows w w.ticks (play call d) (play_grows call h d)
play_grows call h (Prints n d) w = grows_from w (write (signed_decimal n) w) (λ x own e. e) _ (play_grows call h d (write (signed_decimal n) w))
play_grows call h (Shows text d) w = grows_from w (write text w) (λ x own e. e) _ (play_grows call h d (write text w))
play_grows call h (Reads d) w = grows_from w (record w { input = rest_of w.input }) (λ x own e. e) _ (play_grows call h (d (first_of w.input)) (record w { input = rest_of w.input }))
play_grows call h (Works op d) w = worked_grows w (work op w.store) (work_leaves op w.store) (λ v. play call (d v)) (λ v. play_grows call h (d v))
play_grows call h (Calls c d) w = after_grows w (call c w) _ (h c w) (λ v. play_grows call h (d v))
play_grows call h Limit w = tt
play_grows call h Stuck w = tt

there_grows : {A B : Type 0} (o : Option A) (w : World) (go : A → Run B) → ((a : A) → Grows w (go a)) → Grows w (there o w go)
there_grows None w go h = tt
there_grows (Some a) w go h = h a

chosen_grows : {A : Type 0} (chain : List Candidate) (c : Choice) (w : World) (go : Candidate → Run A) → ((b : Candidate) → Grows w (go b)) → Grows w (chosen chain c w go)
chosen_grows chain (Selects i) w go h = there_grows (slice_get chain i) w go h
chosen_grows chain NoneIsTrue w go h = tt
chosen_grows chain NoneIsBest w go h = tt

cond_grows : (b : Bool) (w : World) (go : Run Value) → Grows w go → Grows w (cond b go (Ended IsStuck w))
cond_grows true w go h = h
cond_grows false w go h = tt

module _ (p : Program) (n : ℕ) (call : Call → World → Run Value) (grows : (c : Call) (w : World) → Grows w (call c w)) where
  member_grows : (m : Placed) (vs : List Value) (w : World) → Grows w (member_run p n call m vs w)
  member_grows m vs w = spend_grows w w.ticks _ (play_grows call grows (placed_does p (suc n) m vs))

  select_grows : (chain : List Candidate) (vs : List Value) (w : World) → Grows w (select_in p (member_run p n call) call chain vs w)
  select_grows chain vs w = there_grows (selected p chain vs w.store) w _ (λ choice. chosen_grows chain choice w _ (λ c.
      after_grows w (member_run p n call (placed c) vs w) _ (member_grows (placed c) vs w) (λ v. play_grows call grows (fit (kind_of_type c.method.result) v))))

  call_grows : (x : Target) (vs : List Value) (w : World) → Grows w (call_by p (member_run p n call) call x vs w)
  call_grows (StaticMethod m) vs w = there_grows (static_named p.classes m) w _ (λ placed. member_grows placed vs w)
  call_grows (Constructor m) vs w = there_grows (constructor_named p.classes m) w _ (λ placed. member_grows placed vs w)
  call_grows (OfClass m) vs w = cond_grows (has_family p.classes m) w _ (there_grows (receiver_class w.store vs) w _ (λ class. select_grows (chain_of p.classes m class) vs w))
  call_grows (OfInterface m) vs w = cond_grows (has_family p.classes m) w _ (there_grows (receiver_class w.store vs) w _ (λ class. select_grows (chain_of p.classes m class) vs w))
  call_grows (OfSuperclass m) vs w = cond_grows (has_family p.classes m) w _ (select_grows (chain_of p.classes m (word_of m.class)) vs w)

-- a call that came to a value
pub calls_grow : (p : Program) (n : ℕ) (c : Call) (w : World) → Grows w (calls p n c w)
calls_grow p zero c w = tt
calls_grow p (suc n) c w = call_grows p n (calls p n) (calls_grow p n) c.target c.args w
