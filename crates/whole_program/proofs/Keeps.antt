-- What a run keeps: the classes stay, no object is of an abstract class, and ticks are only spent.
use Rattle.std.proofs.Common.{◌≡◌, ℕ, zero, suc, ◌≤◌, Bool, true, false, cond, List, [], ◌∷◌, ◌++◌, Option, Some, None, refl, sym, ap, ◌∙◌, subst, arith}
use Rattle.std.specs.Prelude.{ℤ, pos, negsuc, is_some, unwrap_or, slice_get, slice_set}
use Rattle.std.specs.Option.{option_map}
use Rattle.std.proofs.lemmas.Bool.{false≢true}
use Rattle.std.specs.Fmt.{signed_decimal}
use Rattle.jp_pred.specs.declared.hier.Hier.{Hier}
use Rattle.iface_codec.specs.declared.iface.Iface.{Iface}
use Rattle.iface_codec.specs.declared.iface.IfaceMethod.{IfaceMethod}
use Rattle.jp_store.specs.declared.value.Value.{Value}
use Rattle.jp_store.specs.declared.value.Value.TheVariants.{Int, Long, Null, Ref, Text}
use Rattle.jp_store.specs.declared.value.Kind.{Kind}
use Rattle.jp_store.specs.declared.value.Element.{Element}
use Rattle.jp_store.specs.declared.value.ElementKind.{ElementKind}
use Rattle.jp_store.specs.declared.heap.Thing.{Thing}
use Rattle.jp_store.specs.declared.heap.Thing.TheVariants.{Object, Array}
use Rattle.jp_store.specs.declared.outcome.Outcome.{Outcome}
use Rattle.jp_store.specs.declared.outcome.Outcome.TheVariants.{Fine, Trap, Wrong}
use Rattle.jp_store.specs.Outcome.{then_with, on_some}
use Rattle.jp_store.specs.Arith.{is_kind, on_int}
use Rattle.jp_store.specs.Classes.{Class, Found, slot_of, class_at, field_of}
use Rattle.jp_store.specs.Store.{Store}
use Rattle.jp_store.specs.Work.{Op, GetField, PutField, GetStatic, PutStatic, MakeObject, MakeArray, GetElem, PutElem, Length, InstanceOf, Cast, Worked, answers, on_thing, where_true, field_in, with_field, static_in, with_static, is_concrete, element_of, array_made, is_element, can_store, on_array, or_outside, at_index, size_of, is_instance, is_null_or, fits_element, instance_truth, cast_by, work}
use Rattle.jp_does.specs.OpenTrace.{first_of, rest_of}
use Rattle.whole_program.specs.Fits.{IsMade, AllMade, HoldsMade}
use Rattle.jp_does.specs.Does.{Gives, Traps, Ticks, Prints, Shows, Reads, Works, Calls, Limit, Stuck, then_do, do_of, found}
use Rattle.jp_meaning.specs.declared.unit.TypedMember.{TypedMember}
use Rattle.jp_meaning.specs.declared.unit.TypedPart.TheVariants as part
use Rattle.jp_meaning.specs.Does.{Target, StaticMethod, Constructor, OfClass, OfInterface, OfSuperclass, Call, Does}
use Rattle.jp_meaning.specs.Descriptors.{word_of, kind_of_type}
use Rattle.jp_meaning.specs.Expressions.{fits, fit}
use Rattle.jp_meaning.specs.Statements.{Left, Goes, Breaks, Continues, Returned, block_does}
use Rattle.jp_meaning.specs.Members.{read_aliases, locals_of, leaves, returned, statements_do, part_does}
use Rattle.jp_meaning.specs.Classes.{Placed, Candidate, placed, static_named, constructor_named, has_family, chain_of}
use Rattle.jp_meaning.specs.Choice.{Choice, Selects, NoneIsTrue, NoneIsBest}
use Rattle.jp_meaning.specs.Run.{Done, Trapped, NoBody, TwoBodies, IsStuck, More, World, Run, Came, Ended, after, spend, worked, write, play, Program, receiver_class, selected, there, chosen, select_in, call_by, placed_does, member_run, calls}

set_made : (classes : List Class) (things : List Thing) (o : ℕ) (thing : Thing) → IsMade classes thing → AllMade classes things → AllMade classes (slice_set things o thing)
set_made classes [] o thing h m = tt
set_made classes (t ∷ ts) zero thing h m = (h, m.1)
set_made classes (t ∷ ts) (suc o) thing h m = (m.0, set_made classes ts o thing h m.1)

more_made : (classes : List Class) (things : List Thing) (thing : Thing) → IsMade classes thing → AllMade classes things → AllMade classes (things ++ thing ∷ [])
more_made classes [] thing h m = (h, tt)
more_made classes (t ∷ ts) thing h m = (m.0, more_made classes ts thing h m.1)

get_made : (classes : List Class) (things : List Thing) (o : ℕ) (thing : Thing) → slice_get things o ≡ Some thing → AllMade classes things → IsMade classes thing
get_made classes [] o thing e m = absurd (false≢true (ap is_some e))
get_made classes (t ∷ ts) zero thing e m = subst (IsMade classes) (ap (λ (x : Option Thing). unwrap_or x t) e) m.0
get_made classes (t ∷ ts) (suc o) thing e m = get_made classes ts o thing e m.1

field_made : (classes : List Class) (f : Found) (v : Value) (thing t : Thing) → with_field classes f v thing ≡ Some t → IsMade classes thing → IsMade classes t
field_made classes f v (Object class fields) t e m = by_slot (slot_of classes class f) e where
  by_slot : (x : Option ℕ) → option_map (λ slot. Object class (slice_set fields slot v)) x ≡ Some t → IsMade classes t
  by_slot None e = absurd (false≢true (ap is_some e))
  by_slot (Some slot) e = subst (IsMade classes) (ap (λ (x : Option Thing). unwrap_or x t) e) m
field_made classes f v (Array element values) t e m = absurd (false≢true (ap is_some e))

-- what an operation leaves has the same classes, and no object of an abstract class more
abbrev pub Kept : Store → Worked → Type 0
Kept s (Fine r) = (r.1.classes ≡ s.classes) × (HoldsMade s → HoldsMade r.1)
Kept s (Trap kind) = Unit {0}
Kept s Wrong = Unit {0}

module _ (s : Store) where
  kept_found : {A : Type 0} (o : Option A) (go : A → Worked) → ((a : A) → o ≡ Some a → Kept s (go a)) → Kept s (on_some o go)
  kept_found None go h = tt
  kept_found (Some a) go h = h a refl

  kept_some : {A : Type 0} (o : Option A) (go : A → Worked) → ((a : A) → Kept s (go a)) → Kept s (on_some o go)
  kept_some o go h = kept_found o go (λ a e. h a)

  kept_thing : (heap : List Thing) (r : Value) (go : ℕ → Thing → Worked) → ((o : ℕ) (thing : Thing) → slice_get heap o ≡ Some thing → Kept s (go o thing)) → Kept s (on_thing heap r go)
  kept_thing heap (Ref o) go h = kept_found (slice_get heap o) (go o) (h o)
  kept_thing heap Null go h = tt
  kept_thing heap (Int n) go h = tt
  kept_thing heap (Long n) go h = tt
  kept_thing heap (Text t) go h = tt

  kept_where : (b : Bool) (go : Worked) → (b ≡ true → Kept s go) → Kept s (where_true b go)
  kept_where true go h = h refl
  kept_where false go h = tt

  kept_true : (b : Bool) (go : Worked) → Kept s go → Kept s (where_true b go)
  kept_true b go h = kept_where b go (λ e. h)

  kept_int : (v : Value) (go : ℤ → Worked) → ((n : ℤ) → Kept s (go n)) → Kept s (on_int go v)
  kept_int (Int n) go h = h n
  kept_int (Long n) go h = tt
  kept_int Null go h = tt
  kept_int (Ref o) go h = tt
  kept_int (Text t) go h = tt

  kept_with : {A : Type 0} (r : Outcome A) (go : A → Worked) → ((a : A) → Kept s (go a)) → Kept s (then_with r go)
  kept_with (Fine a) go h = h a
  kept_with (Trap kind) go h = tt
  kept_with Wrong go h = tt

  kept_array : (kind : ElementKind) (thing : Thing) (go : Element → List Value → Worked) → ((e : Element) (vs : List Value) → Kept s (go e vs)) → Kept s (on_array kind thing go)
  kept_array kind (Object class fields) go h = tt
  kept_array kind (Array element values) go h = kept_true (is_element kind element) (go element values) (h element values)

  kept_inside : (o : Option Value) (go : Value → Worked) → ((v : Value) → Kept s (go v)) → Kept s (or_outside o go)
  kept_inside None go h = tt
  kept_inside (Some v) go h = h v

  kept_index : (vs : List Value) (i : ℤ) (go : ℕ → Value → Worked) → ((n : ℕ) (v : Value) → Kept s (go n v)) → Kept s (at_index vs i go)
  kept_index vs (pos i) go h = kept_inside (slice_get vs i) (go i) (h i)
  kept_index vs (negsuc i) go h = tt

  -- nothing is changed
  same : (v : Value) → Kept s (answers s v)
  same v = (refl, λ m. m)

  kept_made : (e : Element) (n : ℤ) → Kept s (array_made s e n)
  kept_made e (pos n) = (refl, λ m. more_made s.classes s.heap _ tt m)
  kept_made e (negsuc n) = tt

  kept_size : (thing : Thing) → Kept s (size_of s thing)
  kept_size (Object class fields) = tt
  kept_size (Array element values) = (refl, λ m. m)

  kept_cast : (v : Value) (b : Bool) → Kept s (cast_by s v b)
  kept_cast v true = same v
  kept_cast v false = tt

pub work_keeps : (op : Op) (s : Store) → Kept s (work op s)
work_keeps (GetField r key) s = kept_some s (field_of false s.classes key) _ (λ f. kept_thing s s.heap r _ (λ o thing e. kept_some s (field_in s.classes f thing) _ (λ v. same s v)))
work_keeps (PutField r key v) s =
    kept_some s (field_of false s.classes key) _ (λ f. kept_true s (is_kind f.kind v) _ (kept_thing s s.heap r _ (λ o thing e. kept_found s (with_field s.classes f v thing) _ (λ t x.
    (refl, λ m. set_made s.classes s.heap o t (field_made s.classes f v thing t x (get_made s.classes s.heap o thing e m)) m)))))
work_keeps (GetStatic key) s = kept_some s (field_of true s.classes key) _ (λ f. kept_some s (static_in s.statics f) _ (λ v. same s v))
work_keeps (PutStatic key v) s = kept_some s (field_of true s.classes key) _ (λ f. kept_true s (is_kind f.kind v) _ (kept_some s (with_static s.statics f v) _ (λ t. (refl, λ m. m))))
work_keeps (MakeObject name) s = kept_some s (class_at s.classes name) _ (λ class. kept_where s (is_concrete s.classes class) _ (λ e. (refl, λ m. more_made s.classes s.heap _ e m)))
work_keeps (MakeArray named size) s = kept_some s (element_of s.classes named) _ (λ e. kept_int s size _ (kept_made s e))
work_keeps (GetElem kind r index) s = kept_int s index _ (λ i. kept_thing s s.heap r _ (λ o thing x. kept_array s kind thing _ (λ e vs. kept_index s vs i _ (λ n v. same s v))))
work_keeps (PutElem kind r index v) s =
    kept_int s index _ (λ i. kept_true s (can_store kind v) _ (kept_thing s s.heap r _ (λ o thing x. kept_array s kind thing _ (λ e vs.
    kept_index s vs i _ (λ n old. kept_with s (fits_element s e v) _ (λ b. kept_true s b _ (refl, λ m. set_made s.classes s.heap o _ tt m)))))))
work_keeps (Length r) s = kept_thing s s.heap r _ (λ o thing x. kept_size s thing)
work_keeps (InstanceOf r name) s = kept_some s (class_at s.classes name) _ (λ up. kept_with s (instance_truth s up r) _ (λ v. same s v))
work_keeps (Cast r name) s = kept_some s (class_at s.classes name) _ (λ up. kept_with s (is_null_or (is_instance s.classes up) s.heap r) _ (λ b. kept_cast s r b))

-- a run that came to a value keeps the classes, has made no object of an abstract class, and spent ticks; one that ended
-- didn't end as `main` does
abbrev pub Keeps : {A : Type 0} → World → Run A → Type 0
Keeps w (Came a u) = (u.store.classes ≡ w.store.classes) × (u.ticks ≤ w.ticks) × (HoldsMade w.store → HoldsMade u.store)
Keeps w (Ended Done u) = ⊥
Keeps w (Ended (Trapped kind) u) = Unit {0}
Keeps w (Ended NoBody u) = Unit {0}
Keeps w (Ended TwoBodies u) = Unit {0}
Keeps w (Ended IsStuck u) = Unit {0}
Keeps w (Ended More u) = Unit {0}

keeps_from : {A : Type 0} (w v : World) → v.store.classes ≡ w.store.classes → v.ticks ≤ w.ticks → (HoldsMade w.store → HoldsMade v.store) → (r : Run A) → Keeps v r → Keeps w r
keeps_from w v e le f (Came a u) h = (h.0 ∙ e, omega (arith, le, h.1), λ m. h.2 (f m))
keeps_from w v e le f (Ended Done u) h = h
keeps_from w v e le f (Ended (Trapped kind) u) h = tt
keeps_from w v e le f (Ended NoBody u) h = tt
keeps_from w v e le f (Ended TwoBodies u) h = tt
keeps_from w v e le f (Ended IsStuck u) h = tt
keeps_from w v e le f (Ended More u) h = tt

after_keeps : {A B : Type 0} (w : World) (r : Run A) (go : A → World → Run B) → Keeps w r → ((a : A) (v : World) → Keeps v (go a v)) → Keeps w (after r go)
after_keeps w (Came a v) go h k = keeps_from w v h.0 h.1 h.2 (go a v) (k a v)
after_keeps w (Ended Done v) go h k = h
after_keeps w (Ended (Trapped kind) v) go h k = tt
after_keeps w (Ended NoBody v) go h k = tt
after_keeps w (Ended TwoBodies v) go h k = tt
after_keeps w (Ended IsStuck v) go h k = tt
after_keeps w (Ended More v) go h k = tt

spend_keeps : {A : Type 0} (w : World) (t : ℕ) → w.ticks ≡ t → (go : World → Run A) → ((v : World) → Keeps v (go v)) → Keeps w (spend w t go)
spend_keeps w zero e go h = tt
spend_keeps w (suc t) e go h = keeps_from w (record w { ticks = t }) refl (omega (arith, e)) (λ m. m) (go (record w { ticks = t })) (h (record w { ticks = t }))

worked_keeps : {A : Type 0} (w : World) (r : Worked) → Kept w.store r → (go : Value → World → Run A) → ((v : Value) (u : World) → Keeps u (go v u)) → Keeps w (worked w r go)
worked_keeps w (Fine r) e go h = keeps_from w (record w { store = r.1 }) e.0 (omega arith) e.1 (go r.0 (record w { store = r.1 })) (h r.0 (record w { store = r.1 }))
worked_keeps w (Trap kind) e go h = tt
worked_keeps w Wrong e go h = tt

pub play_keeps : {A : Type 0} (call : Call → World → Run Value) → ((c : Call) (w : World) → Keeps w (call c w)) → (d : Does A) (w : World) → Keeps w (play call d w)
play_keeps call h (Gives a) w = (refl, omega arith, λ m. m)
play_keeps call h (Traps kind) w = tt
play_keeps call h (Ticks d) w = spend_keeps w w.ticks refl (play call d) (play_keeps call h d)
play_keeps call h (Prints n d) w = keeps_from w (write (signed_decimal n) w) refl (omega arith) (λ m. m) _ (play_keeps call h d (write (signed_decimal n) w))
play_keeps call h (Shows text d) w = keeps_from w (write text w) refl (omega arith) (λ m. m) _ (play_keeps call h d (write text w))
play_keeps call h (Reads d) w = keeps_from w (record w { input = rest_of w.input }) refl (omega arith) (λ m. m) _ (play_keeps call h (d (first_of w.input)) (record w { input = rest_of w.input }))
play_keeps call h (Works op d) w = worked_keeps w (work op w.store) (work_keeps op w.store) (λ v. play call (d v)) (λ v. play_keeps call h (d v))
play_keeps call h (Calls c d) w = after_keeps w (call c w) _ (h c w) (λ v. play_keeps call h (d v))
play_keeps call h Limit w = tt
play_keeps call h Stuck w = tt

there_keeps : {A B : Type 0} (o : Option A) (w : World) (go : A → Run B) → ((a : A) → Keeps w (go a)) → Keeps w (there o w go)
there_keeps None w go h = tt
there_keeps (Some a) w go h = h a

chosen_keeps : {A : Type 0} (chain : List Candidate) (c : Choice) (w : World) (go : Candidate → Run A) → ((b : Candidate) → Keeps w (go b)) → Keeps w (chosen chain c w go)
chosen_keeps chain (Selects i) w go h = there_keeps (slice_get chain i) w go h
chosen_keeps chain NoneIsTrue w go h = tt
chosen_keeps chain NoneIsBest w go h = tt

cond_keeps : (b : Bool) (w : World) (go : Run Value) → Keeps w go → Keeps w (cond b go (Ended IsStuck w))
cond_keeps true w go h = h
cond_keeps false w go h = tt

module _ (p : Program) (n : ℕ) (call : Call → World → Run Value) (keeps : (c : Call) (w : World) → Keeps w (call c w)) where
  pub member_keeps : (m : Placed) (vs : List Value) (w : World) → Keeps w (member_run p n call m vs w)
  member_keeps m vs w = spend_keeps w w.ticks refl _ (play_keeps call keeps (placed_does p (suc n) m vs))

  select_keeps : (chain : List Candidate) (vs : List Value) (w : World) → Keeps w (select_in p (member_run p n call) call chain vs w)
  select_keeps chain vs w = there_keeps (selected p chain vs w.store) w _ (λ choice. chosen_keeps chain choice w _ (λ c.
      after_keeps w (member_run p n call (placed c) vs w) _ (member_keeps (placed c) vs w) (λ v. play_keeps call keeps (fit (kind_of_type c.method.result) v))))

  call_keeps : (x : Target) (vs : List Value) (w : World) → Keeps w (call_by p (member_run p n call) call x vs w)
  call_keeps (StaticMethod m) vs w = there_keeps (static_named p.classes m) w _ (λ placed. member_keeps placed vs w)
  call_keeps (Constructor m) vs w = there_keeps (constructor_named p.classes m) w _ (λ placed. member_keeps placed vs w)
  call_keeps (OfClass m) vs w = cond_keeps (has_family p.classes m) w _ (there_keeps (receiver_class w.store vs) w _ (λ class. select_keeps (chain_of p.classes m class) vs w))
  call_keeps (OfInterface m) vs w = cond_keeps (has_family p.classes m) w _ (there_keeps (receiver_class w.store vs) w _ (λ class. select_keeps (chain_of p.classes m class) vs w))
  call_keeps (OfSuperclass m) vs w = cond_keeps (has_family p.classes m) w _ (select_keeps (chain_of p.classes m (word_of m.class)) vs w)

pub calls_keep : (p : Program) (n : ℕ) (c : Call) (w : World) → Keeps w (calls p n c w)
calls_keep p zero c w = tt
calls_keep p (suc n) c w = call_keeps p n (calls p n) (calls_keep p n) c.target c.args w

-- what is known of the value to which a run came
abbrev pub OnCame : {A : Type 0} → (A → Type 0) → Run A → Type 0
OnCame P (Came a u) = P a
OnCame P (Ended e u) = Unit {0}

-- what a method with such a result returns: a value of its kind, or null
abbrev pub IsResult : Option Kind → Value → Type 0
IsResult None v = v ≡ Null
IsResult (Some kind) v = is_kind kind v ≡ true

module _ {A B : Type 0} (P : B → Type 0) (call : Call → World → Run Value) (go : A → Does B) (h : (a : A) (u : World) → OnCame P (play call (go a) u)) where
  came_spend : (w : World) (t : ℕ) (k : World → Run B) → ((v : World) → OnCame P (k v)) → OnCame P (spend w t k)
  came_spend w zero k f = tt
  came_spend w (suc t) k f = f (record w { ticks = t })

  came_work : (w : World) (r : Worked) (k : Value → World → Run B) → ((v : Value) (u : World) → OnCame P (k v u)) → OnCame P (worked w r k)
  came_work w (Fine r) k f = f r.0 (record w { store = r.1 })
  came_work w (Trap kind) k f = tt
  came_work w Wrong k f = tt

  came_after : (r : Run Value) (k : Value → World → Run B) → ((v : Value) (u : World) → OnCame P (k v u)) → OnCame P (after r k)
  came_after (Came v u) k f = f v u
  came_after (Ended e u) k f = tt

  pub came_then : (d : Does A) (w : World) → OnCame P (play call (then_do d go) w)
  came_then (Gives a) w = h a w
  came_then (Traps kind) w = tt
  came_then (Ticks d) w = came_spend w w.ticks (play call (then_do d go)) (came_then d)
  came_then (Prints n d) w = came_then d (write (signed_decimal n) w)
  came_then (Shows text d) w = came_then d (write text w)
  came_then (Reads d) w = came_then (d (first_of w.input)) (record w { input = rest_of w.input })
  came_then (Works op d) w = came_work w (work op w.store) (λ v. play call (then_do (d v) go)) (λ v. came_then (d v))
  came_then (Calls c d) w = came_after (call c w) (λ v. play call (then_do (d v) go)) (λ v. came_then (d v))
  came_then Limit w = tt
  came_then Stuck w = tt

module _ (call : Call → World → Run Value) where
  came_fits : (kind : Kind) (v : Value) (w : World) → OnCame (λ u. is_kind kind u ≡ true) (play call (fits kind v) w)
  came_fits kind v w = by_kind (is_kind kind v) refl where
    by_kind : (b : Bool) → is_kind kind v ≡ b → OnCame (λ u. is_kind kind u ≡ true) (play call (do_of (where_true b (Fine v)) Gives) w)
    by_kind true e = e
    by_kind false e = tt

  came_leaves : (o : Option Kind) (x : Option Value) (w : World) → OnCame (IsResult o) (play call (leaves o x) w)
  came_leaves None None w = refl
  came_leaves None (Some v) w = tt
  came_leaves (Some kind) None w = tt
  came_leaves (Some kind) (Some v) w = came_fits kind v w

  came_returned : (o : Option Kind) (l : Left) (w : World) → OnCame (IsResult o) (play call (returned o l) w)
  came_returned o (Goes env) w = came_leaves o None w
  came_returned o (Breaks env) w = tt
  came_returned o (Continues env) w = tt
  came_returned o (Returned v) w = came_leaves o v w

  pub method_result : (hier : Hier) (head : Iface) (m : TypedMember) (at n : ℕ) (vs : List Value) (w : World) (method : IfaceMethod) → slice_get head.methods at ≡ Some method →
      OnCame (IsResult (kind_of_type method.result)) (play call (part_does hier head m (part.Method at) n vs) w)
  method_result hier head m at n vs w method e =
      subst (λ (x : Option IfaceMethod). OnCame (IsResult k) (play call (found x body) w)) (sym e)
      (came_then (IsResult k) call (statements method) (λ more u. came_then (IsResult k) call (returned k) (came_returned k) (block_does m.block n (locals_of m (vs ++ more))) u) (read_aliases hier method.aliases vs) w) where
        k : Option Kind
        k = kind_of_type method.result

        statements : IfaceMethod → List Value → Does Value
        statements q more = statements_do (kind_of_type q.result) m n (locals_of m (vs ++ more))

        body : IfaceMethod → Does Value
        body q = then_do (read_aliases hier q.aliases vs) (statements q)
