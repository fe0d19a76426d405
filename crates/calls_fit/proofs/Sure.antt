-- What is sure of an evaluation in a world: what it calls is given what it is declared with, and where it comes to a value,
-- so and so holds of the value and the world.
use Rattle.std.proofs.Common.{◌≡◌, ℕ, zero, suc, Bool, true, false, List, [], ◌∷◌, Option, Some, None, refl, sym, ap, ◌∙◌, subst}
use Rattle.std.specs.Prelude.{option_and_then, slice_get, cond, is_some, unwrap_or, length, get_or, ◌<◌, ◌++◌, if◌then◌else◌}
use Rattle.std.specs.Option.{option_map_or}
use Rattle.std.specs.Str.{bytes_eq}
use Rattle.std.proofs.lemmas.Bool.{false≢true}
use Rattle.std.proofs.lemmas.Option.{slice_get-get_or}
use Rattle.std.proofs.lemmas.List.Quantifiers.{position-Some}
use Rattle.std.proofs.lemmas.Slice.Eq.{bytes_eq-Decides}
use Rattle.std.specs.Fmt.{signed_decimal}
use Rattle.jp_pred.specs.declared.ty.Ty.{Ty}
use Rattle.jp_pred.specs.Names.{Word, object}
use Rattle.iface_codec.specs.declared.iface.Iface.{Iface}
use Rattle.jp_store.specs.declared.value.Value.{Value}
use Rattle.jp_store.specs.declared.value.Value.TheVariants.{Ref}
use Rattle.jp_store.specs.declared.value.ClassAt.{ClassAt}
use Rattle.jp_store.specs.declared.value.ClassAt.TheVariants.{Root, Listed}
use Rattle.jp_store.specs.declared.heap.Thing.{Thing}
use Rattle.jp_store.specs.declared.heap.Thing.TheVariants.{Object}
use Rattle.jp_store.specs.declared.value.Kind.{Kind}
use Rattle.jp_store.specs.declared.value.Kind.TheVariants.{Reference}
use Rattle.jp_store.specs.declared.outcome.Outcome.{Outcome}
use Rattle.jp_store.specs.declared.outcome.Outcome.TheVariants.{Fine, Trap, Wrong}
use Rattle.jp_store.specs.Arith.{is_kind}
use Rattle.jp_store.specs.Classes.{Class, object_name, place_of, class_at, first_values}
use Rattle.jp_store.specs.Store.{Store}
use Rattle.jp_store.specs.Outcome.{on_some}
use Rattle.jp_store.specs.Work.{Op, MakeObject, Worked, where_true, made, is_concrete, work}
use Rattle.jp_does.specs.OpenTrace.{first_of, rest_of}
use Rattle.jp_does.specs.Does.{Gives, Traps, Ticks, Prints, Shows, Reads, Works, Calls, Limit, Stuck, then_do, do_of, found}
use Rattle.jp_meaning.specs.Does.{Call, Does}
use Rattle.jp_meaning.specs.Descriptors.{word_of, kind_of_type}
use Rattle.jp_meaning.specs.Expressions.{Locals, of_kind, fits, typed, fit, where_so, truth_of, by_truth, local_value}
use Rattle.jp_meaning.specs.Run.{World, Came, Program, class_of_thing, class_of_value, write, calls}
use Rattle.whole_program.specs.Fits.{Fits, on_tick, on_work, CallsFit}
use Rattle.calls_fit.proofs.Grows.{IsKeptIn, Leaves, work_leaves, more_kept, Grows, calls_grow}

abbrev pub Sure : {A : Type 0} → Program → ℕ → Iface → Does A → World → (A → World → Type 0) → Type 0
Sure p n head (Gives a) w I = I a w
Sure p n head (Traps kind) w I = Unit {0}
Sure p n head (Ticks d) w I = on_tick w w.ticks (λ u. Sure p n head d u I)
Sure p n head (Prints k d) w I = Sure p n head d (write (signed_decimal k) w) I
Sure p n head (Shows text d) w I = Sure p n head d (write text w) I
Sure p n head (Reads d) w I = Sure p n head (d (first_of w.input)) (record w { input = rest_of w.input }) I
Sure p n head (Works op d) w I = on_work w (work op w.store) (λ v u. Sure p n head (d v) u I)
Sure p n head (Calls c d) w I = Fits p head c w.store × ((v : Value) (u : World) → calls p n c w ≡ Came v u → Sure p n head (d v) u I)
Sure p n head Limit w I = Unit {0}
Sure p n head Stuck w I = Unit {0}

-- what is known of the classes of some objects
abbrev pub Known : List (Value × Word) → World → Type 0
Known [] w = Unit {0}
Known (k ∷ ks) w = (class_of_value w.store k.0 ≡ Some k.1) × Known ks w

-- the receiver, if there is one, is an object of its class, and so are others
abbrev pub Here : Bool → Value → Word → List (Value × Word) → World → Type 0
Here receiver this own ks w = (receiver ≡ true → class_of_value w.store this ≡ Some own) × Known ks w

-- the first local holds the receiver, if there is one
abbrev pub Holds : Bool → Value → Locals → Type 0
Holds receiver this env = receiver ≡ true → slice_get env 0 ≡ Some (Some this)

known_kept : (ks : List (Value × Word)) (w u : World) → IsKeptIn w.store u.store → Known ks w → Known ks u
known_kept [] w u e h = tt
known_kept (k ∷ ks) w u e h = (e k.0 k.1 h.0, known_kept ks w u e h.1)

pub here_kept : (receiver : Bool) (this : Value) (own : Word) (ks : List (Value × Word)) (w u : World) → IsKeptIn w.store u.store → Here receiver this own ks w → Here receiver this own ks u
here_kept receiver this own ks w u e h = (λ r. e this own (h.0 r), known_kept ks w u e h.1)

get_last : (things : List Thing) (thing : Thing) → slice_get (things ++ thing ∷ []) (length things) ≡ Some thing
get_last [] thing = refl
get_last (t ∷ ts) thing = get_last ts thing

-- an object of the class of a name
made_class : (s : Store) (name : List ℕ) (class : ClassAt) (fields : List Value) → class_at s.classes name ≡ Some class → class_of_thing s (Object class fields) ≡ Some (word_of name)
made_class s name class fields e = by_place (place_of s.classes name) refl e where
  by_root : (b : Bool) → bytes_eq name object_name ≡ b → (if b then Some Root else None) ≡ Some class → class_of_thing s (Object class fields) ≡ Some (word_of name)
  by_root true h e = ap (λ (c : ClassAt). class_of_thing s (Object c fields)) (sym (class_is Root class e)) ∙ ap (λ (b : Bool). Some (if b then object else name)) (sym h) where
    class_is : (x y : ClassAt) → Some x ≡ Some y → x ≡ y
    class_is x y e = ap (λ (o : Option ClassAt). unwrap_or o x) e
  by_root false h e = absurd (false≢true (ap is_some e))

  by_place : (o : Option ℕ) → place_of s.classes name ≡ o → option_map_or (λ at. Some (Listed at)) o (if bytes_eq name object_name then Some Root else None) ≡ Some class → class_of_thing s (Object class fields) ≡ Some (word_of name)
  by_place None h e = by_root (bytes_eq name object_name) refl e
  by_place (Some at) h e =
      ap (λ (c : ClassAt). class_of_thing s (Object c fields)) (sym (ap (λ (o : Option ClassAt). unwrap_or o (Listed at)) e))
      ∙ ap Some (ap (λ (o : Option Class). option_map_or (λ c. word_of c.name) o object) (slice_get-get_or s.classes at blank q.0)
      ∙ ap word_of ((bytes_eq-Decides (get_or s.classes at blank).name name).0 q.1)) where
        blank : Class
        blank = record { name = []; superclass = None; interfaces = []; is_interface = false; is_abstract = false; fields = [] }

        q : (at < length s.classes) × (bytes_eq (get_or s.classes at blank).name name ≡ true) × ((k : ℕ) → k < at → bytes_eq (get_or s.classes k blank).name name ≡ false)
        q = position-Some (λ (c : Class). bytes_eq c.name name) s.classes at blank h

tick_map : (w : World) (t : ℕ) (F G : World → Type 0) → on_tick w t F → ((u : World) → F u → G u) → on_tick w t G
tick_map w zero F G h k = tt
tick_map w (suc t) F G h k = k (record w { ticks = t }) h

work_map : (w : World) (r : Worked) (F G : Value → World → Type 0) → on_work w r F → ((v : Value) (u : World) → F v u → G v u) → on_work w r G
work_map w (Fine r) F G h k = k r.0 (record w { store = r.1 }) h
work_map w (Trap kind) F G h k = tt
work_map w Wrong F G h k = tt

module _ (p : Program) (n : ℕ) (head : Iface) where
  pub then_sure : {A B : Type 0} (d : Does A) (go : A → Does B) (w : World) (I : A → World → Type 0) (J : B → World → Type 0) →
      Sure p n head d w I → ((a : A) (u : World) → I a u → Sure p n head (go a) u J) → Sure p n head (then_do d go) w J
  then_sure (Gives a) go w I J h k = k a w h
  then_sure (Traps kind) go w I J h k = tt
  then_sure (Ticks d) go w I J h k = tick_map w w.ticks _ _ h (λ u x. then_sure d go u I J x k)
  then_sure (Prints m d) go w I J h k = then_sure d go (write (signed_decimal m) w) I J h k
  then_sure (Shows text d) go w I J h k = then_sure d go (write text w) I J h k
  then_sure (Reads d) go w I J h k = then_sure (d (first_of w.input)) go (record w { input = rest_of w.input }) I J h k
  then_sure (Works op d) go w I J h k = work_map w (work op w.store) _ _ h (λ v u x. then_sure (d v) go u I J x k)
  then_sure (Calls c d) go w I J h k = (h.0, λ v u e. then_sure (d v) go u I J (h.1 v u e) k)
  then_sure Limit go w I J h k = tt
  then_sure Stuck go w I J h k = tt

  pub sure_fits : {A : Type 0} (d : Does A) (w : World) (I : A → World → Type 0) → Sure p n head d w I → CallsFit p n head d w
  sure_fits (Gives a) w I h = tt
  sure_fits (Traps kind) w I h = tt
  sure_fits (Ticks d) w I h = tick_map w w.ticks _ _ h (λ u x. sure_fits d u I x)
  sure_fits (Prints m d) w I h = sure_fits d (write (signed_decimal m) w) I h
  sure_fits (Shows text d) w I h = sure_fits d (write text w) I h
  sure_fits (Reads d) w I h = sure_fits (d (first_of w.input)) (record w { input = rest_of w.input }) I h
  sure_fits (Works op d) w I h = work_map w (work op w.store) _ _ h (λ v u x. sure_fits (d v) u I x)
  sure_fits (Calls c d) w I h = (h.0, λ v u e. sure_fits (d v) u I (h.1 v u e))
  sure_fits Limit w I h = tt
  sure_fits Stuck w I h = tt

  pub do_sure : {A B : Type 0} (r : Outcome A) (go : A → Does B) (w : World) (J : B → World → Type 0) → ((a : A) → Sure p n head (go a) w J) → Sure p n head (do_of r go) w J
  do_sure (Fine a) go w J h = h a
  do_sure (Trap k) go w J h = tt
  do_sure Wrong go w J h = tt

  pub found_sure : {A B : Type 0} (o : Option A) (go : A → Does B) (w : World) (J : B → World → Type 0) → ((a : A) → o ≡ Some a → Sure p n head (go a) w J) → Sure p n head (found o go) w J
  found_sure None go w J h = tt
  found_sure (Some a) go w J h = h a refl

  pub so_sure : {A : Type 0} (b : Bool) (d : Does A) (w : World) (J : A → World → Type 0) → (b ≡ true → Sure p n head d w J) → Sure p n head (where_so b d) w J
  so_sure true d w J h = h refl
  so_sure false d w J h = tt

  pub cond_sure : {A : Type 0} (b : Bool) (d e : Does A) (w : World) (J : A → World → Type 0) → Sure p n head d w J → Sure p n head e w J → Sure p n head (cond b d e) w J
  cond_sure true d e w J h k = h
  cond_sure false d e w J h k = k

  -- a value of a kind is the value that it was
  pub kind_sure : {B : Type 0} (kind : Kind) (v : Value) (go : Value → Does B) (w : World) (J : B → World → Type 0) → (is_kind kind v ≡ true → Sure p n head (go v) w J) → Sure p n head (do_of (of_kind kind v) go) w J
  kind_sure kind v go w J h = by_kind (is_kind kind v) refl where
    by_kind : (b : Bool) → is_kind kind v ≡ b → Sure p n head (do_of (where_true b (Fine v)) go) w J
    by_kind true e = h e
    by_kind false e = tt

  pub fits_sure : (kind : Kind) (v : Value) (w : World) (J : Value → World → Type 0) → (is_kind kind v ≡ true → J v w) → Sure p n head (fits kind v) w J
  fits_sure kind v w J h = kind_sure kind v Gives w J h

  pub typed_sure : (t : Ty) (v : Value) (w : World) (J : Value → World → Type 0) → J v w → Sure p n head (typed t v) w J
  typed_sure t v w J h = found_sure (kind_of_type t) (λ kind. fits kind v) w J (λ kind e. fits_sure kind v w J (λ x. h))

  pub fit_sure : (o : Option Kind) (v : Value) (w : World) (J : World → Type 0) → J w → Sure p n head (fit o v) w (λ v u. J u)
  fit_sure None v w J h = h
  fit_sure (Some kind) v w J h = fits_sure kind v w (λ v u. J u) (λ x. h)

  pub by_sure : {A : Type 0} (t : Does Value) (a b : Does A) (w : World) (I : World → Type 0) (J : A → World → Type 0) → Sure p n head t w (λ v u. I u) → ((u : World) → I u → Sure p n head a u J) → ((u : World) → I u → Sure p n head b u J) → Sure p n head (by_truth t a b) w J
  by_sure t a b w I J h k l = then_sure t (λ v. do_of (truth_of v) (λ x. cond x a b)) w (λ v u. I u) J h (λ v u i. do_sure (truth_of v) (λ x. cond x a b) u J (λ x. cond_sure x a b u J (k u i) (l u i)))

  module _ (receiver : Bool) (this : Value) (own : Word) where
    pub work_sure : {B : Type 0} (ks : List (Value × Word)) (op : Op) (go : Value → Does B) (w : World) (J : B → World → Type 0) → Here receiver this own ks w → ((v : Value) (u : World) → Here receiver this own ks u → Sure p n head (go v) u J) → Sure p n head (Works op go) w J
    work_sure ks op go w J i h = by_work (work op w.store) (work_leaves op w.store) where
      by_work : (r : Worked) → Leaves w.store r → on_work w r (λ v u. Sure p n head (go v) u J)
      by_work (Fine r) e = h r.0 (record w { store = r.1 }) (here_kept receiver this own ks w (record w { store = r.1 }) e i)
      by_work (Trap kind) e = tt
      by_work Wrong e = tt

    -- a new object is of its class
    pub make_sure : {B : Type 0} (ks : List (Value × Word)) (name : List ℕ) (go : Value → Does B) (w : World) (J : B → World → Type 0) → Here receiver this own ks w → ((k : ℕ) (u : World) → Here receiver this own ((Ref k, word_of name) ∷ ks) u → Sure p n head (go (Ref k)) u J) → Sure p n head (Works (MakeObject name) go) w J
    make_sure ks name go w J i h = by_class (class_at w.store.classes name) refl where
      by_concrete : (class : ClassAt) (b : Bool) → class_at w.store.classes name ≡ Some class → on_work w (where_true b (made w.store (Object class (first_values w.store.classes class)))) (λ v u. Sure p n head (go v) u J)
      by_concrete class true e =
          let thing = Object class (first_values w.store.classes class) in
          let u = record w { store = record w.store { heap = w.store.heap ++ thing ∷ [] } } in
          let kept = here_kept receiver this own ks w u (more_kept w.store thing) i in
          h (length w.store.heap) u (kept.0, (ap (λ (o : Option Thing). option_and_then (class_of_thing w.store) o) (get_last w.store.heap thing) ∙ made_class w.store name class (first_values w.store.classes class) e, kept.1))
      by_concrete class false e = tt

      by_class : (o : Option ClassAt) → class_at w.store.classes name ≡ o → on_work w (on_some o (λ class. where_true (is_concrete w.store.classes class) (made w.store (Object class (first_values w.store.classes class))))) (λ v u. Sure p n head (go v) u J)
      by_class None e = tt
      by_class (Some class) e = by_concrete class (is_concrete w.store.classes class) e

    pub tick_sure : {B : Type 0} (ks : List (Value × Word)) (d : Does B) (w : World) (J : B → World → Type 0) → Here receiver this own ks w → ((u : World) → Here receiver this own ks u → Sure p n head d u J) → Sure p n head (Ticks d) w J
    tick_sure ks d w J i h = by_ticks w.ticks where
      by_ticks : (t : ℕ) → on_tick w t (λ u. Sure p n head d u J)
      by_ticks zero = tt
      by_ticks (suc t) = h (record w { ticks = t }) (here_kept receiver this own ks w (record w { ticks = t }) (λ v o e. e) i)

    pub call_sure : {B : Type 0} (ks : List (Value × Word)) (c : Call) (go : Value → Does B) (w : World) (J : B → World → Type 0) → Here receiver this own ks w → Fits p head c w.store → ((v : Value) (u : World) → Here receiver this own ks u → Sure p n head (go v) u J) → Sure p n head (Calls c go) w J
    call_sure ks c go w J i given h = (given, λ v u e. h v u (here_kept receiver this own ks w u (subst (Grows w) e (calls_grow p n c w)) i))

    pub local_sure : (ks : List (Value × Word)) (slot : ℕ) (kind : Kind) (env : Locals) (w : World) → Here receiver this own ks w → Sure p n head (local_value slot kind env) w (λ v u. Here receiver this own ks u)
    local_sure ks slot kind env w i = found_sure (option_and_then (λ v. v) (slice_get env slot)) (fits kind) w (λ v u. Here receiver this own ks u) (λ v e. fits_sure kind v w (λ v u. Here receiver this own ks u) (λ x. i))

    -- what is read of the first local is the receiver
    pub this_sure : (env : Locals) (w : World) (J : Value → World → Type 0) → receiver ≡ true → Holds receiver this env → J this w → Sure p n head (local_value 0 Reference env) w J
    this_sure env w J r held h =
        subst (λ (o : Option (Option Value)). Sure p n head (found (option_and_then (λ v. v) o) (fits Reference)) w J) (sym (held r)) (fits_sure Reference this w J (λ x. h))
