-- The code of calls does what they mean.
use Rattle.std.proofs.Common.{◌≡◌, ℕ, ◌+◌, ◌-◌, ◌≤◌, List, [], ◌∷◌, ◌++◌, length, Option, Some, None, refl, ap, ◌∙◌, arith, length-append}
use Rattle.std.specs.Prelude.{pos, Bool, true, false, ◌||◌, cond, max, nat_eq, is_some, option_and_then, if◌then◌else◌}
use Rattle.std.specs.List.{filter_map}
use Rattle.std.proofs.lemmas.Bool.{false≢true}
use Rattle.class_form.proofs.Facts.{both}
use Rattle.jp_pred.specs.declared.ty.Ty.{Ty}
use Rattle.jp_pred.specs.declared.ty.Ty.TheVariants as ty
use Rattle.jp_store.specs.declared.value.Value.{Value}
use Rattle.jp_store.specs.declared.value.Value.TheVariants.{Int, Long, Null, Ref, Text}
use Rattle.jp_store.specs.declared.value.Kind.{Kind}
use Rattle.jp_store.specs.declared.value.Kind.TheVariants.{Number, Reference}
use Rattle.jp_store.specs.declared.value.TrapKind.TheVariants.{NullReference}
use Rattle.jp_store.specs.Arith.{is_kind}
use Rattle.jp_store.specs.Classes.{Key}
use Rattle.jp_does.specs.Does.{Calls, then_do}
use Rattle.jp_meaning.specs.Does as source
use Rattle.jp_meaning.specs.Does.{Does, Method, calls_on}
use Rattle.jp_meaning.specs.Descriptors.{kind_of_type}
use Rattle.jp_meaning.specs.Expressions.{Locals, fit, are_of, where_so}
use Rattle.jvm_table.specs.declared.frame.Frame.{Frame}
use Rattle.jvm_table.specs.declared.instr.Instr.TheVariants.{OnConstant, InvokeInterface}
use Rattle.jvm_table.specs.declared.instr.ConstantUse.TheVariants.{InvokeVirtual, InvokeStatic}
use Rattle.jvm_table.specs.Descriptors.{Signature, signature_of, places_of}
use Rattle.jvm_table.specs.Act.{Act, Asks, Invokes, StaticMethod, VirtualMethod, answered, popped, on_found, on_pop, on_receiver, args_taken, invoked, calls, calls_virtual, calls_interface, calls_static, shows_int, shows_text, has_room, is_print, is_text, is_read, is_object_init, where_so as where_row}
use Rattle.code_trace.specs.Calls.{key_of_method, call_in}
use Rattle.code_trace.specs.Follows.{Onward}
use Rattle.code_asm.specs.Items.{Item, Uses}
use Rattle.gen_body.specs.Codes.{called, signature_for, named, virtual_call}
use Rattle.gen_body.proofs.Values.{IsShortIf, types_short, neither}
use Rattle.gen_body.proofs.Going.{Setting, run, at, Standing, parted, Here, Held, Going, lost, from_here, seq, stop, fails, calls_on as calling}
use Rattle.gen_body.proofs.Blocks.{all_on, Room, at_row, IsAt, IsVoid, Runs, answer_on, plain_runs, void_runs}

-- arguments from the stack
one_taken : (kind : Kind) (kinds : List Kind) (v : Value) (vs st : List Value) (g h i : Frame) → is_kind kind v ≡ true → args_taken kinds g ≡ Some (vs, h) → popped h.stack.values h ≡ Some (v, i) → args_taken (kind ∷ kinds) g ≡ Some (v ∷ vs, i)
one_taken kind kinds v vs st g h i e ih p =
    ap (λ (o : Option (List Value × Frame)). option_and_then (λ r. option_and_then (λ p. if is_kind kind p.0 then Some (p.0 ∷ r.0, p.1) else None) (popped r.1.stack.values r.1)) o) ih
    ∙ ap (λ (o : Option (Value × Frame)). option_and_then (λ p. if is_kind kind p.0 then Some (p.0 ∷ vs, p.1) else None) o) p
    ∙ ap (λ b. if b then Some (v ∷ vs, i) else None) e

eq_same : (n : ℕ) → nat_eq n n ≡ true
eq_same n = search arith

module _ (w : Setting) where
  pub taken : (params : List Ty) (vs st : List Value) (k : ℕ) (env : Locals) → are_of params vs ≡ true → args_taken (filter_map kind_of_type params) (at w k env (all_on vs st)) ≡ Some (vs, at w k env st)
  taken [] [] st k env e = refl
  taken [] (v ∷ vs) st k env e = absurd (false≢true e)
  taken (t ∷ ts) [] st k env e = absurd (false≢true e)
  taken (ty.Void ∷ ts) (v ∷ vs) st k env e = absurd (false≢true (both false (are_of ts vs) e).0)
  taken (ty.Int ∷ ts) (v ∷ vs) st k env e = let h = both (is_kind Number v) (are_of ts vs) e in one_taken Number (filter_map kind_of_type ts) v vs st _ _ _ h.0 (taken ts vs (v ∷ st) k env h.1) refl
  taken (ty.Boolean ∷ ts) (v ∷ vs) st k env e = let h = both (is_kind Number v) (are_of ts vs) e in one_taken Number (filter_map kind_of_type ts) v vs st _ _ _ h.0 (taken ts vs (v ∷ st) k env h.1) refl
  taken (ty.Class name ∷ ts) (v ∷ vs) st k env e = let h = both (is_kind Reference v) (are_of ts vs) e in one_taken Reference (filter_map kind_of_type ts) v vs st _ _ _ h.0 (taken ts vs (v ∷ st) k env h.1) refl
  taken (ty.IntArray ∷ ts) (v ∷ vs) st k env e = let h = both (is_kind Reference v) (are_of ts vs) e in one_taken Reference (filter_map kind_of_type ts) v vs st _ _ _ h.0 (taken ts vs (v ∷ st) k env h.1) refl
  taken (ty.BooleanArray ∷ ts) (v ∷ vs) st k env e = let h = both (is_kind Reference v) (are_of ts vs) e in one_taken Reference (filter_map kind_of_type ts) v vs st _ _ _ h.0 (taken ts vs (v ∷ st) k env h.1) refl
  taken (ty.ClassArray name ∷ ts) (v ∷ vs) st k env e = let h = both (is_kind Reference v) (are_of ts vs) e in one_taken Reference (filter_map kind_of_type ts) v vs st _ _ _ h.0 (taken ts vs (v ∷ st) k env h.1) refl

  pub invoked_row : (descriptor : List ℕ) (params : List Ty) (t : Ty) (vs st : List Value) (k : ℕ) (env : Locals) (go : Signature → List Value → Frame → Act) → signature_of descriptor ≡ Some (signature_for params t) → are_of params vs ≡ true → invoked descriptor (at w k env (all_on vs st)) go ≡ go (signature_for params t) vs (at w k env st)
  invoked_row descriptor params t vs st k env go sig ok =
      ap (λ (o : Option Signature). on_found o (λ s. on_found (args_taken s.parameters (at w k env (all_on vs st))) (λ r. go s r.0 r.1))) sig
      ∙ ap (λ (o : Option (List Value × Frame)). on_found o (λ r. go (signature_for params t) r.0 r.1)) (taken params vs st k env ok)

  -- none of the first three
  fourth : (a b c : Bool) (x y z u : Act) → a ≡ false → b ≡ false → c ≡ false → (if a then x else (if b then y else (if c then z else u))) ≡ u
  fourth a b c x y z u ea eb ec = ap (λ a. if a then x else (if b then y else (if c then z else u))) ea ∙ ap (λ b. if b then y else (if c then z else u)) eb ∙ ap (λ c. if c then z else u) ec

  -- a static call
  static_row : (m : Method) (params : List Ty) (t : Ty) (vs st : List Value) (pc to : ℕ) (rest : List Item) (env : Locals) → (s : Standing w pc (Uses InvokeStatic (named m params t) ∷ rest) to) → are_of params vs ≡ true → run w (at w pc env (all_on vs st)) ≡ Invokes (call_in w.current (record { target = source.StaticMethod m; args = vs })) (is_some (kind_of_type t)) (at w s.1 env st)
  static_row m params t vs st pc to rest env s ok =
      let f = at w s.1 env (all_on vs st) in
      let key = key_of_method m in
      let n1 = neither (is_print key) (is_text key || (is_read key || is_object_init key)) s.3.2 in
      let n2 = neither (is_text key) (is_read key || is_object_init key) n1.1 in
      let n3 = neither (is_read key) (is_object_init key) n2.1 in
      at_row w (OnConstant InvokeStatic s.0) pc s.1 env (all_on vs st) s.2
      ∙ ap (λ (o : Option Key). on_found o (λ key. calls_static w.file key f)) s.3.0
      ∙ fourth (is_print key) (is_text key) (is_read key) (on_pop f shows_int) (on_pop f (shows_text w.file)) (where_row (has_room (Int (pos 0)) f) (Asks f)) (invoked m.descriptor f (calls (StaticMethod key))) n1.0 n2.0 n3.0
      ∙ invoked_row m.descriptor params t vs st s.1 env (calls (StaticMethod key)) s.3.1 ok

  virtual_acts : (m : Method) (params : List Ty) (t : Ty) (o : Value) (vs st : List Value) (k : ℕ) (env : Locals) → signature_of m.descriptor ≡ Some (signature_for params t) → are_of params vs ≡ true →
      calls_virtual (key_of_method m) (at w k env (all_on vs (o ∷ st))) ≡ on_receiver o (Invokes (record { target = VirtualMethod m.name m.descriptor; args = o ∷ vs }) (is_some (kind_of_type t)) (at w k env st))
  virtual_acts m params t o vs st k env sig ok =
      invoked_row m.descriptor params t vs (o ∷ st) k env (λ s args g. on_pop g (λ r h. on_receiver r (calls (VirtualMethod m.name m.descriptor) s (r ∷ args) h))) sig ok

  -- the place behind the first item
  abbrev pub next_of : (is_interface : Bool) (m : Method) (params : List Ty) (t : Ty) (pc to : ℕ) (rest : List Item) → Standing w pc (virtual_call is_interface m params t ∷ rest) to → ℕ
  next_of true m params t pc to rest s = s.1
  next_of false m params t pc to rest s = s.1

  pub behind_it : (is_interface : Bool) (m : Method) (params : List Ty) (t : Ty) (pc to : ℕ) (rest : List Item) (s : Standing w pc (virtual_call is_interface m params t ∷ rest) to) → Standing w (next_of is_interface m params t pc to rest s) rest to
  behind_it true m params t pc to rest s = s.5
  behind_it false m params t pc to rest s = s.4

  -- a call by the receiver
  virtual_row : (is_interface : Bool) (m : Method) (params : List Ty) (t : Ty) (o : Value) (vs st : List Value) (pc to : ℕ) (rest : List Item) (env : Locals) (s : Standing w pc (virtual_call is_interface m params t ∷ rest) to) → are_of params vs ≡ true →
      run w (at w pc env (all_on vs (o ∷ st))) ≡ on_receiver o (Invokes (record { target = VirtualMethod m.name m.descriptor; args = o ∷ vs }) (is_some (kind_of_type t)) (at w (next_of is_interface m params t pc to rest s) env st))
  virtual_row false m params t o vs st pc to rest env s ok =
      let f = at w s.1 env (all_on vs (o ∷ st)) in
      at_row w (OnConstant InvokeVirtual s.0) pc s.1 env (all_on vs (o ∷ st)) s.2
      ∙ ap (λ (x : Option Key). on_found x (λ key. calls_virtual key f)) s.3.0
      ∙ virtual_acts m params t o vs st s.1 env s.3.1 ok
  virtual_row true m params t o vs st pc to rest env s ok =
      let f = at w s.1 env (all_on vs (o ∷ st)) in
      let count = 1 + places_of (signature_for params t).parameters in
      at_row w (InvokeInterface s.0 count) pc s.1 env (all_on vs (o ∷ st)) s.2
      ∙ ap (λ (x : Option Key). on_found x (λ key. calls_interface count key f)) s.3
      ∙ ap (λ (x : Option Signature). on_found x (λ s. where_row (nat_eq (1 + places_of s.parameters) count) (calls_virtual (key_of_method m) f))) s.4
      ∙ ap (λ x. where_row x (calls_virtual (key_of_method m) f)) (eq_same count)
      ∙ virtual_acts m params t o vs st s.1 env s.4 ok

  -- where a call's answer is
  abbrev pub Came : Option Kind → ℕ → Locals → List Value → ℕ → Value → ℕ → Frame → Type 0
  Came None = IsVoid w
  Came (Some kind) = IsAt w

  abbrev pub needed : Option Kind → ℕ → ℕ
  needed None need = need
  needed (Some kind) need = max need 1

  abbrev pub Brings : Option Kind → List Item → ℕ → (Locals → Does Value) → Type 0
  Brings o is need d = (pc to : ℕ) (env : Locals) (st : List Value) (b0 b : ℕ) → Standing w pc is to → length is + b ≤ b0 → Room w (needed o need) st → Going w (Came o to env st b) b0 (at w pc env st) (d env)

  pub called_runs : (o : Option Kind) (is : List Item) (need n : ℕ) (d : Locals → Does Value) → Brings o is need d → Runs w (called o is need n) d
  called_runs None is need n d h = void_runs w is need n d h
  called_runs (Some kind) is need n d h = plain_runs w is (max need 1) n d h

  pub need_le : (o : Option Kind) (need : ℕ) → need ≤ needed o need
  need_le None need = omega arith
  need_le (Some kind) need = omega arith

  -- the answer of a call
  pub answer_fits : (o : Option Kind) → IsShortIf o → (need : ℕ) (v : Value) (to : ℕ) (env : Locals) (st : List Value) (c b : ℕ) → b ≤ c → Room w (needed o need) st → Onward (answered (is_some o) v (at w to env st)) (fit o v) (λ g. Going w (Came o to env st b) c g (fit o v))
  answer_fits None short need v to env st c b le room = stop w (IsVoid w to env st b) c (at w to env st) Null (le, refl, refl)
  answer_fits (Some kind) short need v to env st c b le room = answer_on w kind short v to env st c b le (omega (arith, room))

  -- a condition without which it is stuck
  pub by_so : {B : Type 0} (R : B → ℕ → Frame → Type 0) (x : Bool) (c : ℕ) (f : Frame) (d : Does B) → (x ≡ true → Going w R c f d) → Going w R c f (where_so x d)
  by_so R true c f d h = h refl
  by_so R false c f d h = lost w R c f

  pub static_last : (m : Method) (params : List Ty) (t : Ty) (vs : List Value) (need : ℕ) (pc to : ℕ) (env : Locals) (st : List Value) (c b : ℕ) → Standing w pc (Uses InvokeStatic (named m params t) ∷ []) to → 1 + b ≤ c → Room w (needed (kind_of_type t) need) st → Going w (Came (kind_of_type t) to env st b) c (at w pc env (all_on vs st)) (where_so (are_of params vs) (Calls (record { target = source.StaticMethod m; args = vs }) (fit (kind_of_type t))))
  static_last m params t vs need pc to env st c b s le room =
      let Q : Value → ℕ → Frame → Type 0 = Came (kind_of_type t) to env st b in
      by_so Q (are_of params vs) c (at w pc env (all_on vs st)) (Calls (record { target = source.StaticMethod m; args = vs }) (fit (kind_of_type t))) (λ ok.
      calling w Q c (at w pc env (all_on vs st)) (at w to env st) (record { target = source.StaticMethod m; args = vs }) (is_some (kind_of_type t)) (fit (kind_of_type t)) (λ h. h) (omega (arith, le))
      (static_row m params t vs st pc to [] env s ok ∙ ap (λ k. Invokes (call_in w.current (record { target = source.StaticMethod m; args = vs })) (is_some (kind_of_type t)) (at w k env st)) s.4)
      (λ v. answer_fits (kind_of_type t) (types_short t) need v to env st (c - 1) b (omega (arith, le)) room))

  -- a call by a receiver that is there
  on_ref : {B : Type 0} (Q : B → ℕ → Frame → Type 0) (target : source.Target) (r : ℕ) (vs : List Value) (push : Bool) (ans : Value → Does B) (c : ℕ) (f on : Frame) → (Held w f → Held w on) → 1 ≤ c → run w f ≡ Invokes (call_in w.current (record { target = target; args = Ref r ∷ vs })) push on → ((v : Value) → Onward (answered push v on) (ans v) (λ g. Going w Q (c - 1) g (ans v))) → Going w Q c f (then_do (calls_on target (Ref r) vs) ans)
  on_ref Q target r vs push ans c f on keep le e k =
      calling w Q c f on (record { target = target; args = Ref r ∷ vs }) push ans keep le e k

  pub virtual_last : (is_interface : Bool) (m : Method) (params : List Ty) (t : Ty) (o : Value) (vs : List Value) (need : ℕ) (pc to : ℕ) (env : Locals) (st : List Value) (c b : ℕ) → Standing w pc (virtual_call is_interface m params t ∷ []) to → 1 + b ≤ c → Room w (needed (kind_of_type t) need) st → Going w (Came (kind_of_type t) to env st b) c (at w pc env (all_on vs (o ∷ st))) (where_so (are_of params vs) (then_do (calls_on (cond is_interface (source.OfInterface m) (source.OfClass m)) o vs) (fit (kind_of_type t))))
  virtual_last is_interface m params t o vs need pc to env st c b s le room =
      let Q : Value → ℕ → Frame → Type 0 = Came (kind_of_type t) to env st b in
      by_so Q (are_of params vs) c (at w pc env (all_on vs (o ∷ st))) _ (λ ok. by_receiver o (virtual_row is_interface m params t o vs st pc to [] env s ok ∙ ap (λ k. on_receiver o (Invokes (record { target = VirtualMethod m.name m.descriptor; args = o ∷ vs }) (is_some (kind_of_type t)) (at w k env st))) (behind_it is_interface m params t pc to [] s))) where
        by_target : (is_interface : Bool) (r : ℕ) (f : Frame) → (Held w f → Here w env) → run w f ≡ Invokes (record { target = VirtualMethod m.name m.descriptor; args = Ref r ∷ vs }) (is_some (kind_of_type t)) (at w to env st) → Going w (Came (kind_of_type t) to env st b) c f (then_do (calls_on (cond is_interface (source.OfInterface m) (source.OfClass m)) (Ref r) vs) (fit (kind_of_type t)))
        by_target true r f keep e = on_ref (Came (kind_of_type t) to env st b) (source.OfInterface m) r vs (is_some (kind_of_type t)) (fit (kind_of_type t)) c f (at w to env st) keep (omega (arith, le)) e (λ v. answer_fits (kind_of_type t) (types_short t) need v to env st (c - 1) b (omega (arith, le)) room)
        by_target false r f keep e = on_ref (Came (kind_of_type t) to env st b) (source.OfClass m) r vs (is_some (kind_of_type t)) (fit (kind_of_type t)) c f (at w to env st) keep (omega (arith, le)) e (λ v. answer_fits (kind_of_type t) (types_short t) need v to env st (c - 1) b (omega (arith, le)) room)

        by_receiver : (o : Value) → run w (at w pc env (all_on vs (o ∷ st))) ≡ on_receiver o (Invokes (record { target = VirtualMethod m.name m.descriptor; args = o ∷ vs }) (is_some (kind_of_type t)) (at w to env st)) → Going w (Came (kind_of_type t) to env st b) c (at w pc env (all_on vs (o ∷ st))) (then_do (calls_on (cond is_interface (source.OfInterface m) (source.OfClass m)) o vs) (fit (kind_of_type t)))
        by_receiver (Ref r) e = by_target is_interface r (at w pc env (all_on vs (Ref r ∷ st))) (λ h. h) e
        by_receiver Null e = fails w (Came (kind_of_type t) to env st b) c (at w pc env (all_on vs (Null ∷ st))) NullReference (omega (arith, le)) e
        by_receiver (Int n) e = λ held. tt
        by_receiver (Long n) e = λ held. tt
        by_receiver (Text n) e = λ held. tt

  -- arguments on the stack
  abbrev pub AreAt : ℕ → Locals → List Value → ℕ → List Value → ℕ → Frame → Type 0
  AreAt to env st b vs left f = (b ≤ left) × (f ≡ at w to env (all_on vs st))

  abbrev pub Fills : List Item → ℕ → (Locals → Does (List Value)) → Type 0
  Fills is need d = (pc to : ℕ) (env : Locals) (st : List Value) (b0 b : ℕ) → Standing w pc is to → length is + b ≤ b0 → Room w need st → Going w (AreAt to env st b) b0 (at w pc env st) (d env)

  pub args_then : {B : Type 0} (R : B → ℕ → Frame → Type 0) (is rest : List Item) (need : ℕ) (d : Locals → Does (List Value)) (go : List Value → Does B) → Fills is need d → (pc to : ℕ) (env : Locals) (st : List Value) (b0 b : ℕ) → Standing w pc (is ++ rest) to → length (is ++ rest) + b ≤ b0 → Room w need st → ((vs : List Value) (m c : ℕ) → Standing w m rest to → length rest + b ≤ c → Going w R c (at w m env (all_on vs st)) (go vs)) → Going w R b0 (at w pc env st) (then_do (d env) go)
  args_then R is rest need d go h pc to env st b0 b s le room k =
      let p = parted w is rest pc to s in
      let l = length-append is rest in
      seq w (AreAt p.mid env st (length rest + b)) R go
      (λ vs c f q. from_here w R c f (at w p.mid env (all_on vs st)) (go vs) q.1 (k vs p.mid c p.back q.0))
      (d env) b0 (at w pc env st) (h pc p.mid env st b0 (length rest + b) p.front (omega (arith, l, le)) room)
