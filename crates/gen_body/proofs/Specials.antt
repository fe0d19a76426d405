-- The code of calls of the superclass and of constructors does what they mean.
use Rattle.std.proofs.Common.{◌≡◌, ℕ, suc, ◌+◌, ◌-◌, ◌≤◌, List, [], ◌∷◌, length, Option, Some, refl, sym, ap, ◌∙◌, subst, arith}
use Rattle.std.specs.Prelude.{Bool, true, false, ◌||◌, cond, is_some, option_and_then, if◌then◌else◌, codes}
use Rattle.std.specs.Option.{option_map}
use Rattle.std.proofs.lemmas.Bool.{false≢true}
use Rattle.class_form.specs.Constants.{class_name_at}
use Rattle.jp_pred.specs.declared.ty.Ty.{Ty}
use Rattle.jp_pred.specs.declared.ty.Ty.TheVariants as ty
use Rattle.jp_pred.specs.Names.{Word, object, same}
use Rattle.jp_store.specs.declared.value.Value.{Value}
use Rattle.jp_store.specs.declared.value.Value.TheVariants.{Null, Ref}
use Rattle.jp_store.specs.declared.value.Kind.TheVariants.{Reference}
use Rattle.jp_store.specs.Arith.{is_kind}
use Rattle.jp_store.specs.Classes.{Key, object_name}
use Rattle.jp_store.specs.Work.{MakeObject as ObjectMade}
use Rattle.jp_does.specs.Does.{Gives, Works, then_do, found}
use Rattle.jp_meaning.specs.Does as source
use Rattle.jp_meaning.specs.Does.{Does, Method, calls_on}
use Rattle.jp_meaning.specs.Descriptors.{kind_of_type, constructor_of}
use Rattle.jp_meaning.specs.Expressions.{Locals, fits, local_value, fit, are_of, where_so, construct_object, construct}
use Rattle.jvm_table.specs.declared.frame.Frame.{Frame}
use Rattle.jvm_table.specs.declared.instr.Instr.TheVariants.{Load, OnConstant}
use Rattle.jvm_table.specs.declared.instr.ConstantUse.TheVariants.{InvokeSpecial, MakeObject}
use Rattle.jvm_table.specs.Descriptors.{signature_of}
use Rattle.jvm_table.specs.Act.{Target, Moves, Effects, Invokes, Constructor, MethodAbove, pushed, answered, on_found, on_pop, on_receiver, invoked, calls, calls_special, special_target, is_print, is_text, is_read, is_object_init, where_so as where_row}
use Rattle.code_trace.specs.Calls.{key_of_method, call_in}
use Rattle.code_trace.specs.Follows.{Onward, Follows}
use Rattle.code_asm.specs.Items.{ClassOf, BuiltIn, Item, Plain, Uses}
use Rattle.gen_body.specs.Codes.{signature_for, named, family, construction}
use Rattle.gen_body.proofs.Values.{types_short, neither}
use Rattle.gen_body.proofs.Going.{Setting, run, at, Standing, Held_still, Going, stop, moves, works_on, lost, calls_on as calling}
use Rattle.gen_body.proofs.Blocks.{all_on, Room, at_row, push_row, answer_row, IsOver}
use Rattle.gen_body.proofs.Calls.{invoked_row, Came, needed, answer_fits, by_so}

module _ (w : Setting) where
  -- the receiver on the stack, and what follows
  pub receiver_then : {B : Type 0} (R : B → ℕ → Frame → Type 0) (rest : List Item) (go : Value → Does B) → w.received ≡ true → (pc to : ℕ) (env : Locals) (st : List Value) (b0 b : ℕ) → Standing w pc (Plain (Load Reference 0) ∷ rest) to → suc (length rest) + b ≤ b0 → Room w 1 st →
      ((m c : ℕ) → Standing w m rest to → length rest + b ≤ c → Going w R c (at w m env (Ref w.receiver ∷ st)) (go (Ref w.receiver))) → Going w R b0 (at w pc env st) (then_do (local_value 0 Reference env) go)
  receiver_then R rest go received pc to env st b0 b s le room k held =
      let here = held received in
      let is : local_value 0 Reference env ≡ Gives (Ref w.receiver) = ap (λ (o : Option (Option Value)). found (option_and_then (λ v. v) o) (fits Reference)) here in
      subst (λ (d : Does Value). Follows (run w) w.current w.more (Held_still w R) b0 (at w pc env st) (then_do d go)) (sym is)
      (moves w R b0 (at w pc env st) (at w s.0 env (Ref w.receiver ∷ st)) (go (Ref w.receiver)) (λ h. h) (omega (arith, le))
      (at_row w (Load Reference 0) pc s.0 env st s.1
      ∙ ap (λ (o : Option (Option Value)). on_found (option_and_then (λ v. v) o) (λ v. where_row (is_kind Reference v) (pushed v (at w s.0 env st)))) here
      ∙ push_row w (Ref w.receiver) s.0 env st refl room)
      (k s.0 (b0 - 1) s.2 (omega (arith, le))) held)

  -- a new object on the stack, and what follows
  pub made_then : {B : Type 0} (R : B → ℕ → Frame → Type 0) (class : List ℕ) (rest : List Item) (go : Value → Does B) (pc to : ℕ) (env : Locals) (st : List Value) (b0 b : ℕ) → Standing w pc (Uses MakeObject (ClassOf class) ∷ rest) to → suc (length rest) + b ≤ b0 → Room w 1 st →
      ((r m c : ℕ) → Standing w m rest to → length rest + b ≤ c → Going w R c (at w m env (Ref r ∷ st)) (go (Ref r))) → Going w R b0 (at w pc env st) (then_do (Works (ObjectMade class) (fits Reference)) go)
  made_then R class rest go pc to env st b0 b s le room k =
      works_on w R b0 (at w pc env st) (at w s.1 env st) (ObjectMade class) true (λ v. then_do (fits Reference v) go) (λ h. h) (omega (arith, le))
      (at_row w (OnConstant MakeObject s.0) pc s.1 env st s.2 ∙ ap (λ (o : Option (List ℕ)). on_found o (λ name. Effects (ObjectMade name) true (at w s.1 env st))) s.3)
      (λ v may. subst (λ (v : Value). Onward (answered true v (at w s.1 env st)) (then_do (fits Reference v) go) (λ g. Going w R (b0 - 1) g (then_do (fits Reference v) go))) (sym may.1)
      (subst (λ (o : Option Frame). Onward o (go (Ref may.0)) (λ g. Going w R (b0 - 1) g (go (Ref may.0)))) (sym (answer_row w (Ref may.0) s.1 env st refl room))
      (k may.0 s.1 (b0 - 1) s.4 (omega (arith, le)))))

  -- a call that doesn't look at the receiver's class
  special_acts : (key : Key) (target : Target) (params : List Ty) (t : Ty) (o : Value) (vs st : List Value) (k : ℕ) (env : Locals) → is_object_init key ≡ false → special_target w.file key ≡ Some target → signature_of key.descriptor ≡ Some (signature_for params t) → are_of params vs ≡ true →
      calls_special w.file key (at w k env (all_on vs (o ∷ st))) ≡ where_row (is_kind Reference o) (Invokes (record { target = target; args = o ∷ vs }) (is_some (kind_of_type t)) (at w k env st))
  special_acts key target params t o vs st k env n e sig ok =
      let f = at w k env (all_on vs (o ∷ st)) in
      ap (λ b. if b then on_pop f (λ r g. on_receiver r (Moves g)) else on_found (special_target w.file key) (λ target. invoked key.descriptor f (λ s args g. on_pop g (λ r h. where_row (is_kind Reference r) (calls target s (r ∷ args) h))))) n
      ∙ ap (λ (x : Option Target). on_found x (λ target. invoked key.descriptor f (λ s args g. on_pop g (λ r h. where_row (is_kind Reference r) (calls target s (r ∷ args) h))))) e
      ∙ invoked_row w key.descriptor params t vs (o ∷ st) k env (λ s args g. on_pop g (λ r h. where_row (is_kind Reference r) (calls target s (r ∷ args) h))) sig ok

  no_init : (key : Key) → (is_print key || (is_text key || (is_read key || is_object_init key))) ≡ false → is_object_init key ≡ false
  no_init key e = (neither (is_read key) (is_object_init key) (neither (is_text key) (is_read key || is_object_init key) (neither (is_print key) (is_text key || (is_read key || is_object_init key)) e).1).1).1

  super_row : (m : Method) (params : List Ty) (t : Ty) (o : Value) (vs st : List Value) (pc to : ℕ) (rest : List Item) (env : Locals) (s : Standing w pc (Uses InvokeSpecial (family m params t) ∷ rest) to) → are_of params vs ≡ true →
      run w (at w pc env (all_on vs (o ∷ st))) ≡ where_row (is_kind Reference o) (Invokes (record { target = MethodAbove w.current m.name m.descriptor; args = o ∷ vs }) (is_some (kind_of_type t)) (at w s.1 env st))
  super_row m params t o vs st pc to rest env s ok =
      let key = key_of_method m in
      let f = at w s.1 env (all_on vs (o ∷ st)) in
      let target : special_target w.file key ≡ Some (MethodAbove w.current m.name m.descriptor) =
      ap (λ b. if b then Some (Constructor key) else option_map (λ current. MethodAbove current m.name m.descriptor) (class_name_at w.file w.file.this_class)) s.3.3 ∙ ap (λ x. option_map (λ current. MethodAbove current m.name m.descriptor) x) w.this in
      at_row w (OnConstant InvokeSpecial s.0) pc s.1 env (all_on vs (o ∷ st)) s.2
      ∙ ap (λ (x : Option Key). on_found x (λ key. calls_special w.file key f)) s.3.0
      ∙ special_acts key (MethodAbove w.current m.name m.descriptor) params t o vs st s.1 env (no_init key s.3.2) target s.3.1 ok

  construct_row : (class : Word) (params : List Ty) (o : Value) (vs st : List Value) (pc to : ℕ) (rest : List Item) (env : Locals) (s : Standing w pc (Uses InvokeSpecial (named (constructor_of class params) params ty.Void) ∷ rest) to) → are_of params vs ≡ true →
      run w (at w pc env (all_on vs (o ∷ st))) ≡ where_row (is_kind Reference o) (Invokes (record { target = Constructor (key_of_method (constructor_of class params)); args = o ∷ vs }) false (at w s.1 env st))
  construct_row class params o vs st pc to rest env s ok =
      let key = key_of_method (constructor_of class params) in
      let f = at w s.1 env (all_on vs (o ∷ st)) in
      at_row w (OnConstant InvokeSpecial s.0) pc s.1 env (all_on vs (o ∷ st)) s.2
      ∙ ap (λ (x : Option Key). on_found x (λ key. calls_special w.file key f)) s.3.0
      ∙ special_acts key (Constructor key) params ty.Void o vs st s.1 env (no_init key s.3.2) refl s.3.1 ok

  -- a receiver is there
  pub super_last : (m : Method) (params : List Ty) (t : Ty) (r : ℕ) (vs : List Value) (need : ℕ) (pc to : ℕ) (env : Locals) (st : List Value) (c b : ℕ) → Standing w pc (Uses InvokeSpecial (family m params t) ∷ []) to → 1 + b ≤ c → Room w (needed w (kind_of_type t) need) st → Going w (Came w (kind_of_type t) to env st b) c (at w pc env (all_on vs (Ref r ∷ st))) (where_so (are_of params vs) (then_do (calls_on (source.OfSuperclass m) (Ref r) vs) (fit (kind_of_type t))))
  super_last m params t r vs need pc to env st c b s le room =
      let Q : Value → ℕ → Frame → Type 0 = Came w (kind_of_type t) to env st b in
      let call : source.Call = record { target = source.OfSuperclass m; args = Ref r ∷ vs } in
      by_so w Q (are_of params vs) c (at w pc env (all_on vs (Ref r ∷ st))) (then_do (calls_on (source.OfSuperclass m) (Ref r) vs) (fit (kind_of_type t))) (λ ok.
      calling w Q c (at w pc env (all_on vs (Ref r ∷ st))) (at w to env st) call (is_some (kind_of_type t)) (fit (kind_of_type t)) (λ h. h) (omega (arith, le))
      (super_row m params t (Ref r) vs st pc to [] env s ok ∙ ap (λ k. Invokes (call_in w.current call) (is_some (kind_of_type t)) (at w k env st)) s.4)
      (λ v. answer_fits w (kind_of_type t) (types_short t) need v to env st (c - 1) b (omega (arith, le)) room))

  -- the constructor of Object
  object_row : (r : ℕ) (st : List Value) (pc to : ℕ) (env : Locals) → Standing w pc (Uses InvokeSpecial (BuiltIn (record { class = object_name; name = codes "<init>"; descriptor = codes "()V" })) ∷ []) to → run w (at w pc env (Ref r ∷ st)) ≡ Moves (at w to env st)
  object_row r st pc to env s =
      at_row w (OnConstant InvokeSpecial s.0) pc s.1 env (Ref r ∷ st) s.2
      ∙ ap (λ (x : Option Key). on_found x (λ key. calls_special w.file key (at w s.1 env (Ref r ∷ st)))) s.3
      ∙ ap (λ k. Moves (at w k env st)) s.4

  object_last : (params : List Ty) (r : ℕ) (vs : List Value) (pc to : ℕ) (env : Locals) (st : List Value) (c b : ℕ) → Standing w pc (Uses InvokeSpecial (BuiltIn (record { class = object_name; name = codes "<init>"; descriptor = codes "()V" })) ∷ []) to → 1 + b ≤ c → are_of params vs ≡ true → Going w (IsOver w to env st b) c (at w pc env (all_on vs (Ref r ∷ st))) (construct_object params (Ref r))
  object_last (t ∷ ts) r vs pc to env st c b s le ok = lost w (IsOver w to env st b) c (at w pc env (all_on vs (Ref r ∷ st)))
  object_last [] r (v ∷ vs) pc to env st c b s le ok = absurd (false≢true ok)
  object_last [] r [] pc to env st c b s le ok =
      moves w (IsOver w to env st b) c (at w pc env (Ref r ∷ st)) (at w to env st) (Gives Null) (λ h. h) (omega (arith, le)) (object_row r st pc to env s)
      (stop w (IsOver w to env st b) (c - 1) (at w to env st) Null (omega (arith, le), refl))

  other_last : (class : Word) (params : List Ty) (r : ℕ) (vs : List Value) (pc to : ℕ) (env : Locals) (st : List Value) (c b : ℕ) → Standing w pc (Uses InvokeSpecial (named (constructor_of class params) params ty.Void) ∷ []) to → 1 + b ≤ c → are_of params vs ≡ true → Going w (IsOver w to env st b) c (at w pc env (all_on vs (Ref r ∷ st))) (calls_on (source.Constructor (constructor_of class params)) (Ref r) vs)
  other_last class params r vs pc to env st c b s le ok =
      let call : source.Call = record { target = source.Constructor (constructor_of class params); args = Ref r ∷ vs } in
      calling w (IsOver w to env st b) c (at w pc env (all_on vs (Ref r ∷ st))) (at w to env st) call false Gives (λ h. h) (omega (arith, le))
      (construct_row class params (Ref r) vs st pc to [] env s ok ∙ ap (λ k. Invokes (call_in w.current call) false (at w k env st)) s.4)
      (λ v. stop w (IsOver w to env st b) (c - 1) (at w to env st) v (omega (arith, le), refl))

  -- a constructor's run
  pub construct_last : (class : Word) (params : List Ty) (r : ℕ) (vs : List Value) (pc to : ℕ) (env : Locals) (st : List Value) (c b : ℕ) → Standing w pc (construction class params ∷ []) to → 1 + b ≤ c → Going w (IsOver w to env st b) c (at w pc env (all_on vs (Ref r ∷ st))) (construct class params (Ref r) vs)
  construct_last class params r vs pc to env st c b s le = by_class (same class object) s where
    by_class : (x : Bool) → Standing w pc (Uses InvokeSpecial (cond x (BuiltIn (record { class = object_name; name = codes "<init>"; descriptor = codes "()V" })) (named (constructor_of class params) params ty.Void)) ∷ []) to →
        Going w (IsOver w to env st b) c (at w pc env (all_on vs (Ref r ∷ st))) (where_so (are_of params vs) (cond x (construct_object params (Ref r)) (calls_on (source.Constructor (constructor_of class params)) (Ref r) vs)))
    by_class true s = by_so w (IsOver w to env st b) (are_of params vs) c (at w pc env (all_on vs (Ref r ∷ st))) (construct_object params (Ref r)) (λ ok. object_last params r vs pc to env st c b s le ok)
    by_class false s = by_so w (IsOver w to env st b) (are_of params vs) c (at w pc env (all_on vs (Ref r ∷ st))) (calls_on (source.Constructor (constructor_of class params)) (Ref r) vs) (λ ok. other_last class params r vs pc to env st c b s le ok)
