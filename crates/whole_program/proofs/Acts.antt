-- A call's answer is pushed where its descriptor has a result, and a method leaves with a value where its own has.
use Rattle.std.proofs.Common.{◌≡◌, ℕ, Bool, true, false, List, ◌∷◌, Option, Some, None, refl, ap}
use Rattle.std.specs.Prelude.{is_some, pos, nat_eq, nat_lt, ◌&&◌, ◌+◌, if◌then◌else◌, option_and_then, slice_get, codes}
use Rattle.std.specs.Str.{bytes_eq}
use Rattle.std.specs.Option.{option_map}
use Rattle.class_form.specs.declared.class_file.ClassFile.{ClassFile}
use Rattle.class_form.specs.declared.member.MemberInfo.{MemberInfo}
use Rattle.class_form.specs.Constants.{class_name_at}
use Rattle.jp_store.specs.declared.value.Value.{Value}
use Rattle.jp_store.specs.declared.value.Value.TheVariants.{Int, Long, Null, Ref, Text}
use Rattle.jp_store.specs.declared.value.Kind.{Kind}
use Rattle.jp_store.specs.declared.value.Kind.TheVariants.{Reference}
use Rattle.jp_store.specs.declared.operator.BinaryOp.TheVariants.{Add}
use Rattle.jp_store.specs.declared.outcome.Outcome.{Outcome}
use Rattle.jp_store.specs.declared.outcome.Outcome.TheVariants.{Fine, Trap, Wrong}
use Rattle.jp_store.specs.Arith.{binary, negated, widened, long_sums, long_products, long_orders, compares, sames, is_kind}
use Rattle.jp_store.specs.Classes.{Key}
use Rattle.jvm_table.specs.declared.instr.Instr.{Instr}
use Rattle.jvm_table.specs.declared.instr.Instr.TheVariants.{PushNull, PushInt, PushLong, Load, Store, Increase, LoadElement, StoreElement, MakeNumbers, MakeTruths, ArrayLength, PopTop, Dup, DupBelow, DupTwo, Binary, Negate, Widen, AddLongs, MultiplyLongs, CompareLongs, JumpTo, ReturnValue, ReturnVoid, OnConstant, InvokeInterface}
use Rattle.jvm_table.specs.declared.instr.Jump.{Jump}
use Rattle.jvm_table.specs.declared.instr.Jump.TheVariants.{Always, IfZero, IfInts, IfSame, IfNull}
use Rattle.jvm_table.specs.declared.instr.ConstantUse.{ConstantUse}
use Rattle.jvm_table.specs.declared.instr.ConstantUse.TheVariants.{PushConstant, PushLongConstant, GetStatic, PutStatic, GetField, PutField, InvokeVirtual, InvokeSpecial, InvokeStatic, MakeObject, MakeReferences, CheckCast, InstanceOf}
use Rattle.jvm_table.specs.declared.frame.Frame.{Frame}
use Rattle.jvm_table.specs.Decode.{row_at}
use Rattle.jvm_table.specs.Descriptors.{Signature, signature_of, places_of}
use Rattle.jvm_table.specs.Constants.{field_in, method_in, interface_method_in, member_named, literal_at}
use Rattle.jvm_table.specs.Act.{Target, StaticMethod, VirtualMethod, Constructor, MethodAbove, Act, Moves, ShowsInt, ShowsText, Asks, Effects, Invokes, Leaves, Fails, NoRow, with_values, has_room, then_push, pushed, popped, on_found, on_pop, on_two, acted, where_so, variable, stored, is_single, landed, jump, is_same_kind, result_kind, leaves_with, leaves_void, constant_value, long_value, args_taken, invoked, calls, on_receiver, calls_virtual, calls_interface, is_print, is_text, is_read, is_object_init, shows_int, shows_text, calls_static, calls_special, on_constant, act, acts}
use Rattle.whole_program.specs.Right.{descriptor_in}

-- whether the descriptor of a target has a result
abbrev pub pushes : Target → Option Bool
pushes target = option_map (λ s. is_some s.result) (signature_of (descriptor_in target))

-- whether the descriptor of a method has a result
abbrev pub gives_back : ClassFile → MemberInfo → Option Bool
gives_back file method = option_map is_some (result_kind file method)

module _ (file : ClassFile) (method : MemberInfo) where
  abbrev pub Sane : Act → Type 0
  Sane (Moves f) = Unit {0}
  Sane (ShowsInt n f) = Unit {0}
  Sane (ShowsText bytes f) = Unit {0}
  Sane (Asks f) = Unit {0}
  Sane (Effects op push f) = Unit {0}
  Sane (Invokes c push f) = pushes c.target ≡ Some push
  Sane (Leaves v) = gives_back file method ≡ Some (is_some v)
  Sane (Fails kind) = Unit {0}
  Sane NoRow = Unit {0}

  found_sane : {A : Type 0} (o : Option A) (go : A → Act) → ((a : A) → Sane (go a)) → Sane (on_found o go)
  found_sane None go h = tt
  found_sane (Some a) go h = h a

  if_sane : (b : Bool) (x y : Act) → Sane x → Sane y → Sane (if b then x else y)
  if_sane true x y h k = h
  if_sane false x y h k = k

  where_sane : (b : Bool) (x : Act) → Sane x → Sane (where_so b x)
  where_sane true x h = h
  where_sane false x h = tt

  pop_sane : (f : Frame) (go : Value → Frame → Act) → ((v : Value) (g : Frame) → Sane (go v g)) → Sane (on_pop f go)
  pop_sane f go h = found_sane (popped f.stack.values f) (λ r. go r.0 r.1) (λ r. h r.0 r.1)

  two_sane : (f : Frame) (go : Value → Value → Frame → Act) → ((x y : Value) (g : Frame) → Sane (go x y g)) → Sane (on_two f go)
  two_sane f go h = pop_sane f (λ y g. on_pop g (λ x k. go x y k)) (λ y g. pop_sane g (λ x k. go x y k) (λ x k. h x y k))

  acted_sane : {A : Type 0} (r : Outcome A) (go : A → Act) → ((a : A) → Sane (go a)) → Sane (acted r go)
  acted_sane (Fine a) go h = h a
  acted_sane (Trap kind) go h = tt
  acted_sane Wrong go h = tt

  push_sane : (v : Value) (f : Frame) (go : Frame → Act) → ((g : Frame) → Sane (go g)) → Sane (then_push v f go)
  push_sane v f go h = if_sane (has_room v f) (go (with_values (v ∷ f.stack.values) f)) NoRow (h _) tt

  pushed_sane : (v : Value) (f : Frame) → Sane (pushed v f)
  pushed_sane v f = push_sane v f Moves (λ g. tt)

  stored_sane : (index : ℕ) (v : Value) (f : Frame) → Sane (stored index v f)
  stored_sane index v f = where_sane (nat_lt index _) _ tt

  landed_sane : (want : Bool) (to : ℕ) (f : Frame) (b : Bool) → Sane (landed want to f b)
  landed_sane true to f true = tt
  landed_sane true to f false = tt
  landed_sane false to f true = tt
  landed_sane false to f false = tt

  jump_sane : (j : Jump) (to : ℕ) (f : Frame) → Sane (jump j to f)
  jump_sane Always to f = tt
  jump_sane (IfZero test) to f = pop_sane f _ (λ x g. acted_sane (compares test x (Int (pos 0))) (landed true to g) (landed_sane true to g))
  jump_sane (IfInts test) to f = two_sane f _ (λ x y g. acted_sane (compares test x y) (landed true to g) (landed_sane true to g))
  jump_sane (IfSame wanted) to f = two_sane f _ (λ x y g. acted_sane (sames x y) (landed wanted to g) (landed_sane wanted to g))
  jump_sane (IfNull wanted) to f = pop_sane f _ (λ x g. acted_sane (sames x Null) (landed wanted to g) (landed_sane wanted to g))

  with_sane : (r : Option (Option Kind)) → result_kind file method ≡ r → (kind : Kind) (v : Value) → Sane (leaves_with r kind v)
  with_sane (Some (Some result)) e kind v = where_sane (is_same_kind kind result && is_kind kind v) (Leaves (Some v)) (ap (option_map is_some) e)
  with_sane (Some None) e kind v = tt
  with_sane None e kind v = tt

  void_sane : (r : Option (Option Kind)) → result_kind file method ≡ r → Sane (leaves_void r)
  void_sane (Some None) e = ap (option_map is_some) e
  void_sane (Some (Some result)) e = tt
  void_sane None e = tt

  invoked_sane : (descriptor : List ℕ) (f : Frame) (go : Signature → List Value → Frame → Act) → ((s : Signature) → signature_of descriptor ≡ Some s → (args : List Value) (g : Frame) → Sane (go s args g)) → Sane (invoked descriptor f go)
  invoked_sane descriptor f go h = by_signature (signature_of descriptor) refl where
    by_signature : (o : Option Signature) → signature_of descriptor ≡ o → Sane (on_found o (λ s. on_found (args_taken s.parameters f) (λ r. go s r.0 r.1)))
    by_signature None e = tt
    by_signature (Some s) e = found_sane (args_taken s.parameters f) (λ r. go s r.0 r.1) (λ r. h s e r.0 r.1)

  receiver_sane : (r : Value) (x : Act) → Sane x → Sane (on_receiver r x)
  receiver_sane (Ref o) x h = h
  receiver_sane Null x h = tt
  receiver_sane (Int n) x h = tt
  receiver_sane (Long n) x h = tt
  receiver_sane (Text t) x h = tt

  calls_sane : (target : Target) (s : Signature) → signature_of (descriptor_in target) ≡ Some s → (args : List Value) (f : Frame) → Sane (calls target s args f)
  calls_sane target s e args f = ap (option_map (λ (x : Signature). is_some x.result)) e

  virtual_sane : (key : Key) (f : Frame) → Sane (calls_virtual key f)
  virtual_sane key f = invoked_sane key.descriptor f _ (λ s e args g. pop_sane g _ (λ r h. receiver_sane r _ (calls_sane (VirtualMethod key.name key.descriptor) s e (r ∷ args) h)))

  interface_sane : (count : ℕ) (key : Key) (f : Frame) → Sane (calls_interface count key f)
  interface_sane count key f = found_sane (signature_of key.descriptor) _ (λ s. where_sane (nat_eq (1 + places_of s.parameters) count) _ (virtual_sane key f))

  int_sane : (v : Value) (f : Frame) → Sane (shows_int v f)
  int_sane (Int n) f = tt
  int_sane (Long n) f = tt
  int_sane Null f = tt
  int_sane (Ref o) f = tt
  int_sane (Text t) f = tt

  text_sane : (v : Value) (f : Frame) → Sane (shows_text file v f)
  text_sane (Text t) f = found_sane (literal_at file t) (λ bytes. ShowsText bytes f) (λ bytes. tt)
  text_sane (Int n) f = tt
  text_sane (Long n) f = tt
  text_sane Null f = tt
  text_sane (Ref o) f = tt

  static_sane : (key : Key) (f : Frame) → Sane (calls_static file key f)
  static_sane key f =
      if_sane (is_print key) _ _ (pop_sane f shows_int int_sane)
      (if_sane (is_text key) _ _ (pop_sane f (shows_text file) text_sane)
      (if_sane (is_read key) _ _ (where_sane (has_room (Int (pos 0)) f) (Asks f) tt)
      (invoked_sane key.descriptor f (calls (StaticMethod key)) (λ s e args g. calls_sane (StaticMethod key) s e args g))))

  target_sane : (key : Key) (go : Target → Act) → Sane (go (Constructor key)) → ((current : List ℕ) → Sane (go (MethodAbove current key.name key.descriptor))) → (b : Bool) (o : Option (List ℕ)) →
      Sane (on_found (if b then Some (Constructor key) else option_map (λ current. MethodAbove current key.name key.descriptor) o) go)
  target_sane key go h k true o = h
  target_sane key go h k false None = tt
  target_sane key go h k false (Some current) = k current

  special_calls : (target : Target) (f : Frame) → Sane (invoked (descriptor_in target) f (λ s args g. on_pop g (λ r h. where_so (is_kind Reference r) (calls target s (r ∷ args) h))))
  special_calls target f =
      invoked_sane (descriptor_in target) f _ (λ s e args g. pop_sane g _ (λ r k. where_sane (is_kind Reference r) _ (calls_sane target s e (r ∷ args) k)))

  special_sane : (key : Key) (f : Frame) → Sane (calls_special file key f)
  special_sane key f =
      if_sane (is_object_init key) _ _ (pop_sane f _ (λ r g. receiver_sane r (Moves g) tt))
      (target_sane key (λ target. invoked key.descriptor f (λ s args g. on_pop g (λ r h. where_so (is_kind Reference r) (calls target s (r ∷ args) h))))
      (special_calls (Constructor key) f) (λ current. special_calls (MethodAbove current key.name key.descriptor) f)
      (bytes_eq key.name (codes "<init>")) (class_name_at file file.this_class))

  constant_sane : (u : ConstantUse) (index : ℕ) (f : Frame) → Sane (on_constant file u index f)
  constant_sane PushConstant index f = found_sane (option_and_then (constant_value file index) (slice_get file.constants index)) _ (λ v. pushed_sane v f)
  constant_sane PushLongConstant index f = found_sane (option_and_then long_value (slice_get file.constants index)) _ (λ v. pushed_sane v f)
  constant_sane GetStatic index f = found_sane (member_named field_in file index) _ (λ key. tt)
  constant_sane PutStatic index f = pop_sane f _ (λ v g. found_sane (member_named field_in file index) _ (λ key. tt))
  constant_sane GetField index f = pop_sane f _ (λ r g. found_sane (member_named field_in file index) _ (λ key. tt))
  constant_sane PutField index f = two_sane f _ (λ r v g. found_sane (member_named field_in file index) _ (λ key. tt))
  constant_sane InvokeVirtual index f = found_sane (member_named method_in file index) _ (λ key. virtual_sane key f)
  constant_sane InvokeSpecial index f = found_sane (member_named method_in file index) _ (λ key. special_sane key f)
  constant_sane InvokeStatic index f = found_sane (member_named method_in file index) _ (λ key. static_sane key f)
  constant_sane MakeObject index f = found_sane (class_name_at file index) _ (λ name. tt)
  constant_sane MakeReferences index f = pop_sane f _ (λ n g. found_sane (class_name_at file index) _ (λ name. tt))
  constant_sane CheckCast index f = pop_sane f _ (λ r g. found_sane (class_name_at file index) _ (λ name. tt))
  constant_sane InstanceOf index f = pop_sane f _ (λ r g. found_sane (class_name_at file index) _ (λ name. tt))

  act_sane : (i : Instr) (f : Frame) → Sane (act file method i f)
  act_sane PushNull f = pushed_sane Null f
  act_sane (PushInt n) f = pushed_sane (Int n) f
  act_sane (PushLong n) f = pushed_sane (Long n) f
  act_sane (Load kind index) f = found_sane (variable f index) _ (λ v. where_sane (is_kind kind v) _ (pushed_sane v f))
  act_sane (Store kind index) f = pop_sane f _ (λ v g. where_sane (is_kind kind v) _ (stored_sane index v g))
  act_sane (Increase index by) f = found_sane (variable f index) _ (λ v. acted_sane (binary Add v (Int by)) _ (λ w. stored_sane index w f))
  act_sane (LoadElement kind) f = two_sane f _ (λ r i g. tt)
  act_sane (StoreElement kind) f = pop_sane f _ (λ v g. two_sane g _ (λ r i h. tt))
  act_sane MakeNumbers f = pop_sane f _ (λ n g. tt)
  act_sane MakeTruths f = pop_sane f _ (λ n g. tt)
  act_sane ArrayLength f = pop_sane f _ (λ r g. tt)
  act_sane PopTop f = pop_sane f _ (λ v g. where_sane (is_single v) (Moves g) tt)
  act_sane Dup f = pop_sane f _ (λ v g. where_sane (is_single v) _ (push_sane v g _ (λ h. pushed_sane v h)))
  act_sane DupBelow f = two_sane f _ (λ x y g. where_sane (is_single x && is_single y) _ (push_sane y g _ (λ h. push_sane x h _ (λ k. pushed_sane y k))))
  act_sane DupTwo f = two_sane f _ (λ x y g. where_sane (is_single x && is_single y) _ (push_sane x g _ (λ h. push_sane y h _ (λ i. push_sane x i _ (λ k. pushed_sane y k)))))
  act_sane (Binary op) f = two_sane f _ (λ x y g. acted_sane (binary op x y) _ (λ v. pushed_sane v g))
  act_sane Negate f = pop_sane f _ (λ x g. acted_sane (negated x) _ (λ v. pushed_sane v g))
  act_sane Widen f = pop_sane f _ (λ x g. acted_sane (widened x) _ (λ v. pushed_sane v g))
  act_sane AddLongs f = two_sane f _ (λ x y g. acted_sane (long_sums x y) _ (λ v. pushed_sane v g))
  act_sane MultiplyLongs f = two_sane f _ (λ x y g. acted_sane (long_products x y) _ (λ v. pushed_sane v g))
  act_sane CompareLongs f = two_sane f _ (λ x y g. acted_sane (long_orders x y) _ (λ v. pushed_sane v g))
  act_sane (JumpTo condition to) f = jump_sane condition to f
  act_sane (ReturnValue kind) f = pop_sane f _ (λ v g. with_sane (result_kind file method) refl kind v)
  act_sane ReturnVoid f = void_sane (result_kind file method) refl
  act_sane (OnConstant u index) f = constant_sane u index f
  act_sane (InvokeInterface index count) f = found_sane (member_named interface_method_in file index) _ (λ key. interface_sane count key f)

  pub sane : (f : Frame) → Sane (acts file method f)
  sane f = found_sane (option_and_then (λ code. row_at code.bytes f.place) method.code) _ (λ row. act_sane row.instr (record f { place = row.next }))
