-- The code of a member has the member's open traces.
use Rattle.std.proofs.Common.{◌≡◌, ℕ, suc, ◌+◌, ◌≤◌, List, [], ◌∷◌, ◌++◌, length, map, Option, Some, None, refl, sym, ap, ◌∙◌, subst, arith, length-append}
use Rattle.std.specs.Prelude.{Bool, true, false, ◌&&◌, is_some, slice_get, cond}
use Rattle.std.specs.Option.{option_map_or}
use Rattle.std.proofs.lemmas.Bool.{false≢true}
use Rattle.std.proofs.lemmas.List.{append-nil}
use Rattle.class_form.specs.declared.class_file.ClassFile.{ClassFile}
use Rattle.class_form.specs.declared.member.MemberInfo.{MemberInfo}
use Rattle.jp_pred.specs.declared.ty.Ty.{Ty}
use Rattle.jp_pred.specs.declared.hier.Hier.{Hier}
use Rattle.jp_pred.specs.Names.{Word}
use Rattle.iface_codec.specs.declared.iface.Iface.{Iface}
use Rattle.iface_codec.specs.declared.iface.IfaceMethod.{IfaceMethod}
use Rattle.jp_store.specs.declared.value.Value.{Value}
use Rattle.jp_store.specs.declared.value.Value.TheVariants.{Int, Long, Null, Ref, Text}
use Rattle.jp_store.specs.declared.value.Kind.{Kind}
use Rattle.jp_store.specs.declared.value.Kind.TheVariants.{Number, LongNumber, Reference}
use Rattle.jp_store.specs.declared.outcome.Outcome.TheVariants.{Fine}
use Rattle.jp_store.specs.Arith.{is_kind}
use Rattle.jp_store.specs.Work.{where_true}
use Rattle.jp_store.specs.Store.{Store}
use Rattle.jp_does.specs.Does.{Gives, then_do, do_of, found}
use Rattle.jp_does.specs.OpenTrace.{open_trace}
use Rattle.jp_meaning.specs.declared.unit.TypedMember.{TypedMember}
use Rattle.jp_meaning.specs.declared.unit.TypedPart.{TypedPart}
use Rattle.jp_meaning.specs.declared.unit.TypedPart.TheVariants as part
use Rattle.jp_meaning.specs.Classes.{is_static}
use Rattle.jp_meaning.specs.Descriptors.{internal_name, kind_of_type}
use Rattle.jp_meaning.specs.Expressions.{Locals, are_of, local_value, meant, values_of, construct}
use Rattle.jp_meaning.specs.Statements.{Left, Goes, Breaks, Continues, Returned, block_does}
use Rattle.jp_meaning.specs.Members.{read_aliases, locals_of, leaves, returned, super_first, statements_do, part_does, member_does}
use Rattle.jp_meaning.specs.OpenTrace.{member_trace}
use Rattle.jp_meaning.specs.Run.{receiver_class}
use Rattle.jvm_table.specs.declared.frame.Frame.{Frame}
use Rattle.jvm_table.specs.declared.instr.Instr.TheVariants.{ReturnVoid}
use Rattle.jvm_table.specs.Act.{Leaves, is_same_kind, result_kind, leaves_with, leaves_void, where_so as where_row}
use Rattle.code_trace.specs.Entry.{entry}
use Rattle.code_trace.specs.CodeTrace.{on_frame, code_does}
use Rattle.code_trace.specs.Given.{are_given, are_for, has_receiver}
use Rattle.code_trace.specs.OpenTraces.{IsTraceOf}
use Rattle.code_trace.specs.Follows.{Leaving}
use Rattle.code_trace.proofs.Follow.{ending as ending_all, stop as stop_at}
use Rattle.code_trace.proofs.Traces.{traces}
use Rattle.gen_body.specs.Statements.{block_code}
use Rattle.gen_body.specs.Members.{given_to, super_code, aliases_code, end_code, framed, method_code, part_code, member_code}
use Rattle.gen_body.specs.Correct.{result_of, slots_of, IsCodeOf, CompiledHasOpenTraces}
use Rattle.gen_body.proofs.Going.{Setting, run, at, Standing, standing, parted, Held_still, Going, from_here, seq, stop}
use Rattle.gen_body.proofs.Blocks.{Room, at_row, IsOver}
use Rattle.gen_body.proofs.Statements.{After, block_makes}
use Rattle.gen_body.proofs.Entry.{AreNarrow, of_given, of_method, entry_is}
use Rattle.gen_body.proofs.Starts.{super_run, AreRead, aliases_run}
use Rattle.gen_body.proofs.Deep.{member_deep}

-- the kind of a value that has one
abbrev kind_in : Value → Kind
kind_in (Int n) = Number
kind_in (Long n) = LongNumber
kind_in Null = Reference
kind_in (Ref o) = Reference
kind_in (Text t) = Number

one_kind : (kind : Kind) (v : Value) → is_kind kind v ≡ true → kind ≡ kind_in v
one_kind Number (Int n) e = refl
one_kind Number (Long n) e = absurd (false≢true e)
one_kind Number Null e = absurd (false≢true e)
one_kind Number (Ref o) e = absurd (false≢true e)
one_kind Number (Text t) e = absurd (false≢true e)
one_kind LongNumber (Int n) e = absurd (false≢true e)
one_kind LongNumber (Long n) e = refl
one_kind LongNumber Null e = absurd (false≢true e)
one_kind LongNumber (Ref o) e = absurd (false≢true e)
one_kind LongNumber (Text t) e = absurd (false≢true e)
one_kind Reference (Int n) e = absurd (false≢true e)
one_kind Reference (Long n) e = absurd (false≢true e)
one_kind Reference Null e = refl
one_kind Reference (Ref o) e = refl
one_kind Reference (Text t) e = absurd (false≢true e)

same_kind : (kind : Kind) → is_same_kind kind kind ≡ true
same_kind Number = refl
same_kind LongNumber = refl
same_kind Reference = refl

module _ (w : Setting) where
  -- the end of a member with such a result
  module _ (result : Option Kind) (is : result_kind w.file w.method ≡ Some result) where
    leaves_now : (v : Option Value) (c : ℕ) (f : Frame) → After w 0 0 1 [] 1 (Returned v) c f → Going w (Leaving (run w)) c f (leaves result v)
    leaves_now v c f q = by_result result is v q where
      by_value : (kind : Kind) → result_kind w.file w.method ≡ Some (Some kind) → (v : Value) → After w 0 0 1 [] 1 (Returned (Some v)) c f → (x : Bool) → is_kind kind v ≡ x → Going w (Leaving (run w)) c f (do_of (where_true x (Fine v)) Gives)
      by_value kind is v q false e = λ held. tt
      by_value kind is v q true e =
          let same : is_same_kind q.1 kind ≡ true = ap (λ k. is_same_kind k kind) (one_kind q.1 v q.2 ∙ sym (one_kind kind v e)) ∙ same_kind kind in
          stop w (Leaving (run w)) c f v
          (q.0, Some v, q.3 ∙ ap (λ (o : Option (Option Kind)). leaves_with o q.1 v) is ∙ ap (λ x. where_row (x && is_kind q.1 v) (Leaves (Some v))) same ∙ ap (λ x. where_row x (Leaves (Some v))) q.2, refl)

      by_result : (result : Option Kind) → result_kind w.file w.method ≡ Some result → (v : Option Value) → After w 0 0 1 [] 1 (Returned v) c f → Going w (Leaving (run w)) c f (leaves result v)
      by_result None is None q = stop w (Leaving (run w)) c f Null (q.0, None, q.1 ∙ ap leaves_void is, refl)
      by_result None is (Some v) q = λ held. tt
      by_result (Some kind) is None q = λ held. tt
      by_result (Some kind) is (Some v) q = by_value kind is v q (is_kind kind v) refl

    ends : (m to : ℕ) → Standing w m (end_code result) to → (l : Left) (c : ℕ) (f : Frame) → After w m 0 1 [] 1 l c f → Going w (Leaving (run w)) c f (returned result l)
    ends m to s (Goes env) c f q = by_result result is s where
      by_result : (result : Option Kind) → result_kind w.file w.method ≡ Some result → Standing w m (end_code result) to → Going w (Leaving (run w)) c f (leaves result None)
      by_result None is s =
          from_here w (Leaving (run w)) c f (at w m env []) (Gives Null) q.1
          (stop w (Leaving (run w)) c (at w m env []) Null (omega (arith, q.0), None, at_row w ReturnVoid m s.0 env [] s.1 ∙ ap leaves_void is, refl))
      by_result (Some kind) is s = λ held. tt
    ends m to s (Breaks env) c f q = λ held. tt
    ends m to s (Continues env) c f q = λ held. tt
    ends m to s (Returned v) c f q = leaves_now v c f q

    -- the statements of a member
    statements_run : (m : TypedMember) (k next pc to : ℕ) (env : Locals) (b0 : ℕ) → let c = block_code m.block next 0 1 in Standing w pc (c.items ++ end_code result) to → length (c.items ++ end_code result) ≤ b0 → length (c.items ++ end_code result) ≤ w.more → Room w c.need [] → Going w (Leaving (run w)) b0 (at w pc env []) (statements_do result m k env)
    statements_run m k next pc to env b0 s le size room =
        let c = block_code m.block next 0 1 in
        let p = parted w c.items (end_code result) pc to s in
        let l = length-append c.items (end_code result) in
        let one : 1 ≤ length (end_code result) = some_end result in
        seq w (After w p.mid 0 1 [] 1) (Leaving (run w)) (returned result) (ends p.mid to p.back) (block_does m.block k env) b0 (at w pc env [])
        (block_makes w m.block k next 0 1 (omega (arith, l, size)) pc p.mid env [] b0 1 p.front (omega (arith, l, le, one)) room) where
          some_end : (result : Option Kind) → 1 ≤ length (end_code result)
          some_end None = omega arith
          some_end (Some kind) = omega arith

  -- a method: its aliases, and then its statements
  method_run : (hier : Hier) (o : Option IfaceMethod) (m : TypedMember) (k to : ℕ) (vs : List Value) → Standing w 0 (method_code hier o m).items to → length (method_code hier o m).items ≤ w.more → Room w (method_code hier o m).need [] →
      result_kind w.file w.method ≡ Some (option_map_or (λ (method : IfaceMethod). kind_of_type method.result) o None) → option_map_or (λ (method : IfaceMethod). given_to method + length method.aliases) o 0 ≤ m.locals → ((method : IfaceMethod) → o ≡ Some method → length vs ≡ given_to method) →
      Going w (Leaving (run w)) w.more (at w 0 (locals_of m vs) []) (found o (λ method. then_do (read_aliases hier method.aliases vs) (λ more. statements_do (kind_of_type method.result) m k (locals_of m (vs ++ more)))))
  method_run hier None m k to vs s size room result slots given = λ held. tt
  method_run hier (Some method) m k to vs s size room result slots given =
      let start = aliases_code hier (given_to method) method.aliases in
      let c = block_code m.block 2 0 1 in
      let rest = c.items ++ end_code (kind_of_type method.result) in
      let p = parted w start rest 0 to s in
      let l = length-append start rest in
      let len : given_to method ≡ length vs = sym (given method refl) in
      seq w (AreRead w m vs p.mid (length rest)) (Leaving (run w)) (λ more. statements_do (kind_of_type method.result) m k (locals_of m (vs ++ more)))
      (λ more c1 f q. from_here w (Leaving (run w)) c1 f (at w p.mid (locals_of m (vs ++ more)) []) (statements_do (kind_of_type method.result) m k (locals_of m (vs ++ more))) q.1
      (statements_run (kind_of_type method.result) result m k 2 p.mid to (locals_of m (vs ++ more)) c1 p.back q.0 (omega (arith, l, size)) (omega (arith, room))))
      (read_aliases hier method.aliases vs) w.more (at w 0 (locals_of m vs) [])
      (aliases_run w m hier method.aliases vs [] vs (sym (append-nil vs)) 0 p.mid w.more (length rest)
      (subst (λ n. Standing w 0 (aliases_code hier n method.aliases) p.mid) len p.front)
      (subst (λ n. length (aliases_code hier n method.aliases) + length rest ≤ w.more) len (omega (arith, l, size))) (omega (arith, room)) (omega (arith, slots, len)))

  -- a constructor: that of the superclass, and then its statements
  constructor_run : w.received ≡ true → (head : Iface) (m : TypedMember) (k to : ℕ) (env : Locals) → Standing w 0 (framed None (super_code head.superclass m 2) m).items to → length (framed None (super_code head.superclass m 2) m).items ≤ w.more → Room w (framed None (super_code head.superclass m 2) m).need [] → result_kind w.file w.method ≡ Some None →
      Going w (Leaving (run w)) w.more (at w 0 env []) (then_do (super_first head m env) (λ done. statements_do None m k env))
  constructor_run received head m k to env s size room result = by_super head.superclass s size room where
    by_super : (o : Option Word) → Standing w 0 (framed None (super_code o m 2) m).items to → length (framed None (super_code o m 2) m).items ≤ w.more → Room w (framed None (super_code o m 2) m).need [] → Going w (Leaving (run w)) w.more (at w 0 env []) (then_do (found o (λ superclass. then_do (local_value 0 Reference env) (λ r. then_do (values_of (map meant m.super_args) env) (λ args. construct superclass m.super_params r args)))) (λ done. statements_do None m k env))
    by_super None s size room = λ held. tt
    by_super (Some superclass) s size room =
        let start = super_code (Some superclass) m 2 in
        let c = block_code m.block start.next 0 1 in
        let rest = c.items ++ end_code None in
        let p = parted w start.items rest 0 to s in
        let l = length-append start.items rest in
        seq w (IsOver w p.mid env [] (length rest)) (Leaving (run w)) (λ done. statements_do None m k env)
        (λ v c1 f q. from_here w (Leaving (run w)) c1 f (at w p.mid env []) (statements_do None m k env) q.1
        (statements_run None result m k start.next p.mid to env c1 p.back q.0 (omega (arith, l, size)) (omega (arith, room))))
        (then_do (local_value 0 Reference env) (λ r. then_do (values_of (map meant m.super_args) env) (λ args. construct superclass m.super_params r args))) w.more (at w 0 env []) (super_run w received superclass m 2 0 p.mid env w.more (length rest) p.front (omega (arith, l, size)) (omega (arith, room)))

  part_run : (hier : Hier) (head : Iface) (m : TypedMember) (p : TypedPart) (k to : ℕ) (vs : List Value) → Standing w 0 (part_code hier head m p).items to → length (part_code hier head m p).items ≤ w.more → Room w (part_code hier head m p).need [] →
      result_kind w.file w.method ≡ Some (result_of head p) → slots_of head p ≤ m.locals → are_for head p vs ≡ true → w.received ≡ has_receiver head p → Going w (Leaving (run w)) w.more (at w 0 (locals_of m vs) []) (part_does hier head m p k vs)
  part_run hier head m (part.Field at) k to vs s size room result slots given received = λ held. tt
  part_run hier head m (part.Method at) k to vs s size room result slots given received =
      method_run hier (slice_get head.methods at) m k to vs s size room result slots (λ method e. (of_method method vs (sym (ap (λ (o : Option IfaceMethod). option_map_or (λ method. cond (is_static method.kind) (are_of method.params vs) (are_given method.params vs)) o false) e) ∙ given)).1)
  part_run hier head m (part.Constructor at) k to vs s size room result slots given received = constructor_run received head m k to (locals_of m vs) s size room result

-- what a member is given has its places
given_fits : (head : Iface) (p : TypedPart) (vs : List Value) (locals : ℕ) → are_for head p vs ≡ true → slots_of head p ≤ locals → AreNarrow vs × (length vs ≤ locals)
given_fits head (part.Field at) vs locals e le = absurd (false≢true e)
given_fits head (part.Method at) vs locals e le = by_method (slice_get head.methods at) e le where
  by_method : (o : Option IfaceMethod) → option_map_or (λ (method : IfaceMethod). cond (is_static method.kind) (are_of method.params vs) (are_given method.params vs)) o false ≡ true → option_map_or (λ (method : IfaceMethod). given_to method + length method.aliases) o 0 ≤ locals → AreNarrow vs × (length vs ≤ locals)
  by_method None e le = absurd (false≢true e)
  by_method (Some method) e le = let h = of_method method vs e in (h.0, omega (arith, h.1, le))
given_fits head (part.Constructor at) vs locals e le = by_params (slice_get head.constructors at) e le where
  by_params : (o : Option (List Ty)) → option_map_or (λ params. are_given params vs) o false ≡ true → option_map_or (λ (params : List Ty). 1 + length params) o 0 ≤ locals → AreNarrow vs × (length vs ≤ locals)
  by_params None e le = absurd (false≢true e)
  by_params (Some params) e le = let h = of_given params vs e in (h.0, omega (arith, h.1, le))

-- the number of a receiver
abbrev number_of : List Value → ℕ
number_of (Ref o ∷ vs) = o
number_of _ = 0

-- a receiver that is an object is in the first local
given_first : (s : Store) (own : Word) (m : TypedMember) (vs : List Value) → receiver_class s vs ≡ Some own → slice_get (locals_of m vs) 0 ≡ Some (Some (Ref (number_of vs)))
given_first s own m [] e = absurd (false≢true (ap is_some e))
given_first s own m (Ref o ∷ vs) e = refl
given_first s own m (Null ∷ vs) e = absurd (false≢true (ap is_some e))
given_first s own m (Int n ∷ vs) e = absurd (false≢true (ap is_some e))
given_first s own m (Long n ∷ vs) e = absurd (false≢true (ap is_some e))
given_first s own m (Text t ∷ vs) e = absurd (false≢true (ap is_some e))

-- a member's code in a method, given these values
abbrev setting_of : (hier : Hier) (head : Iface) (m : TypedMember) (file : ClassFile) (method : MemberInfo) → IsCodeOf hier head m file method → ℕ → List Value → Setting
setting_of hier head m file method is more vs = record {
  file = file;
  method = method;
  code = is.code;
  has = is.has;
  current = internal_name head.name;
  this = is.this;
  more = more;
  place = is.place;
  received = has_receiver head m.part;
  receiver = number_of vs;
}

-- a method with the code of a member begins with what the member is given
pub code_enters : (hier : Hier) (head : Iface) (m : TypedMember) (file : ClassFile) (method : MemberInfo) → IsCodeOf hier head m file method → (vs : List Value) → are_for head m.part vs ≡ true → (f : Frame) × (entry method vs ≡ Some f)
code_enters hier head m file method is vs given =
    let w = setting_of hier head m file method is 0 vs in
    let fits = given_fits head m.part vs m.locals given is.slots in
    (at w 0 (locals_of m vs) [], entry_is w m vs is.locals fits.0 fits.1)

pub open_traces : CompiledHasOpenTraces
open_traces hier head m file method more is keeps size = λ vs s given t answers i.
    let w = setting_of hier head m file method is more vs in
    let d = member_does hier head m (suc t) vs in
    let f = at w 0 (locals_of m vs) [] in
    let fits = given_fits head m.part vs m.locals given.kinds is.slots in
    let stands = standing w (member_code hier head m).items 0 is.to is.stands keeps in
    let goes = part_run w hier head m m.part (suc t) is.to vs stands size (omega (arith, is.room)) is.result is.slots given.kinds refl (λ received. given_first s (given.receiver received).0 m vs (given.receiver received).1) in
    let follows = ending_all (run w) w.current more (Held_still w (Leaving (run w))) (Leaving (run w)) (λ v c to q. stop_at (run w) w.current more (Leaving (run w)) c to v q.0) d more f goes in
    let h = traces (run w) (internal_name head.name) more d more f t answers s i (member_deep hier head m (suc t) vs) follows in (
      h.0,
      subst (λ (o : Option Frame). IsTraceOf (internal_name head.name) (open_trace h.0 answers s i (on_frame o (code_does (run w) h.0))) (member_trace hier head m vs t answers s i) more more) (sym (entry_is w m vs is.locals fits.0 fits.1)) h.1,
    )
