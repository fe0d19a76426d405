-- The code of an expression does what the expression does.
use Rattle.std.proofs.Common.{◌≡◌, ℕ, ◌+◌, ◌-◌, ◌≤◌, List, [], ◌∷◌, ◌++◌, length, map, Option, Some, None, refl, sym, ap, ◌∙◌, subst, arith}
use Rattle.std.specs.Prelude.{ℤ, pos, negsuc, Bool, true, false, not, ◌==◌, cond, max, slice_get, option_and_then, if◌then◌else◌, codes}
use Rattle.std.specs.Int.{w32, int_wrap}
use Rattle.std.specs.Option.{option_map}
use Rattle.std.proofs.lemmas.Bool.{eqb-true}
use Rattle.std.proofs.lemmas.Int.{int_wrap_fits}
use Rattle.class_form.specs.declared.constant.Const.{Const}
use Rattle.class_form.specs.Constants.{utf8_at}
use Rattle.jp_pred.specs.declared.ty.Ty.{Ty}
use Rattle.jp_pred.specs.Kinds.{is_reference}
use Rattle.jp_store.specs.declared.value.Value.{Value}
use Rattle.jp_store.specs.declared.value.Value.TheVariants.{Int, Long, Null, Ref, Text}
use Rattle.jp_store.specs.declared.value.Kind.{Kind}
use Rattle.jp_store.specs.declared.value.Kind.TheVariants.{Number, Reference}
use Rattle.jp_store.specs.declared.operator.BinaryOp.TheVariants.{Xor}
use Rattle.jp_store.specs.declared.operator.Test.{Test}
use Rattle.jp_store.specs.declared.outcome.Outcome.TheVariants.{Fine}
use Rattle.jp_store.specs.Arith.{binary, negated, compares, is_kind, on_int, of_truth}
use Rattle.jp_store.specs.Classes.{Key}
use Rattle.jp_store.specs.Work.{Op, NamedElement, IntElements, BooleanElements, ClassElements, GetField as FieldRead, GetStatic as StaticRead, MakeArray, GetElem, Length, InstanceOf as InstanceTest, Cast}
use Rattle.jp_does.specs.Does.{Gives, Prints, Shows, Works, Stuck, then_do, do_of, found}
use Rattle.jp_meaning.specs.declared.expr.TypedExpr.{TypedExpr}
use Rattle.jp_meaning.specs.declared.expr.TypedKind.{TypedKind, TypedKind-F}
use Rattle.jp_meaning.specs.declared.expr.TypedKind.TheOpen as form
use Rattle.jp_meaning.specs.declared.expr.TypedKind.TheFolds.{ind-TypedExpr, fold-TypedKind, fold-roll-TypedExpr, fold-roll-TypedKind, map-TypedKind}
use Rattle.jp_meaning.specs.Does.{Does, OfSuperclass, calls_on}
use Rattle.jp_meaning.specs.Descriptors.{internal_name, method_of, key_of, kind_of_type, element_kind_of, elements_of}
use Rattle.jp_meaning.specs.Signs.{Prefix, Plus, Minus, Not, Complement, Infix, Operates, Compares, AndThen, OrElse, prefix_of, infix_of}
use Rattle.jp_meaning.specs.Expressions.{Locals, fits, typed, fit, are_of, where_so, local_value, Spot, Slot, FieldOf, StaticAt, ElementOf, Meant, values_of, prefixed, compares_references, infixed, construct, meant_step, meant}
use Rattle.jvm_table.specs.declared.frame.Frame.{Frame}
use Rattle.jvm_table.specs.declared.instr.Instr.TheVariants.{PushNull, PushInt, Load, LoadElement, MakeNumbers, MakeTruths, ArrayLength, Dup, Binary, Negate, OnConstant}
use Rattle.jvm_table.specs.declared.instr.ConstantUse.TheVariants.{PushConstant, GetStatic, GetField, InvokeStatic, InvokeSpecial, MakeObject, MakeReferences, CheckCast, InstanceOf}
use Rattle.jvm_table.specs.Constants.{string_in}
use Rattle.jvm_table.specs.Act.{ShowsText, Asks, Effects, pushed, on_found, acted, shows_int, constant_value, calls_static, where_so as where_row}
use Rattle.code_asm.specs.Items.{Wanted, IntOf, TextOf, ClassOf, Item, Plain, Uses}
use Rattle.code_asm.specs.Items as item
use Rattle.gen_body.specs.Codes.{Codes, plain, push_int, make_array, io, construction, virtual_call, named, family, Place, LocalAt, FieldAt, ElementAt, Literal, Zero, Nil, Anything, SpotCodes, Coded, compare_both, compare_codes, row_codes, prefix_codes, infix_codes, local_codes, array_codes, local_spot, coded_step, coded, jump_by, jump_by_zero, jump_by_null, and_test, or_test, choice}
use Rattle.gen_body.specs.Codes as code
use Rattle.gen_body.proofs.Values.{IsNarrow, IsShort, IsShortIf, types_short, binary_narrow, negated_narrow}
use Rattle.gen_body.proofs.Going.{Setting, run, at, Standing, parted, Going, family_received, seq, stop, moves, shows_on, texts_on, asks_on}
use Rattle.gen_body.proofs.Blocks.{all_on, dup_row, Room, at_row, has_push, push_row, IsAt, IsOver, IsVoid, Pushes, Runs, operand, push_last, outcome_last, fit_last, work_last, typed_last, plain_runs, void_runs, judged_runs}
use Rattle.gen_body.proofs.Conditions.{not_judges, and_judges, or_judges, compare_judges, zero_judges, null_judges, choice_run, value_over}
use Rattle.gen_body.proofs.Calls.{Came, need_le, called_runs, static_last, virtual_last, AreAt, Fills, args_then}
use Rattle.gen_body.proofs.Specials.{receiver_then, made_then, super_last, construct_last}

-- the parts of what is assigned to, above the stack
abbrev pub parts_on : Spot → List Value → List Value
parts_on (Slot slot kind) st = st
parts_on (FieldOf o key) st = o ∷ st
parts_on (StaticAt key) st = st
parts_on (ElementOf kind a i) st = i ∷ a ∷ st

-- the place is that of what is assigned to, whose parts take one place each
abbrev pub IsPlace : Place → Spot → Type 0
IsPlace place (Slot slot kind) = (place ≡ LocalAt slot kind) × IsShort kind
IsPlace place (FieldOf o key) = (place ≡ FieldAt key) × IsNarrow o
IsPlace place (StaticAt key) = place ≡ code.StaticAt key
IsPlace place (ElementOf kind a i) = (place ≡ ElementAt kind) × IsNarrow a × IsNarrow i

-- what an expression is known to be, it is
abbrev pub IsKnown : Literal → (Locals → Does Value) → Type 0
IsKnown Zero d = (env : Locals) → d env ≡ Gives (Int (pos 0))
IsKnown Nil d = (env : Locals) → d env ≡ Gives Null
IsKnown Anything d = Unit {0}

module _ (w : Setting) where
  abbrev pub IsSpot : Place → ℕ → Locals → List Value → ℕ → Spot → ℕ → Frame → Type 0
  IsSpot place to env st b spot left f = (b ≤ left) × (f ≡ at w to env (parts_on spot st)) × IsPlace place spot

  abbrev pub Spots : SpotCodes → (Locals → Does Spot) → Type 0
  Spots c d = (pc to : ℕ) (env : Locals) (st : List Value) (b0 b : ℕ) → Standing w pc c.items to → length c.items + b ≤ b0 → Room w c.need st → Going w (IsSpot c.place to env st b) b0 (at w pc env st) (d env)

  -- the code of an expression does what it means
  pub record Sure (m : Meant) (k : Coded) : Type 0 where
    pub same : k.ty ≡ m.ty
    pub known : IsKnown k.literal m.value
    pub value : (n : ℕ) → Runs w (k.codes n) m.value
    pub spot : (n : ℕ) → Spots (k.spot n) m.spot

  -- an int
  pub int_last : (n : ℤ) (pc to : ℕ) (env : Locals) (st : List Value) (b0 b : ℕ) → Standing w pc (push_int n ∷ []) to → 1 + b ≤ b0 → Room w 1 st → Going w (IsAt w to env st b) b0 (at w pc env st) (Gives (Int n))
  int_last n pc to env st b0 b s le room = by_size (code.is_short n) s where
    by_size : (x : Bool) → Standing w pc (cond x (Plain (PushInt n)) (Uses PushConstant (IntOf n)) ∷ []) to → Going w (IsAt w to env st b) b0 (at w pc env st) (Gives (Int n))
    by_size true s = push_last w (Int n) to env st b0 b (at w pc env st) (λ h. h) le refl room (at_row w (PushInt n) pc s.0 env st s.1 ∙ ap (λ k. pushed (Int n) (at w k env st)) s.2)
    by_size false s =
        push_last w (Int n) to env st b0 b (at w pc env st) (λ h. h) le refl room
        (at_row w (OnConstant PushConstant s.0) pc s.1 env st s.2
        ∙ ap (λ (o : Option Const). on_found (option_and_then (constant_value w.file s.0) o) (λ v. pushed v (at w s.1 env st))) s.3
        ∙ ap (λ k. pushed (Int n) (at w k env st)) s.4)

  -- a local
  pub load_last : (kind : Kind) → IsShort kind → (slot pc to : ℕ) (env : Locals) (st : List Value) (b0 b : ℕ) → Standing w pc (Plain (Load kind slot) ∷ []) to → 1 + b ≤ b0 → Room w 1 st → Going w (IsAt w to env st b) b0 (at w pc env st) (local_value slot kind env)
  load_last kind short slot pc to env st b0 b s le room = by_value (option_and_then (λ v. v) (slice_get env slot)) (at_row w (Load kind slot) pc s.0 env st s.1) where
    by_value : (o : Option Value) → run w (at w pc env st) ≡ on_found o (λ v. where_row (is_kind kind v) (pushed v (at w s.0 env st))) → Going w (IsAt w to env st b) b0 (at w pc env st) (found o (fits kind))
    by_value None e = λ held. tt
    by_value (Some v) e = fit_last w kind short v to env st b0 b (at w pc env st) (λ h. h) le room (e ∙ ap (λ k. where_row (is_kind kind v) (pushed v (at w k env st))) s.2)

  local_runs : (o : Option Kind) → IsShortIf o → (slot n : ℕ) → Runs w (local_codes o slot n) (λ env. found o (λ kind. local_value slot kind env))
  local_runs None short slot n = plain_runs w [] 0 n (λ env. Stuck) (λ pc to env st b0 b s le room. λ held. tt)
  local_runs (Some kind) short slot n = plain_runs w (Plain (Load kind slot) ∷ []) 1 n (local_value slot kind) (λ pc to env st b0 b s le room. load_last kind short slot pc to env st b0 b s le room)

  -- an operator in front
  plus_runs : (m : Meant) (c : Codes) → Runs w c m.value → Pushes w c.value c.need (λ env. prefixed Plus (m.value env))
  plus_runs m c h pc to env st b0 b s le room =
      seq w (IsAt w to env st b) (IsAt w to env st b) (λ v. do_of (on_int (λ n. Fine (Int n)) v) Gives) same_int
      (m.value env) b0 (at w pc env st) (h.value pc to env st b0 b s le room) where
        same_int : (v : Value) (c : ℕ) (f : Frame) → IsAt w to env st b v c f → Going w (IsAt w to env st b) c f (do_of (on_int (λ n. Fine (Int n)) v) Gives)
        same_int (Int n) c f q = stop w (IsAt w to env st b) c f (Int n) q
        same_int (Long n) c f q = λ held. tt
        same_int Null c f q = λ held. tt
        same_int (Ref o) c f q = λ held. tt
        same_int (Text t) c f q = λ held. tt

  prefix_runs : (o : Option Prefix) (m : Meant) (k : Coded) → Sure m k → (n : ℕ) → Runs w (prefix_codes o k n) (λ env. found o (λ op. prefixed op (m.value env)))
  prefix_runs None m k h n = plain_runs w [] 0 n (λ env. Stuck) (λ pc to env st b0 b s le room. λ held. tt)
  prefix_runs (Some Plus) m k h n = let c = k.codes n in plain_runs w c.value c.need c.next (λ env. prefixed Plus (m.value env)) (plus_runs m c (h.value n))
  prefix_runs (Some Minus) m k h n =
      let c = k.codes n in
      plain_runs w (c.value ++ Plain Negate ∷ []) c.need c.next (λ env. prefixed Minus (m.value env)) (λ pc to env st b0 b s le room.
      operand w (IsAt w to env st b) c.value (Plain Negate ∷ []) c.need m.value (λ v. do_of (negated v) Gives) (h.value n).value pc to env st b0 b s le room (λ v m1 c1 nv s1 le1.
      outcome_last w (negated v) to env st c1 b (at w m1 env (v ∷ st)) (λ h. h) (omega (arith, le1)) (negated_narrow v) nv.1
      (at_row w Negate m1 s1.0 env (v ∷ st) s1.1 ∙ ap (λ k. acted (negated v) (λ u. pushed u (at w k env st))) s1.2)))
  prefix_runs (Some Complement) m k h n =
      let c = k.codes n in
      let last : List Item = Plain (PushInt (negsuc 0)) ∷ Plain (Binary Xor) ∷ [] in
      plain_runs w (c.value ++ last) (max c.need 2) c.next (λ env. prefixed Complement (m.value env)) (λ pc to env st b0 b s le room.
      operand w (IsAt w to env st b) c.value last c.need m.value (λ v. do_of (binary Xor v (Int (negsuc 0))) Gives) (h.value n).value pc to env st b0 b s le (omega (arith, room)) (λ v m1 c1 nv s1 le1.
      moves w (IsAt w to env st b) c1 (at w m1 env (v ∷ st)) (at w s1.0 env (Int (negsuc 0) ∷ v ∷ st)) (do_of (binary Xor v (Int (negsuc 0))) Gives) (λ h. h) (omega (arith, le1))
      (at_row w (PushInt (negsuc 0)) m1 s1.0 env (v ∷ st) s1.1 ∙ push_row w (Int (negsuc 0)) s1.0 env (v ∷ st) refl (omega (arith, room, nv.0)))
      (outcome_last w (binary Xor v (Int (negsuc 0))) to env st (c1 - 1) b (at w s1.0 env (Int (negsuc 0) ∷ v ∷ st)) (λ h. h) (omega (arith, le1)) (binary_narrow Xor v (Int (negsuc 0))) nv.1
      (at_row w (Binary Xor) s1.0 s1.2.0 env (Int (negsuc 0) ∷ v ∷ st) s1.2.1 ∙ ap (λ k. acted (binary Xor v (Int (negsuc 0))) (λ u. pushed u (at w k env st))) s1.2.2))))
  prefix_runs (Some Not) m k h n =
      let c = k.codes (n + 2) in
      judged_runs w (λ want label. c.test (not want) label) n c.need c.next (λ env. prefixed Not (m.value env)) (not_judges w c.test c.need m.value (h.value (n + 2)).test)

  -- a comparison
  both_runs : (references : Bool) (test : Test) (m1 m2 : Meant) (k1 k2 : Coded) → Sure m1 k1 → Sure m2 k2 → (n : ℕ) → Runs w (compare_both references test k1 k2 n) (λ env. then_do (m1.value env) (λ x. then_do (m2.value env) (λ y. do_of (if references then compares_references test x y else compares test x y) (λ z. Gives (of_truth z)))))
  both_runs references test m1 m2 k1 k2 h1 h2 n =
      let c = k1.codes (n + 2) in let d = k2.codes c.next in
      judged_runs w (λ want label. c.value ++ (d.value ++ item.Branch (jump_by references test want) label ∷ [])) n (max c.need (1 + d.need)) d.next (λ env. then_do (m1.value env) (λ x. then_do (m2.value env) (λ y. do_of (if references then compares_references test x y else compares test x y) (λ z. Gives (of_truth z)))))
      (compare_judges w references test c.value d.value c.need d.need m1.value m2.value (h1.value (n + 2)).value (h2.value c.next).value (max c.need (1 + d.need)) (omega arith) (omega arith))

  compare_runs : (references : Bool) (literal : Literal) (test : Test) (m1 m2 : Meant) (k1 k2 : Coded) → Sure m1 k1 → Sure m2 k2 → IsKnown literal m2.value → (n : ℕ) → Runs w (compare_codes references literal test k1 k2 n) (λ env. then_do (m1.value env) (λ x. then_do (m2.value env) (λ y. do_of (if references then compares_references test x y else compares test x y) (λ z. Gives (of_truth z)))))
  compare_runs false Zero test m1 m2 k1 k2 h1 h2 known n =
      let c = k1.codes (n + 2) in
      judged_runs w (λ want label. c.value ++ item.Branch (jump_by_zero test want) label ∷ []) n c.need c.next (λ env. then_do (m1.value env) (λ x. then_do (m2.value env) (λ y. do_of (compares test x y) (λ z. Gives (of_truth z)))))
      (zero_judges w test c.value c.need m1.value m2.value known (h1.value (n + 2)).value)
  compare_runs true Nil test m1 m2 k1 k2 h1 h2 known n =
      let c = k1.codes (n + 2) in
      judged_runs w (λ want label. c.value ++ item.Branch (jump_by_null test want) label ∷ []) n c.need c.next (λ env. then_do (m1.value env) (λ x. then_do (m2.value env) (λ y. do_of (compares_references test x y) (λ z. Gives (of_truth z)))))
      (null_judges w test c.value c.need m1.value m2.value known (h1.value (n + 2)).value)
  compare_runs true Zero test m1 m2 k1 k2 h1 h2 known n = both_runs true test m1 m2 k1 k2 h1 h2 n
  compare_runs true Anything test m1 m2 k1 k2 h1 h2 known n = both_runs true test m1 m2 k1 k2 h1 h2 n
  compare_runs false Nil test m1 m2 k1 k2 h1 h2 known n = both_runs false test m1 m2 k1 k2 h1 h2 n
  compare_runs false Anything test m1 m2 k1 k2 h1 h2 known n = both_runs false test m1 m2 k1 k2 h1 h2 n

  -- an operator between
  infix_runs : (o : Option Infix) (m1 m2 : Meant) (k1 k2 : Coded) → Sure m1 k1 → Sure m2 k2 → (n : ℕ) → Runs w (infix_codes o k1 k2 n) (λ env. found o (λ op. infixed op m1.ty (m1.value env) (m2.value env)))
  infix_runs None m1 m2 k1 k2 h1 h2 n = plain_runs w [] 0 n (λ env. Stuck) (λ pc to env st b0 b s le room. λ held. tt)
  infix_runs (Some (Operates op)) m1 m2 k1 k2 h1 h2 n =
      let c = k1.codes n in let d = k2.codes c.next in
      plain_runs w (c.value ++ (d.value ++ Plain (Binary op) ∷ [])) (max c.need (1 + d.need)) d.next (λ env. infixed (Operates op) m1.ty (m1.value env) (m2.value env)) (λ pc to env st b0 b s le room.
      operand w (IsAt w to env st b) c.value (d.value ++ Plain (Binary op) ∷ []) c.need m1.value (λ x. then_do (m2.value env) (λ y. do_of (binary op x y) Gives)) (h1.value n).value pc to env st b0 b s le (omega (arith, room)) (λ x p1 c1 nx s1 le1.
      operand w (IsAt w to env st b) d.value (Plain (Binary op) ∷ []) d.need m2.value (λ y. do_of (binary op x y) Gives) (h2.value c.next).value p1 to env (x ∷ st) c1 b s1 le1 (omega (arith, room, nx.0)) (λ y p2 c2 ny s2 le2.
      outcome_last w (binary op x y) to env st c2 b (at w p2 env (y ∷ x ∷ st)) (λ h. h) (omega (arith, le2)) (binary_narrow op x y) nx.1
      (at_row w (Binary op) p2 s2.0 env (y ∷ x ∷ st) s2.1 ∙ ap (λ k. acted (binary op x y) (λ u. pushed u (at w k env st))) s2.2))))
  infix_runs (Some (Compares test)) m1 m2 k1 k2 h1 h2 n =
      subst (λ t. Runs w (compare_codes (is_reference k1.ty) k2.literal test k1 k2 n) (λ env. infixed (Compares test) t (m1.value env) (m2.value env))) h1.same
      (compare_runs (is_reference k1.ty) k2.literal test m1 m2 k1 k2 h1 h2 h2.known n)
  infix_runs (Some AndThen) m1 m2 k1 k2 h1 h2 n =
      let c = k1.codes (n + 3) in let d = k2.codes c.next in
      judged_runs w (and_test c.test d.test (n + 2)) n (max c.need d.need) d.next (λ env. infixed AndThen m1.ty (m1.value env) (m2.value env))
      (and_judges w c.test d.test (n + 2) c.need d.need m1.value m2.value (h1.value (n + 3)).test (h2.value c.next).test (max c.need d.need) (omega arith) (omega arith))
  infix_runs (Some OrElse) m1 m2 k1 k2 h1 h2 n =
      let c = k1.codes (n + 3) in let d = k2.codes c.next in
      judged_runs w (or_test c.test d.test (n + 2)) n (max c.need d.need) d.next (λ env. infixed OrElse m1.ty (m1.value env) (m2.value env))
      (or_judges w c.test d.test (n + 2) c.need d.need m1.value m2.value (h1.value (n + 3)).test (h2.value c.next).test (max c.need d.need) (omega arith) (omega arith))

  -- `?:`
  cond_runs : (m1 m2 m3 : Meant) (k1 k2 k3 : Coded) → Sure m1 k1 → Sure m2 k2 → Sure m3 k3 → (t : Ty) (n : ℕ) → Runs w ((coded_step (form.Cond k1 k2 k3) t).codes n) ((meant_step (form.Cond m1 m2 m3) t).value)
  cond_runs m1 m2 m3 k1 k2 k3 h1 h2 h3 t n =
      let c = k1.codes (n + 2) in let d = k2.codes c.next in let e = k3.codes d.next in
      plain_runs w (choice c.test d.value e.value n) (max c.need (max d.need e.need)) e.next ((meant_step (form.Cond m1 m2 m3) t).value) (λ pc to env st b0 b s le room.
      choice_run w (λ z j. IsAt w z env st j) (value_over w env st) c.test d.value e.value c.need m1.value (m2.value env) (m3.value env) n env st (h1.value (n + 2)).test (omega (arith, room))
      (λ pc to b0 b s le. (h2.value c.next).value pc to env st b0 b s le (omega (arith, room))) (λ pc to b0 b s le. (h3.value d.next).value pc to env st b0 b s le (omega (arith, room))) pc to b0 b s le)

  -- one operand, and then something that is done to the store
  work_runs : (m : Meant) (k : Coded) → Sure m k → (n : ℕ) (last : Item) (op : Value → Op) (answer : Value → Does Value) →
      ((v : Value) (p to : ℕ) (env : Locals) (st : List Value) (c b : ℕ) → Standing w p (last ∷ []) to → 1 + b ≤ c → Room w 1 st → Going w (IsAt w to env st b) c (at w p env (v ∷ st)) (Works (op v) answer)) →
      let c = k.codes n in Runs w (plain (c.value ++ last ∷ []) c.need c.next) (λ env. then_do (m.value env) (λ v. Works (op v) answer))
  work_runs m k h n last op answer go =
      let c = k.codes n in
      plain_runs w (c.value ++ last ∷ []) c.need c.next (λ env. then_do (m.value env) (λ v. Works (op v) answer)) (λ pc to env st b0 b s le room.
      operand w (IsAt w to env st b) c.value (last ∷ []) c.need m.value (λ v. Works (op v) answer) (h.value n).value pc to env st b0 b s le room (λ v m1 c1 nv s1 le1.
      go v m1 to env st c1 b s1 le1 nv.1))

  cast_last : (class : List ℕ) (v : Value) (p to : ℕ) (env : Locals) (st : List Value) (c b : ℕ) → Standing w p (Uses CheckCast (ClassOf class) ∷ []) to → 1 + b ≤ c → Room w 1 st → Going w (IsAt w to env st b) c (at w p env (v ∷ st)) (Works (Cast v class) (fits Reference))
  cast_last class v p to env st c b s le room =
      work_last w Reference tt (Cast v class) to env st c b (at w p env (v ∷ st)) (λ h. h) le room
      (at_row w (OnConstant CheckCast s.0) p s.1 env (v ∷ st) s.2 ∙ ap (λ (o : Option (List ℕ)). on_found o (λ name. Effects (Cast v name) true (at w s.1 env st))) s.3 ∙ ap (λ k. Effects (Cast v class) true (at w k env st)) s.4)

  instance_last : (class : List ℕ) (v : Value) (p to : ℕ) (env : Locals) (st : List Value) (c b : ℕ) → Standing w p (Uses InstanceOf (ClassOf class) ∷ []) to → 1 + b ≤ c → Room w 1 st → Going w (IsAt w to env st b) c (at w p env (v ∷ st)) (Works (InstanceTest v class) (fits Number))
  instance_last class v p to env st c b s le room =
      work_last w Number tt (InstanceTest v class) to env st c b (at w p env (v ∷ st)) (λ h. h) le room
      (at_row w (OnConstant InstanceOf s.0) p s.1 env (v ∷ st) s.2 ∙ ap (λ (o : Option (List ℕ)). on_found o (λ name. Effects (InstanceTest v name) true (at w s.1 env st))) s.3 ∙ ap (λ k. Effects (InstanceTest v class) true (at w k env st)) s.4)

  -- fields, static fields and elements
  pub field_row : (key : Key) (v : Value) (p to : ℕ) (rest : List Item) (env : Locals) (st : List Value) → (s : Standing w p (Uses GetField (item.FieldOf key) ∷ rest) to) → run w (at w p env (v ∷ st)) ≡ Effects (FieldRead v key) true (at w s.1 env st)
  field_row key v p to rest env st s =
      at_row w (OnConstant GetField s.0) p s.1 env (v ∷ st) s.2 ∙ ap (λ (o : Option Key). on_found o (λ key. Effects (FieldRead v key) true (at w s.1 env st))) s.3

  pub static_field_row : (key : Key) (p to : ℕ) (rest : List Item) (env : Locals) (st : List Value) → (s : Standing w p (Uses GetStatic (item.FieldOf key) ∷ rest) to) → run w (at w p env st) ≡ Effects (StaticRead key) true (at w s.1 env st)
  static_field_row key p to rest env st s =
      at_row w (OnConstant GetStatic s.0) p s.1 env st s.2 ∙ ap (λ (o : Option Key). on_found o (λ key. Effects (StaticRead key) true (at w s.1 env st))) s.3

  field_last : (t : Ty) (key : Key) (v : Value) (p to : ℕ) (env : Locals) (st : List Value) (c b : ℕ) → Standing w p (Uses GetField (item.FieldOf key) ∷ []) to → 1 + b ≤ c → Room w 1 st → Going w (IsAt w to env st b) c (at w p env (v ∷ st)) (Works (FieldRead v key) (typed t))
  field_last t key v p to env st c b s le room =
      typed_last w t (FieldRead v key) to env st c b (at w p env (v ∷ st)) (λ h. h) le room (field_row key v p to [] env st s ∙ ap (λ k. Effects (FieldRead v key) true (at w k env st)) s.4)

  length_last : (v : Value) (p to : ℕ) (env : Locals) (st : List Value) (c b : ℕ) → Standing w p (Plain ArrayLength ∷ []) to → 1 + b ≤ c → Room w 1 st → Going w (IsAt w to env st b) c (at w p env (v ∷ st)) (Works (Length v) (fits Number))
  length_last v p to env st c b s le room =
      work_last w Number tt (Length v) to env st c b (at w p env (v ∷ st)) (λ h. h) le room (at_row w ArrayLength p s.0 env (v ∷ st) s.1 ∙ ap (λ k. Effects (Length v) true (at w k env st)) s.2)

  -- an array
  array_last : (elements : NamedElement) (v : Value) (p to : ℕ) (env : Locals) (st : List Value) (c b : ℕ) → Standing w p (make_array elements ∷ []) to → 1 + b ≤ c → Room w 1 st → Going w (IsAt w to env st b) c (at w p env (v ∷ st)) (Works (MakeArray elements v) (fits Reference))
  array_last IntElements v p to env st c b s le room =
      work_last w Reference tt (MakeArray IntElements v) to env st c b (at w p env (v ∷ st)) (λ h. h) le room (at_row w MakeNumbers p s.0 env (v ∷ st) s.1 ∙ ap (λ k. Effects (MakeArray IntElements v) true (at w k env st)) s.2)
  array_last BooleanElements v p to env st c b s le room =
      work_last w Reference tt (MakeArray BooleanElements v) to env st c b (at w p env (v ∷ st)) (λ h. h) le room (at_row w MakeTruths p s.0 env (v ∷ st) s.1 ∙ ap (λ k. Effects (MakeArray BooleanElements v) true (at w k env st)) s.2)
  array_last (ClassElements class) v p to env st c b s le room =
      work_last w Reference tt (MakeArray (ClassElements class) v) to env st c b (at w p env (v ∷ st)) (λ h. h) le room
      (at_row w (OnConstant MakeReferences s.0) p s.1 env (v ∷ st) s.2 ∙ ap (λ (o : Option (List ℕ)). on_found o (λ name. Effects (MakeArray (ClassElements name) v) true (at w s.1 env st))) s.3
      ∙ ap (λ k. Effects (MakeArray (ClassElements class) v) true (at w k env st)) s.4)

  array_runs : (o : Option NamedElement) (m : Meant) (k : Coded) → Sure m k → (n : ℕ) → Runs w (array_codes o (k.codes n)) (λ env. then_do (m.value env) (λ v. found o (λ elements. Works (MakeArray elements v) (fits Reference))))
  array_runs None m k h n =
      let c = k.codes n in
      plain_runs w c.value c.need c.next (λ env. then_do (m.value env) (λ v. Stuck)) (λ pc to env st b0 b s le room.
      seq w (IsAt w to env st b) (IsAt w to env st b) (λ v. Stuck) (λ v c f q. λ held. tt) (m.value env) b0 (at w pc env st) ((h.value n).value pc to env st b0 b s le room))
  array_runs (Some elements) m k h n = work_runs m k h n (make_array elements) (λ v. MakeArray elements v) (fits Reference) (array_last elements)

  -- an element
  index_runs : (t : Ty) (m1 m2 : Meant) (k1 k2 : Coded) → Sure m1 k1 → Sure m2 k2 → (n : ℕ) → Runs w ((coded_step (form.Index k1 k2) t).codes n) ((meant_step (form.Index m1 m2) t).value)
  index_runs t m1 m2 k1 k2 h1 h2 n =
      let c = k1.codes n in let d = k2.codes c.next in
      let kind = element_kind_of t in
      plain_runs w (c.value ++ (d.value ++ Plain (LoadElement kind) ∷ [])) (max c.need (1 + d.need)) d.next ((meant_step (form.Index m1 m2) t).value) (λ pc to env st b0 b s le room.
      operand w (IsAt w to env st b) c.value (d.value ++ Plain (LoadElement kind) ∷ []) c.need m1.value (λ a. then_do (m2.value env) (λ i. Works (GetElem kind a i) (typed t))) (h1.value n).value pc to env st b0 b s le (omega (arith, room)) (λ a p1 c1 na s1 le1.
      operand w (IsAt w to env st b) d.value (Plain (LoadElement kind) ∷ []) d.need m2.value (λ i. Works (GetElem kind a i) (typed t)) (h2.value c.next).value p1 to env (a ∷ st) c1 b s1 le1 (omega (arith, room, na.0)) (λ i p2 c2 ni s2 le2.
      typed_last w t (GetElem kind a i) to env st c2 b (at w p2 env (i ∷ a ∷ st)) (λ h. h) le2 na.1
      (at_row w (LoadElement kind) p2 s2.0 env (i ∷ a ∷ st) s2.1 ∙ ap (λ k. Effects (GetElem kind a i) true (at w k env st)) s2.2))))

  -- printing and reading
  print_last : (v : Value) (p to : ℕ) (env : Locals) (st : List Value) (c b : ℕ) → Standing w p (io (codes "print") (codes "(I)V") ∷ []) to → 1 + b ≤ c → Going w (IsVoid w to env st b) c (at w p env (v ∷ st)) (do_of (on_int Fine v) (λ n. Prints n (Gives Null)))
  print_last v p to env st c b s le = by_value v (at_row w (OnConstant InvokeStatic s.0) p s.1 env (v ∷ st) s.2 ∙ ap (λ (o : Option Key). on_found o (λ key. calls_static w.file key (at w s.1 env (v ∷ st)))) s.3 ∙ ap (λ k. shows_int v (at w k env st)) s.4) where
    by_value : (v : Value) → run w (at w p env (v ∷ st)) ≡ shows_int v (at w to env st) → Going w (IsVoid w to env st b) c (at w p env (v ∷ st)) (do_of (on_int Fine v) (λ n. Prints n (Gives Null)))
    by_value (Int n) e =
        shows_on w (IsVoid w to env st b) c (at w p env (Int n ∷ st)) (at w to env st) n (Gives Null) (λ h. h) (omega (arith, le)) e
        (stop w (IsVoid w to env st b) (c - 1) (at w to env st) Null (omega (arith, le), refl, refl))
    by_value (Long n) e = λ held. tt
    by_value Null e = λ held. tt
    by_value (Ref o) e = λ held. tt
    by_value (Text t) e = λ held. tt

  print_runs : (m : Meant) (k : Coded) → Sure m k → (t : Ty) (n : ℕ) → Runs w ((coded_step (form.Print k) t).codes n) ((meant_step (form.Print m) t).value)
  print_runs m k h t n =
      let c = k.codes n in
      void_runs w (c.value ++ io (codes "print") (codes "(I)V") ∷ []) c.need c.next ((meant_step (form.Print m) t).value) (λ pc to env st b0 b s le room.
      operand w (IsVoid w to env st b) c.value (io (codes "print") (codes "(I)V") ∷ []) c.need m.value (λ v. do_of (on_int Fine v) (λ n. Prints n (Gives Null))) (h.value n).value pc to env st b0 b s le room (λ v p1 c1 nv s1 le1.
      print_last v p1 to env st c1 b s1 le1))

  show_runs : (text : List ℕ) (t : Ty) (n : ℕ) → Runs w ((coded_step (form.Show text) t).codes n) ((meant_step (form.Show text) t).value)
  show_runs text t n =
      void_runs w (Uses PushConstant (TextOf text) ∷ io (codes "text") (codes "(Ljava/lang/String;)V") ∷ []) 1 n ((meant_step (form.Show text) t).value) (λ pc to env st b0 b s le room.
      let R : Value → ℕ → Frame → Type 0 = IsVoid w to env st b in
      let z = s.4 in
      moves w R b0 (at w pc env st) (at w s.1 env (Text s.0 ∷ st)) (Shows text (Gives Null)) (λ h. h) (omega (arith, le))
      (at_row w (OnConstant PushConstant s.0) pc s.1 env st s.2
      ∙ ap (λ (o : Option Const). on_found (option_and_then (constant_value w.file s.0) o) (λ v. pushed v (at w s.1 env st))) s.3.1
      ∙ ap (λ (o : Option (List ℕ)). on_found (option_map (λ bytes. Text s.0) o) (λ v. pushed v (at w s.1 env st))) s.3.2
      ∙ push_row w (Text s.0) s.1 env st refl room)
      (texts_on w R (b0 - 1) (at w s.1 env (Text s.0 ∷ st)) (at w to env st) text (Gives Null) (λ h. h) (omega (arith, le))
      (at_row w (OnConstant InvokeStatic z.0) s.1 z.1 env (Text s.0 ∷ st) z.2
      ∙ ap (λ (o : Option Key). on_found o (λ key. calls_static w.file key (at w z.1 env (Text s.0 ∷ st)))) z.3
      ∙ ap (λ (o : Option Const). on_found (option_and_then (utf8_at w.file) (option_and_then string_in o)) (λ bytes. ShowsText bytes (at w z.1 env st))) s.3.1
      ∙ ap (λ (o : Option (List ℕ)). on_found o (λ bytes. ShowsText bytes (at w z.1 env st))) s.3.2
      ∙ ap (λ k. ShowsText text (at w k env st)) z.4)
      (stop w R (b0 - 1 - 1) (at w to env st) Null (omega (arith, le), refl, refl))))

  read_runs : (t : Ty) (n : ℕ) → Runs w ((coded_step form.Read t).codes n) ((meant_step form.Read t).value)
  read_runs t n =
      plain_runs w (io (codes "read") (codes "()I") ∷ []) 1 n ((meant_step form.Read t).value) (λ pc to env st b0 b s le room.
      asks_on w (IsAt w to env st b) b0 (at w pc env st) (at w to env st) (λ i. Gives (Int i)) (λ h. h) (omega (arith, le))
      (at_row w (OnConstant InvokeStatic s.0) pc s.1 env st s.2
      ∙ ap (λ (o : Option Key). on_found o (λ key. calls_static w.file key (at w s.1 env st))) s.3
      ∙ ap (λ x. where_row x (Asks (at w s.1 env st))) (has_push w (Int (pos 0)) s.1 env st refl room)
      ∙ ap (λ k. Asks (at w k env st)) s.4)
      (λ i. stop w (IsAt w to env st b) (b0 - 1) (at w to env (Int i ∷ st)) (Int i) (omega (arith, le), refl, (refl, room))))

  -- what is known of an expression, and of a kind of one
  abbrev kind_meant : TypedKind → Ty → Meant
  kind_meant = fold-TypedKind (Ty → Meant) Meant meant_step (λ e. e.kind e.ty)

  abbrev kind_coded : TypedKind → Ty → Coded
  kind_coded = fold-TypedKind (Ty → Coded) Coded coded_step (λ e. e.kind e.ty)

  abbrev SureKind : Type 0
  SureKind = (k : TypedKind) × ((t : Ty) → Sure (kind_meant k t) (kind_coded k t))

  abbrev SureExpr : Type 0
  SureExpr = (e : TypedExpr) × Sure (meant e) (coded e)

  row_fills : (es : List SureExpr) (n : ℕ) → Fills w (row_codes (map coded (map (λ e. e.0) es)) n).items (row_codes (map coded (map (λ e. e.0) es)) n).need (values_of (map meant (map (λ e. e.0) es)))
  row_fills [] n pc to env st b0 b s le room = stop w (AreAt w to env st b) b0 (at w pc env st) [] (omega (arith, le), ap (λ k. at w k env st) s)
  row_fills (e ∷ es) n pc to env st b0 b s le room =
      let c = (coded e.0).codes n in
      let r = row_codes (map coded (map (λ e. e.0) es)) c.next in
      let R : List Value → ℕ → Frame → Type 0 = AreAt w to env st b in
      operand w R c.value r.items c.need (meant e.0).value (λ v. then_do (values_of (map meant (map (λ e. e.0) es)) env) (λ vs. Gives (v ∷ vs))) (e.1.value n).value pc to env st b0 b s le (omega (arith, room)) (λ v m1 c1 nv s1 le1.
      seq w (AreAt w to env (v ∷ st) b) R (λ vs. Gives (v ∷ vs)) (λ vs c2 f q. stop w R c2 f (v ∷ vs) q)
      (values_of (map meant (map (λ e. e.0) es)) env) c1 (at w m1 env (v ∷ st)) (row_fills es c.next m1 to env (v ∷ st) c1 b s1 le1 (omega (arith, room, nv.0))))

  static_runs : (es : List SureExpr) (class name : List ℕ) (params : List Ty) (t : Ty) (n : ℕ) → Runs w ((coded_step (form.CallStatic class name params (map coded (map (λ e. e.0) es))) t).codes n) ((meant_step (form.CallStatic class name params (map meant (map (λ e. e.0) es))) t).value)
  static_runs es class name params t n =
      let r = row_codes (map coded (map (λ e. e.0) es)) n in
      let m = method_of class name params t in
      let o = kind_of_type t in
      let last : List Item = Uses InvokeStatic (named m params t) ∷ [] in
      called_runs w o (r.items ++ last) r.need r.next ((meant_step (form.CallStatic class name params (map meant (map (λ e. e.0) es))) t).value) (λ pc to env st b0 b s le room.
      args_then w (Came w o to env st b) r.items last r.need (values_of (map meant (map (λ e. e.0) es))) _ (row_fills es n) pc to env st b0 b s le (omega (arith, room, need_le w o r.need)) (λ vs p1 c1 s1 le1.
      static_last w m params t vs r.need p1 to env st c1 b s1 le1 room))

  virtual_runs : (e : SureExpr) (es : List SureExpr) (class : List ℕ) (is_interface : Bool) (name : List ℕ) (params : List Ty) (t : Ty) (n : ℕ) → Runs w ((coded_step (form.CallVirtual (coded e.0) class is_interface name params (map coded (map (λ e. e.0) es))) t).codes n) ((meant_step (form.CallVirtual (meant e.0) class is_interface name params (map meant (map (λ e. e.0) es))) t).value)
  virtual_runs e es class is_interface name params t n =
      let c = (coded e.0).codes n in
      let r = row_codes (map coded (map (λ e. e.0) es)) c.next in
      let m = method_of class name params t in
      let o = kind_of_type t in
      let need = max c.need (1 + r.need) in
      let last : List Item = virtual_call is_interface m params t ∷ [] in
      called_runs w o (c.value ++ (r.items ++ last)) need r.next ((meant_step (form.CallVirtual (meant e.0) class is_interface name params (map meant (map (λ e. e.0) es))) t).value) (λ pc to env st b0 b s le room.
      let all : Room w need st = omega (arith, room, need_le w o need) in
      operand w (Came w o to env st b) c.value (r.items ++ last) c.need (meant e.0).value _ (e.1.value n).value pc to env st b0 b s le (omega (arith, all)) (λ v p1 c1 nv s1 le1.
      args_then w (Came w o to env st b) r.items last r.need (values_of (map meant (map (λ e. e.0) es))) _ (row_fills es c.next) p1 to env (v ∷ st) c1 b s1 le1 (omega (arith, all, nv.0)) (λ vs p2 c2 s2 le2.
      virtual_last w is_interface m params t v vs need p2 to env st c2 b s2 le2 room)))

  this_pushes : Pushes w (Plain (Load Reference 0) ∷ []) 1 (local_value 0 Reference)
  this_pushes pc to env st b0 b s le room = load_last Reference tt 0 pc to env st b0 b s le room

  super_runs : (es : List SureExpr) (class name : List ℕ) (params : List Ty) (t : Ty) (n : ℕ) → Runs w ((coded_step (form.CallSuper class name params (map coded (map (λ e. e.0) es))) t).codes n) ((meant_step (form.CallSuper class name params (map meant (map (λ e. e.0) es))) t).value)
  super_runs es class name params t n =
      let r = row_codes (map coded (map (λ e. e.0) es)) n in
      let m = method_of class name params t in
      let o = kind_of_type t in
      let last : List Item = Uses InvokeSpecial (family m params t) ∷ [] in
      called_runs w o (Plain (Load Reference 0) ∷ (r.items ++ last)) (1 + r.need) r.next ((meant_step (form.CallSuper class name params (map meant (map (λ e. e.0) es))) t).value) (λ pc to env st b0 b s le room.
      let all : Room w (1 + r.need) st = omega (arith, room, need_le w o (1 + r.need)) in
      let received = family_received w w.received (parted w r.items last s.0 to s.2).back.5 in
      receiver_then w (Came w o to env st b) (r.items ++ last) (λ v. then_do (values_of (map meant (map (λ e. e.0) es)) env) (λ vs. where_so (are_of params vs) (then_do (calls_on (OfSuperclass m) v vs) (fit o)))) received pc to env st b0 b s le (omega (arith, all)) (λ p1 c1 s1 le1.
      args_then w (Came w o to env st b) r.items last r.need (values_of (map meant (map (λ e. e.0) es))) (λ vs. where_so (are_of params vs) (then_do (calls_on (OfSuperclass m) (Ref w.receiver) vs) (fit o))) (row_fills es n) p1 to env (Ref w.receiver ∷ st) c1 b s1 le1 (omega (arith, all)) (λ vs p2 c2 s2 le2.
      super_last w m params t w.receiver vs (1 + r.need) p2 to env st c2 b s2 le2 room)))

  new_runs : (es : List SureExpr) (class : List ℕ) (params : List Ty) (t : Ty) (n : ℕ) → Runs w ((coded_step (form.New class params (map coded (map (λ e. e.0) es))) t).codes n) ((meant_step (form.New class params (map meant (map (λ e. e.0) es))) t).value)
  new_runs es class params t n =
      let r = row_codes (map coded (map (λ e. e.0) es)) n in
      let last : List Item = construction class params ∷ [] in
      let make : Item = Uses MakeObject (ClassOf (internal_name class)) in
      plain_runs w (make ∷ Plain Dup ∷ (r.items ++ last)) (2 + r.need) r.next ((meant_step (form.New class params (map meant (map (λ e. e.0) es))) t).value) (λ pc to env st b0 b s le room.
      let R : Value → ℕ → Frame → Type 0 = IsAt w to env st b in
      let behind : Value → Does Value = λ o. then_do (values_of (map meant (map (λ e. e.0) es)) env) (λ vs. then_do (construct class params o vs) (λ done. Gives o)) in
      made_then w R (internal_name class) (Plain Dup ∷ (r.items ++ last)) behind pc to env st b0 b s le (omega (arith, room)) (λ o p1 c1 s1 le1.
      moves w R c1 (at w p1 env (Ref o ∷ st)) (at w s1.0 env (Ref o ∷ Ref o ∷ st)) (behind (Ref o)) (λ h. h) (omega (arith, le1))
      (at_row w Dup p1 s1.0 env (Ref o ∷ st) s1.1 ∙ dup_row w (Ref o) s1.0 env st refl (omega (arith, room)))
      (args_then w R r.items last r.need (values_of (map meant (map (λ e. e.0) es))) (λ vs. then_do (construct class params (Ref o) vs) (λ done. Gives (Ref o))) (row_fills es n) s1.0 to env (Ref o ∷ Ref o ∷ st) (c1 - 1) b s1.2 (omega (arith, le1)) (omega (arith, room)) (λ vs p2 c2 s2 le2.
      seq w (IsOver w to env (Ref o ∷ st) b) R (λ done. Gives (Ref o)) (λ v c f q. stop w R c f (Ref o) (q.0, q.1, (refl, omega (arith, room))))
      (construct class params (Ref o) vs) c2 (at w p2 env (all_on vs (Ref o ∷ Ref o ∷ st))) (construct_last w class params o vs p2 to env (Ref o ∷ st) c2 b s2 le2)))))

  -- the parts of what is assigned to
  local_spots : (o : Option Kind) → IsShortIf o → (slot n : ℕ) → Spots (local_spot o slot n) (λ env. found o (λ kind. Gives (Slot slot kind)))
  local_spots None short slot n pc to env st b0 b s le room = λ held. tt
  local_spots (Some kind) short slot n pc to env st b0 b s le room =
      stop w (IsSpot (LocalAt slot kind) to env st b) b0 (at w pc env st) (Slot slot kind) (omega (arith, le), ap (λ k. at w k env st) s, (refl, short))

  field_spots : (m : Meant) (k : Coded) → Sure m k → (key : Key) (n : ℕ) → let c = k.codes n in Spots (record { items = c.value; next = c.next; need = c.need; place = FieldAt key }) (λ env. then_do (m.value env) (λ o. Gives (FieldOf o key)))
  field_spots m k h key n pc to env st b0 b s le room =
      seq w (IsAt w to env st b) (IsSpot (FieldAt key) to env st b) (λ o. Gives (FieldOf o key))
      (λ o c f q. stop w (IsSpot (FieldAt key) to env st b) c f (FieldOf o key) (q.0, q.1, (refl, q.2.0)))
      (m.value env) b0 (at w pc env st) ((h.value n).value pc to env st b0 b s le room)

  index_spots : (m1 m2 : Meant) (k1 k2 : Coded) → Sure m1 k1 → Sure m2 k2 → (t : Ty) (n : ℕ) → Spots ((coded_step (form.Index k1 k2) t).spot n) ((meant_step (form.Index m1 m2) t).spot)
  index_spots m1 m2 k1 k2 h1 h2 t n pc to env st b0 b s le room =
      let c = k1.codes n in let d = k2.codes c.next in
      let kind = element_kind_of t in
      let R : Spot → ℕ → Frame → Type 0 = IsSpot (ElementAt kind) to env st b in
      operand w R c.value d.value c.need m1.value (λ a. then_do (m2.value env) (λ i. Gives (ElementOf kind a i))) (h1.value n).value pc to env st b0 b s le (omega (arith, room)) (λ a p1 c1 na s1 le1.
      seq w (IsAt w to env (a ∷ st) b) R (λ i. Gives (ElementOf kind a i)) (λ i c f q. stop w R c f (ElementOf kind a i) (q.0, q.1, (refl, na.0, q.2.0)))
      (m2.value env) c1 (at w p1 env (a ∷ st)) ((h2.value c.next).value p1 to env (a ∷ st) c1 b s1 le1 (omega (arith, room, na.0))))

  -- a number that is 0
  number_known : (value : ℕ) → IsKnown (cond (value == 0) code.Zero code.Anything) (λ env. Gives (Int (int_wrap w32 (pos value))))
  number_known value = by_zero (value == 0) refl where
    by_zero : (x : Bool) → (value == 0) ≡ x → IsKnown (cond x code.Zero code.Anything) (λ env. Gives (Int (int_wrap w32 (pos value))))
    by_zero true e = λ env. ap (λ n. Gives (Int (int_wrap w32 (pos n)))) (eqb-true value 0 e) ∙ ap (λ z. Gives (Int z)) (int_wrap_fits w32 (pos 0) (omega arith))
    by_zero false e = tt

  layer : (y : TypedKind-F SureKind SureExpr) (t : Ty) →
      Sure (meant_step (map-TypedKind TypedKind TypedExpr (Ty → Meant) Meant kind_meant meant (map-TypedKind SureKind SureExpr TypedKind TypedExpr (λ e. e.0) (λ e. e.0) y)) t)
      (coded_step (map-TypedKind TypedKind TypedExpr (Ty → Coded) Coded kind_coded coded (map-TypedKind SureKind SureExpr TypedKind TypedExpr (λ e. e.0) (λ e. e.0) y)) t)
  layer (form.Number value hex) t = record {
    same = refl;
    known = number_known value;
    value = λ n. plain_runs w (push_int (int_wrap w32 (pos value)) ∷ []) 1 n (λ env. Gives (Int (int_wrap w32 (pos value)))) (λ pc to env st b0 b s le room. int_last (int_wrap w32 (pos value)) pc to env st b0 b s le room);
    spot = λ n pc to env st b0 b s le room. λ held. tt;
  }
  layer (form.Truth true) t = record {
    same = refl;
    known = tt;
    value = λ n. plain_runs w (Plain (PushInt (pos 1)) ∷ []) 1 n (λ env. Gives (Int (pos 1))) (λ pc to env st b0 b s le room.
        push_last w (Int (pos 1)) to env st b0 b (at w pc env st) (λ h. h) le refl room (at_row w (PushInt (pos 1)) pc s.0 env st s.1 ∙ ap (λ k. pushed (Int (pos 1)) (at w k env st)) s.2));
    spot = λ n pc to env st b0 b s le room. λ held. tt;
  }
  layer (form.Truth false) t = record {
    same = refl;
    known = tt;
    value = λ n. plain_runs w (Plain (PushInt (pos 0)) ∷ []) 1 n (λ env. Gives (Int (pos 0))) (λ pc to env st b0 b s le room.
        push_last w (Int (pos 0)) to env st b0 b (at w pc env st) (λ h. h) le refl room (at_row w (PushInt (pos 0)) pc s.0 env st s.1 ∙ ap (λ k. pushed (Int (pos 0)) (at w k env st)) s.2));
    spot = λ n pc to env st b0 b s le room. λ held. tt;
  }
  layer form.Null t = record {
    same = refl;
    known = λ env. refl;
    value = λ n. plain_runs w (Plain PushNull ∷ []) 1 n (λ env. Gives Null) (λ pc to env st b0 b s le room.
        push_last w Null to env st b0 b (at w pc env st) (λ h. h) le refl room (at_row w PushNull pc s.0 env st s.1 ∙ ap (λ k. pushed Null (at w k env st)) s.2));
    spot = λ n pc to env st b0 b s le room. λ held. tt;
  }
  layer form.This t = record {
    same = refl;
    known = tt;
    value = λ n. plain_runs w (Plain (Load Reference 0) ∷ []) 1 n (local_value 0 Reference) this_pushes;
    spot = λ n pc to env st b0 b s le room. λ held. tt;
  }
  layer (form.Local slot) t = record {
    same = refl;
    known = tt;
    value = λ n. local_runs (kind_of_type t) (types_short t) slot n;
    spot = λ n. local_spots (kind_of_type t) (types_short t) slot n;
  }
  layer (form.Unary sign right) t = record {
    same = refl;
    known = tt;
    value = λ n. prefix_runs (prefix_of sign) (meant right.0) (coded right.0) right.1 n;
    spot = λ n pc to env st b0 b s le room. λ held. tt;
  }
  layer (form.Binary sign left right) t = record {
    same = refl;
    known = tt;
    value = λ n. infix_runs (infix_of sign) (meant left.0) (meant right.0) (coded left.0) (coded right.0) left.1 right.1 n;
    spot = λ n pc to env st b0 b s le room. λ held. tt;
  }
  layer (form.Cond test first second) t = record {
    same = refl;
    known = tt;
    value = λ n. cond_runs (meant test.0) (meant first.0) (meant second.0) (coded test.0) (coded first.0) (coded second.0) test.1 first.1 second.1 t n;
    spot = λ n pc to env st b0 b s le room. λ held. tt;
  }
  layer (form.Cast class value) t = record {
    same = refl;
    known = tt;
    value = λ n. work_runs (meant value.0) (coded value.0) value.1 n (Uses CheckCast (ClassOf (internal_name class))) (λ v. Cast v (internal_name class)) (fits Reference) (cast_last (internal_name class));
    spot = λ n pc to env st b0 b s le room. λ held. tt;
  }
  layer (form.InstanceOf value class) t = record {
    same = refl;
    known = tt;
    value = λ n. work_runs (meant value.0) (coded value.0) value.1 n (Uses InstanceOf (ClassOf (internal_name class))) (λ v. InstanceTest v (internal_name class)) (fits Number) (instance_last (internal_name class));
    spot = λ n pc to env st b0 b s le room. λ held. tt;
  }
  layer (form.Field object class name) t = record {
    same = refl;
    known = tt;
    value = λ n. work_runs (meant object.0) (coded object.0) object.1 n (Uses GetField (item.FieldOf (key_of class name t))) (λ v. FieldRead v (key_of class name t)) (typed t) (field_last t (key_of class name t));
    spot = λ n. field_spots (meant object.0) (coded object.0) object.1 (key_of class name t) n;
  }
  layer (form.Static class name) t = record {
    same = refl;
    known = tt;
    value = λ n. plain_runs w (Uses GetStatic (item.FieldOf (key_of class name t)) ∷ []) 1 n (λ env. Works (StaticRead (key_of class name t)) (typed t)) (λ pc to env st b0 b s le room.
        typed_last w t (StaticRead (key_of class name t)) to env st b0 b (at w pc env st) (λ h. h) le room (static_field_row (key_of class name t) pc to [] env st s ∙ ap (λ k. Effects (StaticRead (key_of class name t)) true (at w k env st)) s.4));
    spot = λ n pc to env st b0 b s le room. stop w (IsSpot (code.StaticAt (key_of class name t)) to env st b) b0 (at w pc env st) (StaticAt (key_of class name t)) (omega (arith, le), ap (λ k. at w k env st) s, refl);
  }
  layer (form.Length array) t = record {
    same = refl;
    known = tt;
    value = λ n. work_runs (meant array.0) (coded array.0) array.1 n (Plain ArrayLength) (λ v. Length v) (fits Number) length_last;
    spot = λ n pc to env st b0 b s le room. λ held. tt;
  }
  layer (form.Index array index) t = record {
    same = refl;
    known = tt;
    value = λ n. index_runs t (meant array.0) (meant index.0) (coded array.0) (coded index.0) array.1 index.1 n;
    spot = λ n. index_spots (meant array.0) (meant index.0) (coded array.0) (coded index.0) array.1 index.1 t n;
  }
  layer (form.CallVirtual object class is_interface name params args) t = record {
    same = refl;
    known = tt;
    value = λ n. virtual_runs object args class is_interface name params t n;
    spot = λ n pc to env st b0 b s le room. λ held. tt;
  }
  layer (form.CallStatic class name params args) t = record {
    same = refl;
    known = tt;
    value = λ n. static_runs args class name params t n;
    spot = λ n pc to env st b0 b s le room. λ held. tt;
  }
  layer (form.CallSuper class name params args) t = record {
    same = refl;
    known = tt;
    value = λ n. super_runs args class name params t n;
    spot = λ n pc to env st b0 b s le room. λ held. tt;
  }
  layer (form.New class params args) t = record {
    same = refl;
    known = tt;
    value = λ n. new_runs args class params t n;
    spot = λ n pc to env st b0 b s le room. λ held. tt;
  }
  layer (form.NewArray elem size) t = record {
    same = refl;
    known = tt;
    value = λ n. array_runs (elements_of elem) (meant size.0) (coded size.0) size.1 n;
    spot = λ n pc to env st b0 b s le room. λ held. tt;
  }
  layer (form.Print value) t = record {
    same = refl;
    known = tt;
    value = λ n. print_runs (meant value.0) (coded value.0) value.1 t n;
    spot = λ n pc to env st b0 b s le room. λ held. tt;
  }
  layer (form.Show text) t = record {
    same = refl;
    known = tt;
    value = λ n. show_runs text t n;
    spot = λ n pc to env st b0 b s le room. λ held. tt;
  }
  layer form.Read t = record {
    same = refl;
    known = tt;
    value = λ n. read_runs t n;
    spot = λ n pc to env st b0 b s le room. λ held. tt;
  }

  with_both : {A B : Type 0} (Q : A → B → Type 0) (a c : A) (b d : B) → a ≡ c → b ≡ d → Q c d → Q a b
  with_both Q a c b d e f q = subst (λ x. Q x b) (sym e) (subst (λ y. Q c y) (sym f) q)

  pub expr_sure : (e : TypedExpr) → Sure (meant e) (coded e)
  expr_sure = ind-TypedExpr (λ k. (t : Ty) → Sure (kind_meant k t) (kind_coded k t)) (λ e. Sure (meant e) (coded e))
      (λ x y is. with_both (λ (f : Ty → Meant) (g : Ty → Coded). (t : Ty) → Sure (f t) (g t)) _ _ _ _ (fold-roll-TypedKind (Ty → Meant) Meant meant_step (λ e. e.kind e.ty) x) (fold-roll-TypedKind (Ty → Coded) Coded coded_step (λ e. e.kind e.ty) x)
      (subst (λ (z : TypedKind-F TypedKind TypedExpr). (t : Ty) → Sure (meant_step (map-TypedKind TypedKind TypedExpr (Ty → Meant) Meant kind_meant meant z) t) (coded_step (map-TypedKind TypedKind TypedExpr (Ty → Coded) Coded kind_coded coded z) t)) is (layer y)))
      (λ x y is. with_both Sure _ _ _ _ (fold-roll-TypedExpr (Ty → Meant) Meant meant_step (λ e. e.kind e.ty) x) (fold-roll-TypedExpr (Ty → Coded) Coded coded_step (λ e. e.kind e.ty) x)
      (subst (λ (z : form.TypedExpr-F TypedKind TypedExpr). Sure (kind_meant z.kind z.ty) (kind_coded z.kind z.ty)) is (y.kind.1 y.ty)))
