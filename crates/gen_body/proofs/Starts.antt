-- The code at the start of a member does what the member does first.
use Rattle.std.proofs.Common.{◌≡◌, ℕ, ◌+◌, ◌-◌, ◌<◌, ◌≤◌, List, [], ◌∷◌, ◌++◌, length, map, Option, Some, None, refl, sym, ap, ◌∙◌, subst, arith, length-append, append_assoc}
use Rattle.std.specs.Prelude.{Bool, true, false, replicate, slice_get, slice_set, option_and_then}
use Rattle.std.specs.Option.{option_map_or}
use Rattle.std.proofs.lemmas.Bool.{false≢true, lt-ltb}
use Rattle.std.proofs.lemmas.List.{append-nil}
use Rattle.jp_pred.specs.declared.ty.Ty.{Ty}
use Rattle.jp_pred.specs.declared.path.Path.{Path}
use Rattle.jp_pred.specs.declared.path.PathStep.{PathStep}
use Rattle.jp_pred.specs.declared.hier.Hier.{Hier}
use Rattle.jp_pred.specs.Names.{Word}
use Rattle.jp_store.specs.declared.value.Value.{Value}
use Rattle.jp_store.specs.declared.value.Value.TheVariants.{Ref}
use Rattle.jp_store.specs.declared.value.Kind.{Kind}
use Rattle.jp_store.specs.declared.value.Kind.TheVariants.{Reference}
use Rattle.jp_store.specs.declared.outcome.Outcome.TheVariants.{Fine}
use Rattle.jp_store.specs.Arith.{is_kind}
use Rattle.jp_store.specs.Work.{where_true, GetField as FieldRead}
use Rattle.jp_does.specs.Does.{Gives, Works, then_do, do_of, found}
use Rattle.jp_meaning.specs.declared.expr.TypedExpr.{TypedExpr}
use Rattle.jp_meaning.specs.declared.unit.TypedMember.{TypedMember}
use Rattle.jp_meaning.specs.Does.{Does}
use Rattle.jp_meaning.specs.Descriptors.{key_of, kind_of_type}
use Rattle.jp_meaning.specs.Expressions.{Locals, fits, typed, local_value, meant, value_of, values_of, construct}
use Rattle.jp_meaning.specs.Members.{step_type, read_steps, read_path, read_alias, read_aliases, locals_of}
use Rattle.jvm_table.specs.declared.frame.Frame.{Frame}
use Rattle.jvm_table.specs.declared.instr.Instr.TheVariants.{Load, Store}
use Rattle.jvm_table.specs.Act.{Moves, on_found, pushed, stored, where_so as where_row}
use Rattle.code_asm.specs.Items.{Item}
use Rattle.gen_body.specs.Codes.{row_codes, construction, coded}
use Rattle.gen_body.specs.Members.{step_code, steps_code, path_code, store_code, aliases_code, super_code}
use Rattle.gen_body.proofs.Values.{IsShort, IsShortIf, of_short, types_short}
use Rattle.gen_body.proofs.Going.{Setting, run, at, Standing, parted, Here, Going, from_here, seq, stop, moves, stored_here}
use Rattle.gen_body.proofs.Blocks.{Room, at_row, push_row, IsPushed, IsAt, IsOver, operand}
use Rattle.gen_body.proofs.Calls.{AreAt, Fills, args_then}
use Rattle.gen_body.proofs.Specials.{receiver_then, construct_last}
use Rattle.gen_body.proofs.Expressions.{field_row, expr_sure}
use Rattle.gen_body.proofs.Statements.{typed_then}
use Rattle.gen_body.proofs.Entry.{locals_step, room_for_one, root_at}

module _ (w : Setting) where
  pub values_fill : (es : List TypedExpr) (n : ℕ) → Fills w (row_codes (map coded es) n).items (row_codes (map coded es) n).need (values_of (map meant es))
  values_fill [] n pc to env st b0 b s le room = stop w (AreAt w to env st b) b0 (at w pc env st) [] (omega (arith, le), ap (λ k. at w k env st) s)
  values_fill (e ∷ es) n pc to env st b0 b s le room =
      let c = (coded e).codes n in
      let r = row_codes (map coded es) c.next in
      let R : List Value → ℕ → Frame → Type 0 = AreAt w to env st b in
      operand w R c.value r.items c.need (value_of e) (λ v. then_do (values_of (map meant es) env) (λ vs. Gives (v ∷ vs))) ((expr_sure w e).value n).value pc to env st b0 b s le (omega (arith, room)) (λ v m1 c1 nv s1 le1.
      seq w (AreAt w to env (v ∷ st) b) R (λ vs. Gives (v ∷ vs)) (λ vs c2 f q. stop w R c2 f (v ∷ vs) q)
      (values_of (map meant es) env) c1 (at w m1 env (v ∷ st)) (values_fill es c.next m1 to env (v ∷ st) c1 b s1 le1 (omega (arith, room, nv.0))))

  -- the constructor of the superclass
  pub super_run : w.received ≡ true → (superclass : Word) (m : TypedMember) (n pc to : ℕ) (env : Locals) (b0 b : ℕ) → Standing w pc (super_code (Some superclass) m n).items to → length (super_code (Some superclass) m n).items + b ≤ b0 → Room w (super_code (Some superclass) m n).need [] →
      Going w (IsOver w to env [] b) b0 (at w pc env []) (then_do (local_value 0 Reference env) (λ o. then_do (values_of (map meant m.super_args) env) (λ args. construct superclass m.super_params o args)))
  super_run received superclass m n pc to env b0 b s le room =
      let r = row_codes (map coded m.super_args) n in
      let R : Value → ℕ → Frame → Type 0 = IsOver w to env [] b in
      let last : List Item = construction superclass m.super_params ∷ [] in
      receiver_then w R (r.items ++ last) (λ o. then_do (values_of (map meant m.super_args) env) (λ args. construct superclass m.super_params o args)) received pc to env [] b0 b s le (omega (arith, room)) (λ p1 c1 s1 le1.
      args_then w R r.items last r.need (values_of (map meant m.super_args)) (λ args. construct superclass m.super_params (Ref w.receiver) args) (values_fill m.super_args n) p1 to env (Ref w.receiver ∷ []) c1 b s1 le1 (omega (arith, room)) (λ args p2 c2 s2 le2.
      construct_last w superclass m.super_params w.receiver args p2 to env [] c2 b s2 le2))

  -- a reference, without an instruction
  check_then : {B : Type 0} (R : B → ℕ → Frame → Type 0) (kind : Kind) (v : Value) (c : ℕ) (f : Frame) (go : Value → Does B) → (is_kind kind v ≡ true → Going w R c f (go v)) → Going w R c f (then_do (fits kind v) go)
  check_then R kind v c f go h = by_kind (is_kind kind v) refl where
    by_kind : (x : Bool) → is_kind kind v ≡ x → Going w R c f (then_do (do_of (where_true x (Fine v)) Gives) go)
    by_kind true e = h e
    by_kind false e = λ held. tt

  -- a field of the object on the stack, and what follows
  step_run : {B : Type 0} (R : B → ℕ → Frame → Type 0) (hier : Hier) (step : PathStep) (o : Value) (go : Value → Does B) (rest : List Item) (m to : ℕ) (env : Locals) (st : List Value) (c b : ℕ) → Standing w m (step_code (step_type hier step) step ++ rest) to → length (step_code (step_type hier step) step ++ rest) + b ≤ c → Room w 1 st →
      ((v : Value) (k c : ℕ) → IsPushed w v st → Standing w k rest to → length rest + b ≤ c → Going w R c (at w k env (v ∷ st)) (go v)) → Going w R c (at w m env (o ∷ st)) (found (step_type hier step) (λ t. Works (FieldRead o (key_of step.class step.field t)) (λ u. then_do (typed t u) go)))
  step_run R hier step o go rest m to env st c b s le room k = by_type (step_type hier step) s le where
    by_type : (x : Option Ty) → Standing w m (step_code x step ++ rest) to → length (step_code x step ++ rest) + b ≤ c → Going w R c (at w m env (o ∷ st)) (found x (λ t. Works (FieldRead o (key_of step.class step.field t)) (λ u. then_do (typed t u) go)))
    by_type None s le = λ held. tt
    by_type (Some t) s le =
        typed_then w R t (FieldRead o (key_of step.class step.field t)) go s.1 env st c (length rest + b) (at w m env (o ∷ st)) (λ h. h) (omega (arith, le)) room (field_row w (key_of step.class step.field t) o m to rest env st s)
        (λ v c2 nv le2. k v s.1 c2 nv s.4 le2)

  steps_run : (hier : Hier) (steps : List PathStep) (v : Value) (m to : ℕ) (env : Locals) (st : List Value) (c b : ℕ) → IsPushed w v st → Standing w m (steps_code hier steps) to → length (steps_code hier steps) + b ≤ c → Going w (IsAt w to env st b) c (at w m env (v ∷ st)) (read_steps hier steps v)
  steps_run hier [] v m to env st c b nv s le = stop w (IsAt w to env st b) c (at w m env (v ∷ st)) v (omega (arith, le), ap (λ k. at w k env (v ∷ st)) s, nv)
  steps_run hier (step ∷ steps) v m to env st c b nv s le =
      check_then (IsAt w to env st b) Reference v c (at w m env (v ∷ st)) _ (λ e.
      step_run (IsAt w to env st b) hier step v (read_steps hier steps) (steps_code hier steps) m to env st c b s le nv.1 (λ u k c2 nu s2 le2.
      steps_run hier steps u k to env st c2 b nu s2 le2))

  -- a value of a kind, with that kind
  abbrev pub IsOf : Option Kind → ℕ → Locals → ℕ → Value → ℕ → Frame → Type 0
  IsOf o to env b v left f = IsAt w to env [] b v left f × (option_map_or (λ kind. is_kind kind v) o false ≡ true)

  kind_check : (o : Option Kind) (to : ℕ) (env : Locals) (b : ℕ) (u : Value) (c : ℕ) (f : Frame) → IsAt w to env [] b u c f → Going w (IsOf o to env b) c f (found o (λ kind. fits kind u))
  kind_check None to env b u c f q = λ held. tt
  kind_check (Some kind) to env b u c f q = by_kind (is_kind kind u) refl where
    by_kind : (x : Bool) → is_kind kind u ≡ x → Going w (IsOf (Some kind) to env b) c f (do_of (where_true x (Fine u)) Gives)
    by_kind true e = stop w (IsOf (Some kind) to env b) c f u (q, e)
    by_kind false e = λ held. tt

  -- a local that is known
  load_known : (kind : Kind) → IsShort kind → (root pc next : ℕ) (env : Locals) (v : Value) → run w (at w pc env []) ≡ on_found (option_and_then (λ v. v) (slice_get env root)) (λ v. where_row (is_kind kind v) (pushed v (at w next env []))) → option_and_then (λ v. v) (slice_get env root) ≡ Some v → is_kind kind v ≡ true → Room w 1 [] → run w (at w pc env []) ≡ Moves (at w next env (v ∷ []))
  load_known kind short root pc next env v e known k room =
      e ∙ ap (λ (o : Option Value). on_found o (λ v. where_row (is_kind kind v) (pushed v (at w next env [])))) known
      ∙ ap (λ x. where_row x (pushed v (at w next env []))) k ∙ push_row w v next env [] (of_short kind short v k) room

  alias_value : (hier : Hier) (alias : Path × Ty) (o : Option Kind) → IsShortIf o → (vs : List Value) (pc to : ℕ) (env : Locals) (b0 b : ℕ) → ((v : Value) → slice_get vs alias.0.root ≡ Some v → option_and_then (λ v. v) (slice_get env alias.0.root) ≡ Some v) →
      Standing w pc (path_code hier alias.0.root alias.0.steps o) to → length (path_code hier alias.0.root alias.0.steps o) + b ≤ b0 → Room w 1 [] → Going w (IsOf o to env b) b0 (at w pc env []) (then_do (read_path hier alias.0 vs) (λ u. found o (λ kind. fits kind u)))
  alias_value hier alias o short vs pc to env b0 b roots s le room = by_root (slice_get vs alias.0.root) refl alias.0.steps s le where
    by_none : (v : Value) (o : Option Kind) → IsShortIf o → slice_get vs alias.0.root ≡ Some v → Standing w pc (path_code hier alias.0.root [] o) to → length (path_code hier alias.0.root [] o) + b ≤ b0 → Going w (IsOf o to env b) b0 (at w pc env []) (found o (λ kind. fits kind v))
    by_none v None short e s le = λ held. tt
    by_none v (Some kind) short e s le = by_kind (is_kind kind v) refl where
      by_kind : (x : Bool) → is_kind kind v ≡ x → Going w (IsOf (Some kind) to env b) b0 (at w pc env []) (do_of (where_true x (Fine v)) Gives)
      by_kind true k =
          let n = of_short kind short v k in
          moves w (IsOf (Some kind) to env b) b0 (at w pc env []) (at w to env (v ∷ [])) (Gives v) (λ h. h) (omega (arith, le))
          (load_known kind short alias.0.root pc s.0 env v (at_row w (Load kind alias.0.root) pc s.0 env [] s.1) (roots v e) k room ∙ ap (λ k. Moves (at w k env (v ∷ []))) s.2)
          (stop w (IsOf (Some kind) to env b) (b0 - 1) (at w to env (v ∷ [])) v ((omega (arith, le), refl, (n, room)), k))
      by_kind false k = λ held. tt

    by_steps : (v : Value) (step : PathStep) (steps : List PathStep) → slice_get vs alias.0.root ≡ Some v → Standing w pc (path_code hier alias.0.root (step ∷ steps) o) to → length (path_code hier alias.0.root (step ∷ steps) o) + b ≤ b0 → Going w (IsAt w to env [] b) b0 (at w pc env []) (read_steps hier (step ∷ steps) v)
    by_steps v step steps e s le =
        check_then (IsAt w to env [] b) Reference v b0 (at w pc env []) _ (λ k.
        moves w (IsAt w to env [] b) b0 (at w pc env []) (at w s.0 env (v ∷ [])) _ (λ h. h) (omega (arith, le))
        (load_known Reference tt alias.0.root pc s.0 env v (at_row w (Load Reference alias.0.root) pc s.0 env [] s.1) (roots v e) k room)
        (step_run (IsAt w to env [] b) hier step v (read_steps hier steps) (steps_code hier steps) s.0 to env [] (b0 - 1) b s.2 (omega (arith, le)) room (λ u k c2 nu s2 le2.
        steps_run hier steps u k to env [] c2 b nu s2 le2)))

    by_root : (x : Option Value) → slice_get vs alias.0.root ≡ x → (steps : List PathStep) → Standing w pc (path_code hier alias.0.root steps o) to → length (path_code hier alias.0.root steps o) + b ≤ b0 → Going w (IsOf o to env b) b0 (at w pc env []) (then_do (found x (read_steps hier steps)) (λ u. found o (λ kind. fits kind u)))
    by_root None e steps s le = λ held. tt
    by_root (Some v) e [] s le = by_none v o short e s le
    by_root (Some v) e (step ∷ steps) s le =
        seq w (IsAt w to env [] b) (IsOf o to env b) (λ u. found o (λ kind. fits kind u)) (λ u c f q. kind_check o to env b u c f q)
        (read_steps hier (step ∷ steps) v) b0 (at w pc env []) (by_steps v step steps e s le)

  module _ (m : TypedMember) where
    abbrev pub AreRead : List Value → ℕ → ℕ → List Value → ℕ → Frame → Type 0
    AreRead us to b more left f = (b ≤ left) × (f ≡ at w to (locals_of m (us ++ more)) [])

    -- the value of an alias is stored in the next local
    store_next : {B : Type 0} (R : B → ℕ → Frame → Type 0) (o : Option Kind) (us : List Value) (v : Value) (pc to : ℕ) (c b : ℕ) (d : Does B) → Standing w pc (store_code (length us) o) to → length (store_code (length us) o) + b ≤ c → length us < m.locals → option_map_or (λ kind. is_kind kind v) o false ≡ true → ((c : ℕ) → b ≤ c → Going w R c (at w to (locals_of m (us ++ v ∷ [])) []) d) → Going w R c (at w pc (locals_of m us) (v ∷ [])) d
    store_next R None us v pc to c b d s le small e k = absurd (false≢true e)
    store_next R (Some kind) us v pc to c b d s le small e k =
        let env = locals_of m us in
        let len = room_for_one m us small in
        moves w R c (at w pc env (v ∷ [])) (at w to (locals_of m (us ++ v ∷ [])) []) d (λ here. subst (Here w) (locals_step m us v small) (stored_here w kind (length us) env (Some v) s.3 here)) (omega (arith, le))
        (at_row w (Store kind (length us)) pc s.0 env (v ∷ []) s.1
        ∙ ap (λ x. where_row x (stored (length us) v (at w s.0 env []))) e
        ∙ ap (λ x. where_row x (Moves (at w s.0 (slice_set env (length us) (Some v)) []))) (lt-ltb (length us) (length env) len)
        ∙ ap (λ (l : Locals). Moves (at w s.0 l [])) (locals_step m us v small) ∙ ap (λ k. Moves (at w k (locals_of m (us ++ v ∷ [])) [])) s.2)
        (k (c - 1) (omega (arith, le)))

    pub aliases_run : (hier : Hier) (aliases : List (Path × Ty)) (vs done us : List Value) → us ≡ vs ++ done → (pc to : ℕ) (b0 b : ℕ) → Standing w pc (aliases_code hier (length us) aliases) to → length (aliases_code hier (length us) aliases) + b ≤ b0 → Room w 1 [] → length us + length aliases ≤ m.locals → Going w (AreRead us to b) b0 (at w pc (locals_of m us) []) (read_aliases hier aliases vs)
    aliases_run hier [] vs done us front pc to b0 b s le room slots =
        stop w (AreRead us to b) b0 (at w pc (locals_of m us) []) [] (omega (arith, le), ap (λ k. at w k (locals_of m us) []) s ∙ ap (λ l. at w to (locals_of m l) []) (sym (append-nil us)))
    aliases_run hier (alias ∷ more) vs done us front pc to b0 b s le room slots =
        let env = locals_of m us in
        let o = kind_of_type alias.1 in
        let path = path_code hier alias.0.root alias.0.steps o in
        let store = store_code (length us) o in
        let rest = aliases_code hier (length us + 1) more in
        let p = parted w (path ++ store) rest pc to s in
        let q = parted w path store pc p.mid p.front in
        let l1 = length-append (path ++ store) rest in
        let l2 = length-append path store in
        let small : length us < m.locals = omega (arith, slots) in
        seq w (IsOf o q.mid env (length store + (length rest + b))) (AreRead us to b) (λ v. then_do (read_aliases hier more vs) (λ vs. Gives (v ∷ vs)))
        (λ v c f h. from_here w (AreRead us to b) c f (at w q.mid env (v ∷ [])) (then_do (read_aliases hier more vs) (λ vs. Gives (v ∷ vs))) h.0.1
        (store_next (AreRead us to b) o us v q.mid p.mid c (length rest + b) (then_do (read_aliases hier more vs) (λ vs. Gives (v ∷ vs))) q.back h.0.0 small h.1 (λ c2 le2.
        let new = us ++ v ∷ [] in
        let len : length us + 1 ≡ length new = omega (arith, length-append us (v ∷ [])) in
        let front2 : new ≡ vs ++ (done ++ v ∷ []) = ap (λ l. l ++ v ∷ []) front ∙ append_assoc vs done (v ∷ []) in
        seq w (AreRead new to b) (AreRead us to b) (λ vs. Gives (v ∷ vs)) (λ more c3 g z. stop w (AreRead us to b) c3 g (v ∷ more) (z.0, z.1 ∙ ap (λ l. at w to (locals_of m l) []) (append_assoc us (v ∷ []) more)))
        (read_aliases hier more vs) c2 (at w p.mid (locals_of m new) [])
        (aliases_run hier more vs (done ++ v ∷ []) new front2 p.mid to c2 b (subst (λ k. Standing w p.mid (aliases_code hier k more) to) len p.back) (subst (λ k. length (aliases_code hier k more) + b ≤ c2) len le2) room (omega (arith, slots, len))))))
        (read_alias hier alias vs) b0 (at w pc env [])
        (alias_value hier alias o (types_short alias.1) vs pc q.mid env b0 (length store + (length rest + b)) (λ v e. known v e) q.front (omega (arith, l1, l2, le)) room) where
          known : (v : Value) → slice_get vs alias.0.root ≡ Some v → option_and_then (λ v. v) (slice_get (locals_of m us) alias.0.root) ≡ Some v
          known v e =
              ap (λ (l : List Value). option_and_then (λ v. v) (slice_get (map Some l ++ replicate (m.locals - length us) None) alias.0.root)) front
              ∙ ap (λ (x : Option (Option Value)). option_and_then (λ v. v) x) (root_at vs done (replicate (m.locals - length us) None) alias.0.root v e)
