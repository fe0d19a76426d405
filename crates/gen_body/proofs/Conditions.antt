-- The code of conditions does what they mean.
use Rattle.std.proofs.Common.{◌≡◌, ℕ, ◌+◌, ◌-◌, ◌≤◌, List, [], ◌∷◌, ◌++◌, length, refl, sym, ap, ◌∙◌, subst, arith, length-append}
use Rattle.std.specs.Prelude.{pos, Bool, true, false, not, cond, if◌then◌else◌}
use Rattle.jp_store.specs.declared.value.Value.{Value}
use Rattle.jp_store.specs.declared.value.Value.TheVariants.{Int, Long, Null, Ref, Text}
use Rattle.jp_store.specs.declared.outcome.Outcome.{Outcome}
use Rattle.jp_store.specs.declared.outcome.Outcome.TheVariants.{Fine, Trap, Wrong}
use Rattle.jp_store.specs.declared.operator.Test.{Test}
use Rattle.jp_store.specs.declared.operator.Test.TheVariants.{Equal, NotEqual, Less, GreaterOrEqual, Greater, LessOrEqual}
use Rattle.jp_store.specs.Outcome.{then_with}
use Rattle.jp_store.specs.Arith.{passes, compares, sames, of_truth}
use Rattle.jp_does.specs.Does.{Gives, then_do, do_of}
use Rattle.jp_meaning.specs.Does.{Does}
use Rattle.jp_meaning.specs.Expressions.{Locals, truth_of, by_truth, as_truth, as_untruth, compares_references}
use Rattle.jvm_table.specs.declared.frame.Frame.{Frame}
use Rattle.jvm_table.specs.declared.instr.Instr.TheVariants.{JumpTo}
use Rattle.jvm_table.specs.declared.instr.Jump.{Jump}
use Rattle.jvm_table.specs.declared.instr.Jump.TheVariants.{Always}
use Rattle.jvm_table.specs.Act.{Act, Moves, Fails, acted, landed, act}
use Rattle.code_asm.specs.Items.{Item, Branch, Mark}
use Rattle.gen_body.specs.Codes.{and_test, or_test, choice, jump_by, jump_by_zero, jump_by_null}
use Rattle.gen_body.proofs.Values.{opposite_passes}
use Rattle.gen_body.proofs.Going.{Setting, run, at, Standing, parted, Here, Held, Going, from_here, seq, ending, stop, moves, fails}
use Rattle.gen_body.proofs.Blocks.{landing, Room, at_row, IsAt, Tested, Judged, Pushes, Tests, Judges, operand, decide, judged_truth}

module _ (w : Setting) where
  -- a test, and what follows where it is true and where it isn't
  pub by_test : {B : Type 0} (R : B → ℕ → Frame → Type 0) (t : Bool → ℕ → List Item) (rest : List Item) (need : ℕ) (d : Locals → Does Value) (first second : Does B) → Tests w t need d → (want : Bool) (l pc to : ℕ) (env : Locals) (st : List Value) (b0 b : ℕ) → Standing w pc (t want l ++ rest) to → length (t want l ++ rest) + b ≤ b0 → Room w need st → ((m c : ℕ) (f : Frame) → Standing w m rest to → 1 + (length rest + b) ≤ c → run w f ≡ Moves (at w (landing want (w.place l) m true) env st) → (Held w f → Here w env) → Going w R c f first) → ((m c : ℕ) (f : Frame) → Standing w m rest to → 1 + (length rest + b) ≤ c → run w f ≡ Moves (at w (landing want (w.place l) m false) env st) → (Held w f → Here w env) → Going w R c f second) → Going w R b0 (at w pc env st) (by_truth (d env) first second)
  by_test R t rest need d first second h want l pc to env st b0 b s le room k1 k2 =
      let p = parted w (t want l) rest pc to s in
      let n = length-append (t want l) rest in
      seq w (Tested w want (w.place l) p.mid env st (length rest + b)) R (λ v. do_of (truth_of v) (λ x. cond x first second))
      (decide w R want (w.place l) p.mid env st (length rest + b) (λ x. cond x first second) (chosen p.mid p.back))
      (d env) b0 (at w pc env st) (h want l pc p.mid env st b0 (length rest + b) p.front (omega (arith, n, le)) room) where
        chosen : (m : ℕ) → Standing w m rest to → (x : Bool) (c : ℕ) (f : Frame) → 1 + (length rest + b) ≤ c → run w f ≡ Moves (at w (landing want (w.place l) m x) env st) → (Held w f → Here w env) → Going w R c f (cond x first second)
        chosen m s true c f le e keep = k1 m c f s le e keep
        chosen m s false c f le e keep = k2 m c f s le e keep

  -- a condition's value as 0 or 1
  truth_runs : (want : Bool) (l to : ℕ) (env : Locals) (st : List Value) (b b0 : ℕ) (f : Frame) (d : Does Value) → Going w (Tested w want l to env st b) b0 f d → Going w (Judged w want l to env st b) b0 f (as_truth d)
  truth_runs want l to env st b b0 f d r =
      seq w (Tested w want l to env st b) (Judged w want l to env st b) (λ v. do_of (truth_of v) (λ x. Gives (of_truth x)))
      (decide w (Judged w want l to env st b) want l to env st b (λ x. Gives (of_truth x)) (judged_truth w want l to env st b)) d b0 f r

  pub not_judges : (t : Bool → ℕ → List Item) (need : ℕ) (d : Locals → Does Value) → Tests w t need d → Judges w (λ want l. t (not want) l) need (λ env. as_untruth (d env))
  not_judges t need d h want l pc to env st b0 b s le room =
      seq w (Tested w (not want) (w.place l) to env st b) (Judged w want (w.place l) to env st b) (λ v. do_of (truth_of v) (λ x. Gives (of_truth (not x))))
      (decide w (Judged w want (w.place l) to env st b) (not want) (w.place l) to env st b (λ x. Gives (of_truth (not x)))
      (λ x c f le e keep. judged_truth w want (w.place l) to env st b (not x) c f le (e ∙ ap (λ k. Moves (at w k env st)) (turned want x (w.place l) to)) keep))
      (d env) b0 (at w pc env st) (h (not want) l pc to env st b0 b s le room) where
        turned : (want x : Bool) (l to : ℕ) → landing (not want) l to x ≡ landing want l to (not x)
        turned true true l to = refl
        turned true false l to = refl
        turned false true l to = refl
        turned false false l to = refl

  -- a jump that is made, and then a test that is decided
  test_after : (t : Bool → ℕ → List Item) (need : ℕ) (d : Locals → Does Value) → Tests w t need d → (want : Bool) (l m to : ℕ) (env : Locals) (st : List Value) (c b : ℕ) (f : Frame) → Standing w m (t want l) to → 1 + (length (t want l) + b) ≤ c → Room w need st → run w f ≡ Moves (at w m env st) → (Held w f → Here w env) → Going w (Judged w want (w.place l) to env st b) c f (as_truth (d env))
  test_after t need d h want l m to env st c b f s le room e keep =
      moves w (Judged w want (w.place l) to env st b) c f (at w m env st) (as_truth (d env)) keep (omega (arith, le)) e
      (truth_runs want (w.place l) to env st b (c - 1) (at w m env st) (d env) (h want l m to env st (c - 1) b s (omega (arith, le)) room))

  -- a test before a mark
  marked : (t : Bool → ℕ → List Item) (need : ℕ) (d : Locals → Does Value) → Tests w t need d → (want : Bool) (l skip m to : ℕ) (env : Locals) (st : List Value) (c b : ℕ) (f : Frame) → Standing w m (t want l ++ Mark skip ∷ []) to → 1 + (length (t want l ++ Mark skip ∷ []) + b) ≤ c → Room w need st → run w f ≡ Moves (at w m env st) → (Held w f → Here w env) → Going w (Judged w want (w.place l) to env st b) c f (as_truth (d env))
  marked t need d h want l skip m to env st c b f s le room e keep =
      let p = parted w (t want l) (Mark skip ∷ []) m to s in
      let n = length-append (t want l) (Mark skip ∷ []) in
      subst (λ z. Going w (Judged w want (w.place l) z env st b) c f (as_truth (d env))) p.back.1
      (test_after t need d h want l m p.mid env st c b f p.front (omega (arith, n, le)) room e keep)

  -- the place of a mark behind a test
  mark_at : (t : List Item) (skip m to : ℕ) (env : Locals) (st : List Value) → Standing w m (t ++ Mark skip ∷ []) to → w.place skip ≡ to
  mark_at t skip m to env st s = let p = parted w t (Mark skip ∷ []) m to s in p.back.0 ∙ p.back.1

  pub and_judges : (ta tb : Bool → ℕ → List Item) (skip na nb : ℕ) (da db : Locals → Does Value) → Tests w ta na da → Tests w tb nb db → (need : ℕ) → na ≤ need → nb ≤ need → Judges w (and_test ta tb skip) need (λ env. by_truth (da env) (as_truth (db env)) (Gives (of_truth false)))
  and_judges ta tb skip na nb da db ha hb need la lb true l pc to env st b0 b s le room =
      let R : Value → ℕ → Frame → Type 0 = Judged w true (w.place l) to env st b in
      by_test R ta (tb true l ++ Mark skip ∷ []) na da _ _ ha false skip pc to env st b0 b s le (omega (arith, la, room))
      (λ m c f s1 le1 e keep. marked tb nb db hb true l skip m to env st c b f s1 le1 (omega (arith, lb, room)) e keep)
      (λ m c f s1 le1 e keep. judged_truth w true (w.place l) to env st b false c f (omega (arith, le1)) (e ∙ ap (λ k. Moves (at w k env st)) (mark_at (tb true l) skip m to env st s1)) keep)
  and_judges ta tb skip na nb da db ha hb need la lb false l pc to env st b0 b s le room =
      let R : Value → ℕ → Frame → Type 0 = Judged w false (w.place l) to env st b in
      by_test R ta (tb false l) na da _ _ ha false l pc to env st b0 b s le (omega (arith, la, room))
      (λ m c f s1 le1 e keep. test_after tb nb db hb false l m to env st c b f s1 (omega (arith, le1)) (omega (arith, lb, room)) e keep)
      (λ m c f s1 le1 e keep. judged_truth w false (w.place l) to env st b false c f (omega (arith, le1)) e keep)

  pub or_judges : (ta tb : Bool → ℕ → List Item) (skip na nb : ℕ) (da db : Locals → Does Value) → Tests w ta na da → Tests w tb nb db → (need : ℕ) → na ≤ need → nb ≤ need → Judges w (or_test ta tb skip) need (λ env. by_truth (da env) (Gives (of_truth true)) (as_truth (db env)))
  or_judges ta tb skip na nb da db ha hb need la lb true l pc to env st b0 b s le room =
      let R : Value → ℕ → Frame → Type 0 = Judged w true (w.place l) to env st b in
      by_test R ta (tb true l) na da _ _ ha true l pc to env st b0 b s le (omega (arith, la, room))
      (λ m c f s1 le1 e keep. judged_truth w true (w.place l) to env st b true c f (omega (arith, le1)) e keep)
      (λ m c f s1 le1 e keep. test_after tb nb db hb true l m to env st c b f s1 (omega (arith, le1)) (omega (arith, lb, room)) e keep)
  or_judges ta tb skip na nb da db ha hb need la lb false l pc to env st b0 b s le room =
      let R : Value → ℕ → Frame → Type 0 = Judged w false (w.place l) to env st b in
      by_test R ta (tb false l ++ Mark skip ∷ []) na da _ _ ha true skip pc to env st b0 b s le (omega (arith, la, room))
      (λ m c f s1 le1 e keep. judged_truth w false (w.place l) to env st b true c f (omega (arith, le1)) (e ∙ ap (λ k. Moves (at w k env st)) (mark_at (tb false l) skip m to env st s1)) keep)
      (λ m c f s1 le1 e keep. marked tb nb db hb false l skip m to env st c b f s1 le1 (omega (arith, lb, room)) e keep)

  -- what a jump does, by what a comparison comes to
  abbrev pub Agrees : Bool → ℕ → ℕ → Locals → List Value → Outcome Bool → Act → Type 0
  Agrees want l to env st (Fine x) a = a ≡ Moves (at w (landing want l to x) env st)
  Agrees want l to env st (Trap kind) a = a ≡ Fails kind
  Agrees want l to env st Wrong a = Unit {0}

  jumps_by : (want : Bool) (l to : ℕ) (env : Locals) (st : List Value) (r : Outcome Bool) (a : Act) (c b : ℕ) (f : Frame) → 1 + b ≤ c → run w f ≡ a → (Held w f → Here w env) → Agrees want l to env st r a → Going w (Judged w want l to env st b) c f (do_of r (λ x. Gives (of_truth x)))
  jumps_by want l to env st (Fine x) a c b f le e keep g = judged_truth w want l to env st b x c f le (e ∙ g) keep
  jumps_by want l to env st (Trap kind) a c b f le e keep g = fails w (Judged w want l to env st b) c f kind (omega (arith, le)) (e ∙ g)
  jumps_by want l to env st Wrong a c b f le e keep g = λ held. tt

  landed_as : (want x : Bool) (l to : ℕ) (env : Locals) (st : List Value) → landed want l (at w to env st) x ≡ Moves (at w (landing want l to x) env st)
  landed_as true true l to env st = refl
  landed_as true false l to env st = refl
  landed_as false true l to env st = refl
  landed_as false false l to env st = refl

  landed_not : (want x : Bool) (l to : ℕ) (env : Locals) (st : List Value) → landed (not want) l (at w to env st) x ≡ Moves (at w (landing want l to (not x)) env st)
  landed_not true true l to env st = refl
  landed_not true false l to env st = refl
  landed_not false true l to env st = refl
  landed_not false false l to env st = refl

  landed_other : (x : Bool) (l to : ℕ) (env : Locals) (st : List Value) → landed true l (at w to env st) (not x) ≡ Moves (at w (landing false l to x) env st)
  landed_other true l to env st = refl
  landed_other false l to env st = refl

  same_agrees : (want : Bool) (l to : ℕ) (env : Locals) (st : List Value) (r : Outcome Bool) → Agrees want l to env st r (acted r (landed want l (at w to env st)))
  same_agrees want l to env st (Fine x) = landed_as want x l to env st
  same_agrees want l to env st (Trap kind) = refl
  same_agrees want l to env st Wrong = tt

  other_agrees : (want : Bool) (l to : ℕ) (env : Locals) (st : List Value) (r : Outcome Bool) → Agrees want l to env st (then_with r (λ same. Fine (not same))) (acted r (landed (not want) l (at w to env st)))
  other_agrees want l to env st (Fine x) = landed_not want x l to env st
  other_agrees want l to env st (Trap kind) = refl
  other_agrees want l to env st Wrong = tt

  ints_agree : (want : Bool) (test : Test) (l to : ℕ) (env : Locals) (st : List Value) (x y : Value) → Agrees want l to env st (compares test x y) (act w.file w.method (JumpTo (jump_by false test want) l) (at w to env (y ∷ x ∷ st)))
  ints_agree true test l to env st (Int x) (Int y) = landed_as true (passes test x y) l to env st
  ints_agree false test l to env st (Int x) (Int y) = ap (landed true l (at w to env st)) (opposite_passes test x y) ∙ landed_other (passes test x y) l to env st
  ints_agree want test l to env st (Int x) (Long y) = tt
  ints_agree want test l to env st (Int x) Null = tt
  ints_agree want test l to env st (Int x) (Ref y) = tt
  ints_agree want test l to env st (Int x) (Text y) = tt
  ints_agree want test l to env st (Long x) y = tt
  ints_agree want test l to env st Null y = tt
  ints_agree want test l to env st (Ref x) y = tt
  ints_agree want test l to env st (Text x) y = tt

  compare_agrees : (refs want : Bool) (test : Test) (l to : ℕ) (env : Locals) (st : List Value) (x y : Value) → Agrees want l to env st (if refs then compares_references test x y else compares test x y) (act w.file w.method (JumpTo (jump_by refs test want) l) (at w to env (y ∷ x ∷ st)))
  compare_agrees false want test l to env st x y = ints_agree want test l to env st x y
  compare_agrees true true Equal l to env st x y = same_agrees true l to env st (sames x y)
  compare_agrees true false Equal l to env st x y = same_agrees false l to env st (sames x y)
  compare_agrees true true NotEqual l to env st x y = other_agrees true l to env st (sames x y)
  compare_agrees true false NotEqual l to env st x y = other_agrees false l to env st (sames x y)
  compare_agrees true want Less l to env st x y = tt
  compare_agrees true want GreaterOrEqual l to env st x y = tt
  compare_agrees true want Greater l to env st x y = tt
  compare_agrees true want LessOrEqual l to env st x y = tt

  pub compare_judges : (refs : Bool) (test : Test) (ca cb : List Item) (na nb : ℕ) (da db : Locals → Does Value) → Pushes w ca na da → Pushes w cb nb db → (need : ℕ) → na ≤ need → 1 + nb ≤ need → Judges w (λ want l. ca ++ (cb ++ Branch (jump_by refs test want) l ∷ [])) need (λ env. then_do (da env) (λ x. then_do (db env) (λ y. do_of (if refs then compares_references test x y else compares test x y) (λ z. Gives (of_truth z)))))
  compare_judges refs test ca cb na nb da db ha hb need la lb want l pc to env st b0 b s le room =
      let R : Value → ℕ → Frame → Type 0 = Judged w want (w.place l) to env st b in
      operand w R ca (cb ++ Branch (jump_by refs test want) l ∷ []) na da _ ha pc to env st b0 b s le (omega (arith, la, room)) (λ x m c nx s1 le1.
      operand w R cb (Branch (jump_by refs test want) l ∷ []) nb db _ hb m to env (x ∷ st) c b s1 le1 (omega (arith, lb, room, nx.0)) (λ y k c2 ny s2 le2.
      subst (λ z. Going w (Judged w want (w.place l) z env st b) c2 (at w k env (y ∷ x ∷ st)) (do_of (if refs then compares_references test x y else compares test x y) (λ z. Gives (of_truth z)))) s2.2
      (jumps_by want (w.place l) s2.0 env st _ _ c2 b (at w k env (y ∷ x ∷ st)) (omega (arith, le2)) (at_row w (JumpTo (jump_by refs test want) (w.place l)) k s2.0 env (y ∷ x ∷ st) s2.1) (λ h. h)
      (compare_agrees refs want test (w.place l) s2.0 env st x y))))

  zero_agrees : (want : Bool) (test : Test) (l to : ℕ) (env : Locals) (st : List Value) (x : Value) → Agrees want l to env st (compares test x (Int (pos 0))) (act w.file w.method (JumpTo (jump_by_zero test want) l) (at w to env (x ∷ st)))
  zero_agrees true test l to env st (Int x) = landed_as true (passes test x (pos 0)) l to env st
  zero_agrees false test l to env st (Int x) = ap (landed true l (at w to env st)) (opposite_passes test x (pos 0)) ∙ landed_other (passes test x (pos 0)) l to env st
  zero_agrees want test l to env st (Long x) = tt
  zero_agrees want test l to env st Null = tt
  zero_agrees want test l to env st (Ref x) = tt
  zero_agrees want test l to env st (Text x) = tt

  null_agrees : (want : Bool) (test : Test) (l to : ℕ) (env : Locals) (st : List Value) (x : Value) → Agrees want l to env st (compares_references test x Null) (act w.file w.method (JumpTo (jump_by_null test want) l) (at w to env (x ∷ st)))
  null_agrees true Equal l to env st x = same_agrees true l to env st (sames x Null)
  null_agrees false Equal l to env st x = same_agrees false l to env st (sames x Null)
  null_agrees true NotEqual l to env st x = other_agrees true l to env st (sames x Null)
  null_agrees false NotEqual l to env st x = other_agrees false l to env st (sames x Null)
  null_agrees want Less l to env st x = tt
  null_agrees want GreaterOrEqual l to env st x = tt
  null_agrees want Greater l to env st x = tt
  null_agrees want LessOrEqual l to env st x = tt

  -- a comparison with a value that is known
  known_judges : (jump : Bool → Jump) (outcome : Value → Outcome Bool) → ((want : Bool) (l to : ℕ) (env : Locals) (st : List Value) (x : Value) → Agrees want l to env st (outcome x) (act w.file w.method (JumpTo (jump want) l) (at w to env (x ∷ st)))) →
      (ca : List Item) (need : ℕ) (da : Locals → Does Value) → Pushes w ca need da → Judges w (λ want l. ca ++ Branch (jump want) l ∷ []) need (λ env. then_do (da env) (λ x. do_of (outcome x) (λ z. Gives (of_truth z))))
  known_judges jump outcome agrees ca need da ha want l pc to env st b0 b s le room =
      operand w (Judged w want (w.place l) to env st b) ca (Branch (jump want) l ∷ []) need da (λ x. do_of (outcome x) (λ z. Gives (of_truth z))) ha pc to env st b0 b s le room (λ x m c nx s1 le1.
      subst (λ z. Going w (Judged w want (w.place l) z env st b) c (at w m env (x ∷ st)) (do_of (outcome x) (λ z. Gives (of_truth z)))) s1.2
      (jumps_by want (w.place l) s1.0 env st (outcome x) (act w.file w.method (JumpTo (jump want) (w.place l)) (at w s1.0 env (x ∷ st))) c b (at w m env (x ∷ st)) (omega (arith, le1)) (at_row w (JumpTo (jump want) (w.place l)) m s1.0 env (x ∷ st) s1.1) (λ h. h)
      (agrees want (w.place l) s1.0 env st x)))

  pub zero_judges : (test : Test) (ca : List Item) (need : ℕ) (da db : Locals → Does Value) → ((env : Locals) → db env ≡ Gives (Int (pos 0))) → Pushes w ca need da → Judges w (λ want l. ca ++ Branch (jump_by_zero test want) l ∷ []) need (λ env. then_do (da env) (λ x. then_do (db env) (λ y. do_of (compares test x y) (λ z. Gives (of_truth z)))))
  zero_judges test ca need da db known ha want l pc to env st b0 b s le room =
      subst (λ (d : Does Value). Going w (Judged w want (w.place l) to env st b) b0 (at w pc env st) (then_do (da env) (λ x. then_do d (λ y. do_of (compares test x y) (λ z. Gives (of_truth z)))))) (sym (known env))
      (known_judges (jump_by_zero test) (λ x. compares test x (Int (pos 0))) (λ want l to env st x. zero_agrees want test l to env st x) ca need da ha want l pc to env st b0 b s le room)

  pub null_judges : (test : Test) (ca : List Item) (need : ℕ) (da db : Locals → Does Value) → ((env : Locals) → db env ≡ Gives Null) → Pushes w ca need da → Judges w (λ want l. ca ++ Branch (jump_by_null test want) l ∷ []) need (λ env. then_do (da env) (λ x. then_do (db env) (λ y. do_of (compares_references test x y) (λ z. Gives (of_truth z)))))
  null_judges test ca need da db known ha want l pc to env st b0 b s le room =
      subst (λ (d : Does Value). Going w (Judged w want (w.place l) to env st b) b0 (at w pc env st) (then_do (da env) (λ x. then_do d (λ y. do_of (compares_references test x y) (λ z. Gives (of_truth z)))))) (sym (known env))
      (known_judges (jump_by_null test) (λ x. compares_references test x Null) (λ want l to env st x. null_agrees want test l to env st x) ca need da ha want l pc to env st b0 b s le room)

  -- one of two
  pub choice_run : {B : Type 0} (R : ℕ → ℕ → B → ℕ → Frame → Type 0) → ((m to b : ℕ) (x : B) (c : ℕ) (f : Frame) → ((env : Locals) (st : List Value) → run w (at w m env st) ≡ Moves (at w to env st)) → R m (1 + b) x c f → Going w (R to b) c f (Gives x)) → (t : Bool → ℕ → List Item) (ca cb : List Item) (need : ℕ) (dt : Locals → Does Value) (da db : Does B) (n : ℕ) (env : Locals) (st : List Value) → Tests w t need dt → Room w need st → ((pc to b0 b : ℕ) → Standing w pc ca to → length ca + b ≤ b0 → Going w (R to b) b0 (at w pc env st) da) → ((pc to b0 b : ℕ) → Standing w pc cb to → length cb + b ≤ b0 → Going w (R to b) b0 (at w pc env st) db) → (pc to b0 b : ℕ) → Standing w pc (choice t ca cb n) to → length (choice t ca cb n) + b ≤ b0 → Going w (R to b) b0 (at w pc env st) (by_truth (dt env) da db)
  choice_run R over t ca cb need dt da db n env st ht room ha hb pc to b0 b s le =
      let tail : List Item = cb ++ Mark (n + 1) ∷ [] in
      let rest : List Item = ca ++ (Branch Always (n + 1) ∷ Mark n ∷ tail) in
      let l1 = length-append ca (Branch Always (n + 1) ∷ Mark n ∷ tail) in
      let l2 = length-append cb (Mark (n + 1) ∷ []) in
      by_test (R to b) t rest need dt da db ht false n pc to env st b0 b s le room
      (λ m c f s1 le1 e keep.
      let p = parted w ca (Branch Always (n + 1) ∷ Mark n ∷ tail) m to s1 in
      let q = parted w cb (Mark (n + 1) ∷ []) p.back.0 to p.back.2.1 in
      moves w (R to b) c f (at w m env st) da keep (omega (arith, le1)) e
      (ending w (R p.mid (1 + b)) (R to b)
      (λ x c2 f2 h. over p.mid to b x c2 f2 (λ env st. at_row w (JumpTo Always (w.place (n + 1))) p.mid p.back.0 env st p.back.1 ∙ ap (λ k. Moves (at w k env st)) (q.back.0 ∙ q.back.1)) h)
      da (c - 1) (at w m env st) (ha m p.mid (c - 1) (1 + b) p.front (omega (arith, l1, l2, le1)))))
      (λ m c f s1 le1 e keep.
      let p = parted w ca (Branch Always (n + 1) ∷ Mark n ∷ tail) m to s1 in
      let q = parted w cb (Mark (n + 1) ∷ []) p.back.0 to p.back.2.1 in
      moves w (R to b) c f (at w p.back.0 env st) db keep (omega (arith, le1)) (e ∙ ap (λ k. Moves (at w k env st)) p.back.2.0)
      (subst (λ z. Going w (R z b) (c - 1) (at w p.back.0 env st) db) q.back.1 (hb p.back.0 q.mid (c - 1) b q.front (omega (arith, l1, l2, le1)))))

  pub value_over : (env : Locals) (st : List Value) (m to b : ℕ) (x : Value) (c : ℕ) (f : Frame) → ((env : Locals) (st : List Value) → run w (at w m env st) ≡ Moves (at w to env st)) → IsAt w m env st (1 + b) x c f → Going w (IsAt w to env st b) c f (Gives x)
  value_over env st m to b x c f e q =
      from_here w (IsAt w to env st b) c f (at w m env (x ∷ st)) (Gives x) q.1
      (moves w (IsAt w to env st b) c (at w m env (x ∷ st)) (at w to env (x ∷ st)) (Gives x) (λ h. h) (omega (arith, q.0)) (e env (x ∷ st))
      (stop w (IsAt w to env st b) (c - 1) (at w to env (x ∷ st)) x (omega (arith, q.0), refl, q.2)))
