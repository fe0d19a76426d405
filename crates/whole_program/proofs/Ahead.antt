-- The machine's run goes on as it began, and so the headline.
use Rattle.std.proofs.Common.{◌≡◌, ℕ, zero, suc, ◌*◌, ◌≤◌, ⊎_elim, List, [], ◌++◌, Option, Some, None, refl, sym, ap, ◌∙◌, subst, arith, append_assoc}
use Rattle.std.specs.Prelude.{false}
use Rattle.std.proofs.lemmas.Bool.{cases_lt, false≢true}
use Rattle.std.proofs.lemmas.List.{append-nil}
use Rattle.class_form.specs.declared.class_file.ClassFile.{ClassFile}
use Rattle.jp_meaning.specs.Descriptors.{internal_name}
use Rattle.jp_meaning.specs.Laws.{Begins}
use Rattle.jp_meaning.specs.Run.{End, Done, Trapped, NoBody, TwoBodies, IsStuck, More, Program, Result, run}
use Rattle.jvm_step.specs.declared.value.End.{End as MachineEnd}
use Rattle.jvm_step.specs.declared.value.End.TheVariants as machine
use Rattle.jvm_step.specs.declared.state.State.{State}
use Rattle.jvm_step.specs.Turn.{Turn, Goes, Shows, Wants, Stops, turn_of}
use Rattle.jvm_step.specs.Run.{Finish, first_of, rest_of, with_read, on_turn, exec, from_start, start, machine_run}
use Rattle.whole_program.specs.Right.{Bounds}
use Rattle.whole_program.specs.Laws.{fee, EndsAs, Matches}
use Rattle.whole_program.specs.Headline.{is_lost, Tells, Headline, OutputBegins, Reaches, EnoughInstructions}
use Rattle.whole_program.proofs.Passing.{goes_on_from}
use Rattle.whole_program.proofs.Obeys.{exec_zero, exec_suc}
use Rattle.whole_program.proofs.Linked.{right_keeps}

begins_refl : (a : List ℕ) → Begins a a
begins_refl a = ([], sym (append-nil a))

begins_trans : (a b c : List ℕ) → Begins a b → Begins b c → Begins a c
begins_trans a b c h k = (h.0 ++ k.0, k.1 ∙ ap (λ l. l ++ k.0) h.1 ∙ append_assoc a h.0 k.0)

-- a run that is over stays so, and one that was cut goes on
abbrev GoesOn : MachineEnd → Finish → Finish → Type 0
GoesOn machine.Cut x y = Begins x.out y.out
GoesOn machine.Done x y = y ≡ x
GoesOn (machine.Trap kind) x y = y ≡ x
GoesOn machine.ReadFault x y = y ≡ x
GoesOn machine.WriteFault x y = y ≡ x
GoesOn (machine.BadCode class method place) x y = y ≡ x

goes_same : (e : MachineEnd) (x : Finish) → GoesOn e x x
goes_same machine.Cut x = begins_refl x.out
goes_same machine.Done x = refl
goes_same (machine.Trap kind) x = refl
goes_same machine.ReadFault x = refl
goes_same machine.WriteFault x = refl
goes_same (machine.BadCode class method place) x = refl

module _ (files : List ClassFile) where
  turn_grows : (n : ℕ) → ((x : State) (i o : List ℕ) → Begins o (exec files n x i o).out) → (i o : List ℕ) (t : Turn) → Begins o (on_turn files (exec files n) i o t).out
  turn_grows n h i o (Goes x) = h x i o
  turn_grows n h i o (Shows bytes x) = begins_trans o (o ++ bytes) (exec files n x i (o ++ bytes)).out (bytes, refl) (h x i (o ++ bytes))
  turn_grows n h i o (Wants x) = h (with_read (first_of i) x) (rest_of i) o
  turn_grows n h i o (Stops halt) = begins_refl o

  grows : (n : ℕ) (x : State) (i o : List ℕ) → Begins o (exec files n x i o).out
  grows zero x i o = subst (λ (f : Finish). Begins o f.out) (sym (exec_zero files x i o)) (begins_refl o)
  grows (suc n) x i o = subst (λ (f : Finish). Begins o f.out) (sym (exec_suc files n x i o)) (turn_grows n (grows n) i o (turn_of files x))

  abbrev On : ℕ → ℕ → Type 0
  On m n = (x : State) (i o : List ℕ) → GoesOn (exec files m x i o).end (exec files m x i o) (exec files n x i o)

  turn_on : (m n : ℕ) → On m n → (i o : List ℕ) (t : Turn) → GoesOn (on_turn files (exec files m) i o t).end (on_turn files (exec files m) i o t) (on_turn files (exec files n) i o t)
  turn_on m n h i o (Goes x) = h x i o
  turn_on m n h i o (Shows bytes x) = h x i (o ++ bytes)
  turn_on m n h i o (Wants x) = h (with_read (first_of i) x) (rest_of i) o
  turn_on m n h i o (Stops halt) = goes_same _ _

  longer : (m n : ℕ) → m ≤ n → On m n
  longer zero n le x i o = subst (λ (f : Finish). GoesOn f.end f (exec files n x i o)) (sym (exec_zero files x i o)) (grows n x i o)
  longer (suc m) zero le x i o = absurd (omega arith)
  longer (suc m) (suc n) le x i o =
      subst (λ (f : Finish). GoesOn f.end f (exec files (suc n) x i o)) (sym (exec_suc files m x i o))
      (subst (λ (f : Finish). GoesOn (on_turn files (exec files m) i o (turn_of files x)).end (on_turn files (exec files m) i o (turn_of files x)) f) (sym (exec_suc files n x i o))
      (turn_on m n (longer m n (omega arith)) i o (turn_of files x)))

  module _ (main input : List ℕ) where
    abbrev at : ℕ → Finish
    at limit = machine_run files main limit input

    from_longer : (m n : ℕ) → m ≤ n → (x : Option State) → GoesOn (from_start files main m input x).end (from_start files main m input x) (from_start files main n input x)
    from_longer m n le None = refl
    from_longer m n le (Some x) = longer m n le x input []

    machine_longer : (m n : ℕ) → m ≤ n → GoesOn (at m).end (at m) (at n)
    machine_longer m n le = from_longer m n le (start files main)

    module _ (result : Result) where
      tells_begins : (e : MachineEnd) (y : Finish) → Tells e input result y → Begins y.out result.output
      tells_begins machine.Done y h = subst (λ (o : List ℕ). Begins y.out o) h.1.out (begins_refl y.out)
      tells_begins (machine.Trap kind) y h = subst (λ (o : List ℕ). Begins y.out o) h.1.out (begins_refl y.out)
      tells_begins machine.Cut y h = h
      tells_begins machine.ReadFault y h = absurd h
      tells_begins machine.WriteFault y h = absurd h
      tells_begins (machine.BadCode class method place) y h = absurd h

      same_tells : (e : MachineEnd) (x y : Finish) → x.end ≡ e → y ≡ x → Tells y.end input result y → Tells e input result x
      same_tells e x y is same h = subst (λ (z : MachineEnd). Tells z input result x) is (subst (λ (z : Finish). Tells z.end input result z) same h)

      -- what a later run tells, an earlier one tells
      tells_back : (e : MachineEnd) (x y : Finish) → x.end ≡ e → GoesOn e x y → Tells y.end input result y → Tells e input result x
      tells_back machine.Cut x y is on h = begins_trans x.out y.out result.output on (tells_begins y.end y h)
      tells_back machine.Done x y is on h = same_tells machine.Done x y is on h
      tells_back (machine.Trap kind) x y is on h = same_tells (machine.Trap kind) x y is on h
      tells_back machine.ReadFault x y is on h = same_tells machine.ReadFault x y is on h
      tells_back machine.WriteFault x y is on h = same_tells machine.WriteFault x y is on h
      tells_back (machine.BadCode class method place) x y is on h = same_tells (machine.BadCode class method place) x y is on h

      earlier : (limit j : ℕ) → limit ≤ j → Tells (at j).end input result (at j) → Tells (at limit).end input result (at limit)
      earlier limit j le h = tells_back (at limit).end (at limit) (at j) refl (machine_longer limit j le) h

      -- an end that was reached by then is the end
      settled : (e : MachineEnd) (limit j : ℕ) → ((x y : Finish) → GoesOn e x y → y ≡ x) → (at j).end ≡ e → Tells (at j).end input result (at j) → Tells (at limit).end input result (at limit)
      settled e limit j over is h =
          ⊎_elim (λ lt. earlier limit j (omega arith) h)
          (λ le. subst (λ (f : Finish). Tells f.end input result f) (sym (over (at j) (at limit) (subst (λ (z : MachineEnd). GoesOn z (at j) (at limit)) is (machine_longer j limit le)))) h)
          (cases_lt limit j)

module _ (p : Program) (files : List ClassFile) (b : Bounds) (input : List ℕ) where
  abbrev main : List ℕ
  main = internal_name p.main

  abbrev at_limit : ℕ → Finish
  at_limit limit = machine_run files main limit input

  tells : (result : Result) (e : End) → result.end ≡ e → (limit n : ℕ) → limit ≤ n → is_lost e ≡ false → Matches at_limit (fee b) input n result e → Tells (at_limit limit).end input result (at_limit limit)
  tells result Done is limit n le found m =
      settled files main input result machine.Done limit m.0 (λ x y h. h) m.1.ended (subst (λ (z : MachineEnd). Tells z input result (at_limit m.0)) (sym m.1.ended) (is, m.1))
  tells result (Trapped kind) is limit n le found m =
      settled files main input result (machine.Trap kind) limit m.0 (λ x y h. h) m.1.ended (subst (λ (z : MachineEnd). Tells z input result (at_limit m.0)) (sym m.1.ended) (is, m.1))
  tells result More is limit n le found m =
      earlier files main input result limit m.0 (omega (arith, m.2)) (subst (λ (z : MachineEnd). Tells z input result (at_limit m.0)) (sym m.1.ended)
      (subst (λ (o : List ℕ). Begins (at_limit m.0).out o) m.1.out (begins_refl (at_limit m.0).out)))
  tells result NoBody is limit n le found m = absurd (false≢true (sym found))
  tells result TwoBodies is limit n le found m = absurd (false≢true (sym found))
  tells result IsStuck is limit n le found m = absurd (false≢true (sym found))

  over : (e : MachineEnd) (j limit : ℕ) → j ≤ limit → (at_limit j).end ≡ e → GoesOn e (at_limit j) (at_limit limit)
  over e j limit le is = subst (λ (z : MachineEnd). GoesOn z (at_limit j) (at_limit limit)) is (machine_longer files main input j limit le)

  reached : (result : Result) (e : End) (limit n : ℕ) → suc n * fee b ≤ limit → Matches at_limit (fee b) input n result e → Reaches e input result (at_limit limit)
  reached result Done limit n le m = subst (EndsAs machine.Done input result) (sym (over machine.Done m.0 limit (omega (arith, m.2, le)) m.1.ended)) m.1
  reached result (Trapped kind) limit n le m = subst (EndsAs (machine.Trap kind) input result) (sym (over (machine.Trap kind) m.0 limit (omega (arith, m.2, le)) m.1.ended)) m.1
  reached result More limit n le m = subst (λ (o : List ℕ). Begins o (at_limit limit).out) m.1.out (over machine.Cut m.0 limit (omega (arith, m.3, le)) m.1.ended)
  reached result NoBody limit n le m = tt
  reached result TwoBodies limit n le m = tt
  reached result IsStuck limit n le m = tt

pub headline : Headline
headline p files naming b fits right input limit n le found = tells p files b input (run p input n) (run p input n).end refl limit n le found (right_keeps p files naming b fits right input n)

pub enough : EnoughInstructions
enough p files naming b fits right input limit n le = reached p files b input (run p input n) (run p input n).end limit n le (right_keeps p files naming b fits right input n)

pub output_begins : OutputBegins
output_begins p files naming b fits right input limit n le found =
    let main = internal_name p.main in
    let finish = machine_run files main limit input in
    let so_far = tells_begins files main input (run p input n) finish.end finish (headline p files naming b fits right input limit n le found) in (
      so_far,
      λ state rest out passes. let on = goes_on_from files main limit input state rest out passes in begins_trans out finish.out (run p input n).output
          (subst (λ (f : Finish). Begins out f.out) (sym on.1) (grows files (suc on.0) state rest out)) so_far,
    )
