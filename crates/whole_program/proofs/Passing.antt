-- A run goes on from each state that it comes to.
use Rattle.std.proofs.Common.{◌≡◌, ℕ, zero, suc, ◌+◌, ◌-◌, List, [], ◌++◌, Option, Some, None, refl, sym, ap, ◌∙◌, arith}
use Rattle.class_form.specs.declared.class_file.ClassFile.{ClassFile}
use Rattle.jvm_step.specs.declared.state.State.{State}
use Rattle.jvm_step.specs.Turn.{Turn, Goes, Shows, Wants, Stops, turn_of}
use Rattle.jvm_step.specs.Run.{Finish, Passes, from_start, machine_run, on_turn, exec, on_way, behind, first_of, rest_of, with_read}

-- a state on the way of a run, with the input that is left there and what was written before it
abbrev Way : Type 0
Way = State × (List ℕ × List ℕ)

module _ (files : List ClassFile) where
  exec-suc : (n : ℕ) (state : State) (input out : List ℕ) → exec files (suc n) state input out ≡ on_turn files (exec files n) input out (turn_of files state)
  unfolding exec
  exec-suc n state input out = refl

  behind-zero : (state : State) (input out : List ℕ) → behind files zero state input out ≡ Some (state, (input, out))
  unfolding behind
  behind-zero state input out = refl

  behind-suc : (n : ℕ) (state : State) (input out : List ℕ) → behind files (suc n) state input out ≡ on_way (behind files n) input out (turn_of files state)
  unfolding behind
  behind-suc n state input out = refl

  -- the run goes on from there
  abbrev goes_on : ℕ → Way → Finish
  goes_on m way = exec files m way.0 way.1.0 way.1.1

  by_turn : (n m : ℕ) (way : Way) → ((state : State) (input out : List ℕ) → behind files n state input out ≡ Some way → exec files (n + m) state input out ≡ goes_on m way) →
      (u : Turn) (input out : List ℕ) → on_way (behind files n) input out u ≡ Some way → on_turn files (exec files (n + m)) input out u ≡ goes_on m way
  by_turn n m way more (Goes state) input out e = more state input out e
  by_turn n m way more (Shows bytes state) input out e = more state input (out ++ bytes) e
  by_turn n m way more (Wants state) input out e = more (with_read (first_of input) state) (rest_of input) out e
  by_turn n m way more (Stops halt) input out e = cc

  exec_behind : (n m : ℕ) (state : State) (input out : List ℕ) (way : Way) → behind files n state input out ≡ Some way → exec files (n + m) state input out ≡ goes_on m way
  exec_behind zero m state input out way e =
      let same : Some (state, (input, out)) ≡ Some way = sym (behind-zero state input out) ∙ e in
      let k : 0 + m ≡ m = omega arith in
      ap (λ n. exec files n state input out) k ∙ ap (λ (o : Option Way). (elim o [ None ↦ goes_on m (state, (input, out)) | Some w ↦ goes_on m w ])) same
  exec_behind (suc n) m state input out way e =
      let k : suc n + m ≡ suc (n + m) = omega arith in
      ap (λ n. exec files n state input out) k ∙ exec-suc (n + m) state input out
      ∙ by_turn n m way (λ state' input' out'. exec_behind n m state' input' out' way) (turn_of files state) input out (sym (behind-suc n state input out) ∙ e)

-- from a state that it passes a run goes on with an instruction at least
pub goes_on_from : (files : List ClassFile) (main : List ℕ) (limit : ℕ) (input : List ℕ) (state : State) (rest out : List ℕ) → Passes files main limit input state rest out →
    (more : ℕ) × (machine_run files main limit input ≡ exec files (suc more) state rest out)
goes_on_from files main limit input state rest out q =
    let more : ℕ = limit - (q.count + 1) in
    let n : limit ≡ q.count + suc more = omega (arith, q.within) in (
      more,
      ap (from_start files main limit input) q.started ∙ ap (λ k. exec files k q.first input []) n ∙ exec_behind files q.count (suc more) q.first input [] (state, (rest, out)) q.comes,
    )
