-- A step behind others that only go on, by how they ended.
use Rattle.std.proofs.Common.{◌≡◌, ℕ, ◌+◌, ◌-◌, ◌<◌, ◌≤◌, List, refl, sym, ap, ◌∙◌, subst, arith}
use Rattle.class_form.specs.declared.class_file.ClassFile.{ClassFile}
use Rattle.jp_store.specs.declared.value.TrapKind.{TrapKind}
use Rattle.jvm_step.specs.declared.state.State.{State}
use Rattle.jvm_step.specs.declared.value.Halt.TheVariants.{Trapped as HaltTrapped}
use Rattle.jvm_step.specs.Turn.{Turn, Goes, Stops, no_row, turn_of}
use Rattle.jvm_quick.specs.declared.stretch.Quick.{Quick}
use Rattle.jvm_quick.specs.declared.stretch.Quick.TheVariants.{Moved, Trapped, NoRow, Other}
use Rattle.jvm_quick.specs.Stretches.{CountsTo}
use Rattle.jvm_quick.specs.Walks.{LeadsTo, IsWalk}
use Rattle.jvm_quick.proofs.Walked.{moved_walk}

module _ (files : List ClassFile) (n : ℕ) (end : Quick) (st now : State) where
  pub walked_on : (limit : ℕ) → end ≡ Moved → CountsTo limit end n → 1 ≤ limit → LeadsTo files n end st now → IsWalk files (n - 1) st (Goes now)
  walked_on limit e counts some l =
      let all : n ≡ limit = subst (λ (q : Quick). CountsTo limit q n) e counts in
      moved_walk files (n - 1) n st now (omega (arith, all)) (subst (λ (q : Quick). LeadsTo files n q st now) e l)

  pub count_before : (limit : ℕ) → end ≡ Moved → CountsTo limit end n → 1 ≤ limit → n - 1 < limit
  count_before limit e counts some =
      let all : n ≡ limit = subst (λ (q : Quick). CountsTo limit q n) e counts in
      omega (arith, all)

  pub walked_trap : (kind : TrapKind) → end ≡ Trapped kind → LeadsTo files n end st now → IsWalk files n st (Stops (HaltTrapped kind))
  walked_trap kind e l = subst (λ (q : Quick). LeadsTo files n q st now) e l

  pub walked_out : (turn : Turn) → end ≡ NoRow → LeadsTo files n end st now → turn ≡ no_row now → IsWalk files n st turn
  walked_out turn e l t =
      let m = subst (λ (q : Quick). LeadsTo files n q st now) e l in
      (m.0, m.1, m.2 ∙ sym t)

  pub walked_other : (turn : Turn) → end ≡ Other → LeadsTo files n end st now → turn ≡ turn_of files now → IsWalk files n st turn
  walked_other turn e l t =
      let m = subst (λ (q : Quick). LeadsTo files n q st now) e l in
      (m.0, m.1, ap (turn_of files) (sym m.2) ∙ sym t)
