-- One evaluation does what another does, and whatever it likes where the other is at its limit.
use Rattle.std.proofs.Common.{ℕ, List, Option, Some, None, Bool, true, false, cond}
use Rattle.std.specs.Prelude.{ℤ}
use Rattle.jp_store.specs.declared.value.Value.{Value}
use Rattle.jp_store.specs.declared.value.TrapKind.{TrapKind}
use Rattle.jp_store.specs.declared.outcome.Outcome.{Outcome}
use Rattle.jp_store.specs.declared.outcome.Outcome.TheVariants.{Fine, Trap, Wrong}
use Rattle.jp_store.specs.Work.{Op}
use Rattle.jp_does.specs.Does.{Gives, Traps, Ticks, Prints, Shows, Reads, Works, Calls, Limit, Stuck, then_do, do_of, found}
use Rattle.jp_meaning.specs.Does.{Call, Does}
use Rattle.jp_meaning.specs.Expressions.{truth_of, by_truth}

-- the second does what the first does, and whatever it likes where the first is at its limit
pub data Cut {A : Type 0} : Does A → Does A → Type 0 where
  cut : (d : Does A) → Cut Limit d
  gives : (a : A) → Cut (Gives a) (Gives a)
  traps : (kind : TrapKind) → Cut (Traps kind) (Traps kind)
  ticks : {d e : Does A} → Cut d e → Cut (Ticks d) (Ticks e)
  prints : (n : ℤ) {d e : Does A} → Cut d e → Cut (Prints n d) (Prints n e)
  shows : (text : List ℕ) {d e : Does A} → Cut d e → Cut (Shows text d) (Shows text e)
  reads : {d e : ℤ → Does A} → ((n : ℤ) → Cut (d n) (e n)) → Cut (Reads d) (Reads e)
  working : (op : Op) {d e : Value → Does A} → ((v : Value) → Cut (d v) (e v)) → Cut (Works op d) (Works op e)
  calling : (c : Call) {d e : Value → Does A} → ((v : Value) → Cut (d v) (e v)) → Cut (Calls c d) (Calls c e)
  stuck : Cut Stuck Stuck

pub cut_refl : {A : Type 0} (d : Does A) → Cut d d
cut_refl (Gives a) = gives a
cut_refl (Traps kind) = traps kind
cut_refl (Ticks d) = ticks (cut_refl d)
cut_refl (Prints n d) = prints n (cut_refl d)
cut_refl (Shows text d) = shows text (cut_refl d)
cut_refl (Reads d) = reads (λ n. cut_refl (d n))
cut_refl (Works op d) = working op (λ v. cut_refl (d v))
cut_refl (Calls c d) = calling c (λ v. cut_refl (d v))
cut_refl Limit = cut Limit
cut_refl Stuck = stuck

pub then_cut : {A B : Type 0} {d e : Does A} (go next : A → Does B) → Cut d e → ((a : A) → Cut (go a) (next a)) → Cut (then_do d go) (then_do e next)
then_cut go next (cut d) h = cut _
then_cut go next (gives a) h = h a
then_cut go next (traps kind) h = traps kind
then_cut go next (ticks c) h = ticks (then_cut go next c h)
then_cut go next (prints n c) h = prints n (then_cut go next c h)
then_cut go next (shows text c) h = shows text (then_cut go next c h)
then_cut go next (reads c) h = reads (λ n. then_cut go next (c n) h)
then_cut go next (working op c) h = working op (λ v. then_cut go next (c v) h)
then_cut go next (calling f c) h = calling f (λ v. then_cut go next (c v) h)
then_cut go next stuck h = stuck

pub do_cut : {A B : Type 0} (r : Outcome A) (go next : A → Does B) → ((a : A) → Cut (go a) (next a)) → Cut (do_of r go) (do_of r next)
do_cut (Fine a) go next h = h a
do_cut (Trap kind) go next h = traps kind
do_cut Wrong go next h = stuck

pub found_cut : {A B : Type 0} (o : Option A) (go next : A → Does B) → ((a : A) → Cut (go a) (next a)) → Cut (found o go) (found o next)
found_cut None go next h = stuck
found_cut (Some a) go next h = h a

pub by_cut : {A : Type 0} (t : Does Value) (a b c d : Does A) → Cut a c → Cut b d → Cut (by_truth t a b) (by_truth t c d)
by_cut t a b c d h k = then_cut _ _ (cut_refl t) (λ v. do_cut (truth_of v) (λ x. cond x a b) (λ x. cond x c d) picked) where
  picked : (x : Bool) → Cut (cond x a b) (cond x c d)
  picked true = h
  picked false = k
