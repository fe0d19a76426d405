-- A question has one right choice.
use Rattle.std.proofs.Common.{◌≡◌, ℕ, refl, sym, ap, ◌⊎◌, inl, inr}
use Rattle.std.specs.Prelude.{◌≢◌, true, false}
use Rattle.std.proofs.Math.Dec.{eqb}
use Rattle.std.proofs.lemmas.Bool.Decides.{eqb_tells}
use Rattle.jp_pred.specs.declared.hier.Hier.{Hier}
use Rattle.jp_pred.specs.Selection.{Selected}
use Rattle.jp_meaning.specs.Choice.{Question, Choice, Selects, NoneIsTrue, NoneIsBest, IsChoice}
use Rattle.jp_meaning.specs.Run.{run}
use Rattle.jp_meaning.specs.Laws.{MeaningIsOne}

module _ (hier : Hier) (q : Question) where
  -- of two selected bodies each would beat the other
  selected_once : (i j : ℕ) → Selected hier q.parameters hier q.shape q.chain i → Selected hier q.parameters hier q.shape q.chain j → i ≡ j
  selected_once i j s t = by_cases (eqb_tells i j) where
    by_cases : ((eqb i j ≡ true) × (i ≡ j)) ⊎ ((eqb i j ≡ false) × (i ≢ j)) → i ≡ j
    by_cases (inl same) = same.1
    by_cases (inr other) = absurd ((s.beats j t.applies (λ e. other.1 (sym e))).strictly (t.beats i s.applies other.1).implies)

  choice_once : (a b : Choice) → IsChoice hier q a → IsChoice hier q b → a ≡ b
  choice_once (Selects i) (Selects j) s t = ap Selects (selected_once i j s t)
  choice_once (Selects i) NoneIsTrue s t = absurd (t i s.applies)
  choice_once (Selects i) NoneIsBest s t = absurd (t.1 i s)
  choice_once NoneIsTrue (Selects j) s t = absurd (s j t.applies)
  choice_once NoneIsTrue NoneIsTrue s t = refl
  choice_once NoneIsTrue NoneIsBest s t = absurd (s t.0.0 t.0.1)
  choice_once NoneIsBest (Selects j) s t = absurd (s.1 j t)
  choice_once NoneIsBest NoneIsTrue s t = absurd (t s.0.0 s.0.1)
  choice_once NoneIsBest NoneIsBest s t = refl

pub meaning_is_one : MeaningIsOne
meaning_is_one classes main select other h k input n =
    ap (λ (f : Question → Choice). run (record { classes = classes; main = main; select = f }) input n)
    (λ dim q. choice_once _ q (select q) (other q) (h q) (k q) dim)
