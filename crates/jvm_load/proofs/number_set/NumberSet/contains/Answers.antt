use Rattle.std.proofs.Common.{ℕ, List, sym, ap, ◌∙◌, subst}
use Rattle.std.specs.List.Sorted.{IsNonDecreasing}
use Rattle.std.proofs.lemmas.List.Sorted.{searched}
use Rattle.jp_store.specs.Classes.{is_among}
use Rattle.jvm_load.proofs.Numbers.{among_by}
use Rattle.jvm_load.proofs.number_set.NumberSet.contains.Goals as goal

pub returns : goal.returns
returns c =
    let xs = c.as_slice.result.now in
    let n = c.args.number in
    let up = subst (λ (l : List ℕ). IsNonDecreasing l) (sym c.as_slice.ensures.value) c.self.invariant in
    c.is_ok.ensures.value
    ∙ among_by n xs c.binary_search.result (searched xs n c.binary_search.result c.binary_search.ensures.position (λ i j le lt. up i j 0 le lt))
    ∙ ap (is_among n) (c.as_slice.ensures.value ∙ c.self.view_is)
