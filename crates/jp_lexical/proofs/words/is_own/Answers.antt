use Rattle.std.proofs.Common.{rules, tests, ◌≡◌, refl}
use Rattle.std.specs.Prelude.{bytes_eq}
use Rattle.std.specs.List.{list_any}
use Rattle.std.proofs.lemmas.Iterator.{YieldsList-from_slice}
use Rattle.std.proofs.lemmas.Iterator.Search.{any_from_yields_List}
use Rattle.std.proofs.lemmas.Bool.Decides.{Decides-by_or, Decides-at}
use Rattle.std.proofs.lemmas.List.Elements.{Decides-contains}
use Rattle.std.proofs.lemmas.Slice.Eq.{bytes_eq-Decides}
use Rattle.jp_lexical.specs.Words.{own_words}
use Rattle.jp_lexical.proofs.words.is_own.Goals as goal

pub returns : goal.returns
unfolding own_words
returns c =
    let bytes = c.args.bytes.now in
    let found = any_from_yields_List (λ w. bytes_eq w.now bytes) _ _ _ c.any.ensures.ran (YieldsList-from_slice _ c.iter.ensures.rest) (λ x b q k. search (rules, tests)) in
    let listed = Decides-by_or (λ w. bytes_eq w bytes) (λ w. w ≡ bytes) (list_any (λ w. bytes_eq w bytes)) (λ w. bytes_eq-Decides w bytes) refl (λ _ _. refl) own_words in
    Decides-at c.any.result _ found (Decides-contains own_words bytes _ listed)
