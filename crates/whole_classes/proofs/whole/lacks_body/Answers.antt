use Rattle.std.proofs.Common.{◌≡◌, List, sym, ◌∙◌, ap}
use Rattle.std.specs.List.{list_any}
use Rattle.std.specs.Borrow.{Bor}
use Rattle.jp_pred.specs.Names.{Word}
use Rattle.jp_meaning.specs.declared.unit.TypedClass.{TypedClass}
use Rattle.type_heads.specs.Supertypes.{words_at}
use Rattle.whole_classes.specs.Bodies.{typed_at, lacks_of}
use Rattle.whole_classes.proofs.Wholeness.{computed, concrete_lacks}
use Rattle.whole_classes.proofs.whole.lacks_body.Goals as goal

pub returns : goal.returns
returns c =
    let classes = c.args.classes.now in
    let class = c.args.class.now in
    let above = c.in_ok-above.above.items in
    let line = c.in_ok-line.line.items in
    let same : list_any (lacks_of (words_at c.as_slice.result.now) (typed_at c.as_slice-2.result.now)) classes ≡ list_any (lacks_of (words_at above) (typed_at line)) classes =
    ap (λ (l : List (Bor Word)). list_any (lacks_of (words_at l) (typed_at c.as_slice-2.result.now)) classes) c.as_slice.ensures.value
    ∙ ap (λ (l : List (Bor TypedClass)). list_any (lacks_of (words_at above) (typed_at l)) classes) c.as_slice-2.ensures.value in
    concrete_lacks classes class c.in_ok-lacks.lacks (sym c.is_concrete.ensures ∙ c.if-not-is_concrete.false)
    (c.in_ok-lacks.ensures ∙ (same ∙ computed classes class (words_at above) (typed_at line) c.in_ok-above.ensures c.in_ok-line.ensures))
