use Rattle.std.proofs.Common.{◌≡◌, ℕ, List, [], ◌∷◌, length, flat_map, sym, ap, ◌∙◌, subst, arith}
use Rattle.std.specs.Borrow.{Bor}
use Rattle.jp_pred.specs.Names.{Word}
use Rattle.jp_pred.specs.Hierarchy.{parents, reaches}
use Rattle.jp_meaning.specs.Classes.{hier_in}
use Rattle.type_heads.specs.Supertypes.{words_at}
use Rattle.whole_classes.specs.Above.{IsJoined}
use Rattle.whole_classes.proofs.Reach.{IsRound, first_round, next_round}
use Rattle.whole_classes.proofs.above.names_above.Goals as goal

pub loop-i-init : goal.loop-i-init
loop-i-init c =
    let hier = hier_in c.args.classes.now in
    let name = c.args.name.now in
    subst (λ (f : List (Bor Word)). IsRound hier 0 name (words_at c.in_ok-met.met.items) (words_at f)) (sym c.in_ok-frontier.ensures.items)
    (subst (λ (m : List (Bor Word)). IsRound hier 0 name (words_at m) (name ∷ [])) (sym c.in_ok-met.ensures.items) (first_round hier name))

pub loop-i-preserved : goal.loop-i-preserved
loop-i-preserved c =
    let hier = hier_in c.args.classes.now in
    let met = words_at c.loop-i.met.items in
    let new = words_at c.go_up.new.met.items in
    let joined : IsJoined new met (flat_map (parents hier) (words_at c.loop-i.frontier.items))
    = subst (λ (l : List (Bor Word)). IsJoined new met (flat_map (parents hier) (words_at l))) c.as_slice.ensures.value c.in_ok-frontier-2.ensures.met in
    next_round hier c.loop-i._i c.args.name.now met (words_at c.loop-i.frontier.items) new (words_at c.in_ok-frontier-2.frontier.items) c.loop-i.invariant joined c.in_ok-frontier-2.ensures.fresh

pub returns : goal.returns
returns c = λ up.
    let classes = c.args.classes.now in
    let all : c.loop-i._i ≡ length classes = omega arith in
    c.loop-i.invariant.steps up ∙ ap (λ (k : ℕ). reaches k (hier_in classes) c.args.name.now up) all
