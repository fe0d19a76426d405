use Rattle.std.proofs.Common.{◌≡◌, ℕ, List, [], ◌∷◌, length, flat_map, sym, ap, ◌∙◌, subst, arith}
use Rattle.std.proofs.lemmas.List.{length-map}
use Rattle.jp_store.specs.Classes.{is_below_in, supers_of}
use Rattle.jvm_load.specs.FileClasses.{class_of, classes_of}
use Rattle.jvm_load.specs.Above.{IsJoined}
use Rattle.jvm_load.proofs.Reach.{IsRound, first_round, next_round}
use Rattle.jvm_load.proofs.above.find_above.Goals as goal

pub loop-i-init : goal.loop-i-init
loop-i-init c =
    let classes = classes_of c.args.files.now in
    let at = c.args.at in
    subst (λ (f : List ℕ). IsRound classes 0 at c.in_ok-met.met.items f) (sym c.in_ok-frontier.ensures.items)
    (subst (λ (m : List ℕ). IsRound classes 0 at m (at ∷ [])) (sym c.in_ok-met.ensures.items) (first_round classes at))

pub loop-i-preserved : goal.loop-i-preserved
loop-i-preserved c =
    let classes = classes_of c.args.files.now in
    let new = c.go_up.new.met.items in
    let joined : IsJoined new c.loop-i.met.items (flat_map (supers_of classes) c.loop-i.frontier.items)
    = subst (λ (l : List ℕ). IsJoined new c.loop-i.met.items (flat_map (supers_of classes) l)) c.as_slice.ensures.value c.in_ok-frontier-2.ensures.met in
    next_round classes c.loop-i._i c.args.at c.loop-i.met.items c.loop-i.frontier.items new c.in_ok-frontier-2.frontier.items c.loop-i.invariant joined c.in_ok-frontier-2.ensures.fresh

pub returns : goal.returns
returns c = λ up.
    let classes = classes_of c.args.files.now in
    let count = length-map c.args.files.now class_of in
    let all : c.loop-i._i ≡ length classes = omega (arith, count) in
    c.loop-i.invariant.steps up ∙ ap (λ (k : ℕ). is_below_in k classes up c.args.at) all
