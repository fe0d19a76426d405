use Rattle.std.proofs.Common.{◌≡◌, ◌+◌, ◌<◌, ◌++◌, length, ◌∙◌, ap, arith, append_assoc}
use Rattle.std.proofs.lemmas.List.{length-map}
use Rattle.jp_pred.specs.Names.{Word}
use Rattle.type_rules.specs.Lookups.{unmet, interfaces_of}
use Rattle.type_heads.specs.Supertypes.{classes_at, words_at}
use Rattle.type_heads.proofs.Levels.{next_of_level, next_above, name_there}
use Rattle.type_heads.proofs.hierarchy.add_level.Goals as goal

pub loop-at-preserved : goal.loop-at-preserved
loop-at-preserved c =
    let heads = c.args.heads.now in
    let old = words_at c.args.met.now.items in
    let met = words_at c.loop-at.met.items in
    let at = c.loop-at.at in
    let name = c.index.result.now in
    let count : length old ≡ length c.args.met.now.items = length-map c.args.met.now.items (λ r. r.now) in
    let inside : at < length old = omega (arith, count, c.len-at-end.ensures) in
    let more = c.loop-at.invariant.front.0 in
    let fresh = unmet met (interfaces_of heads name.now) in
    let there = name_there c.loop-at.met.items c.args.met.now.items more at name c.loop-at.invariant.front.1 inside c.index.ensures in
    record {
      front = (more ++ fresh, c.in_ok-add_class.ensures.met ∙ (ap (λ l. l ++ fresh) c.loop-at.invariant.front.1 ∙ append_assoc old more fresh));
      met = next_of_level heads met (words_at c.add_class.new.met.items) old at name.now inside there c.in_ok-add_class.ensures.met ∙ c.loop-at.invariant.met;
      above = next_above heads (classes_at c.loop-at.above.items) (classes_at c.add_class.new.above.items) old at name.now inside there c.in_ok-add_class.ensures.above ∙ c.loop-at.invariant.above;
    }
