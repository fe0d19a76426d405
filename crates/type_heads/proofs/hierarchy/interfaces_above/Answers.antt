use Rattle.std.proofs.Common.{◌≡◌, ◌-◌, ◌+◌, suc, zero, ◌++◌, length, take, drop, sym, ◌∙◌, ap, arith}
use Rattle.std.proofs.lemmas.List.{length-map}
use Rattle.std.specs.List.{filter_map}
use Rattle.type_rules.specs.Heads.{head_of}
use Rattle.type_rules.specs.Lookups.{breadth_first}
use Rattle.type_heads.specs.Supertypes.{classes_at, words_at}
use Rattle.type_heads.proofs.Levels.{next_level, no_shorter, first_level, no_level}
use Rattle.type_heads.proofs.hierarchy.interfaces_above.Goals as goal

pub loop-i-init : goal.loop-i-init
loop-i-init c =
    let heads = c.args.heads.now in
    let names = words_at c.in_ok-met.met.items in
    let met = words_at c.add_named.new.met.items in
    let count : length names ≡ length c.in_ok-met.met.items = length-map c.in_ok-met.met.items (λ r. r.now) in
    let after : length met ≡ length c.add_named.new.met.items = length-map c.add_named.new.met.items (λ r. r.now) in
    let begin : c.len-begin.result ≡ length names = omega (arith, count, c.len-begin.ensures) in
    let all : length heads - 0 ≡ length heads = omega arith in
    record {
      begin = omega (arith, after, no_shorter names met c.len-begin.result begin _ c.in_ok-add_named.ensures);
      above = ap (λ l. classes_at l ++ filter_map (head_of heads) (breadth_first (length heads - 0) heads (take c.len-begin.result met) (drop c.len-begin.result met))) c.new-above.ensures.items
          ∙ first_level heads (classes_at c.args.classes.now) (length heads - 0) c.len-begin.result names met c.in_ok-met.ensures begin all c.in_ok-add_named.ensures;
    }

pub loop-i-preserved : goal.loop-i-preserved
loop-i-preserved c =
    let heads = c.args.heads.now in
    let met = words_at c.loop-i.met.items in
    let more = words_at c.add_level.new.met.items in
    let m = length heads - (c.loop-i._i + 1) in
    let k : length heads - c.loop-i._i ≡ suc m = omega arith in
    let count : length met ≡ length c.loop-i.met.items = length-map c.loop-i.met.items (λ r. r.now) in
    let after : length more ≡ length c.add_level.new.met.items = length-map c.add_level.new.met.items (λ r. r.now) in
    let end : c.len-end.result ≡ length met = omega (arith, count, c.len-end.ensures) in
    record {
      begin = omega (arith, after, no_shorter met more c.len-end.result end _ c.in_ok-add_level.ensures.met);
      above = next_level (length heads - c.loop-i._i) m c.loop-i.begin c.len-end.result heads met more (classes_at c.loop-i.above.items) (classes_at c.add_level.new.above.items) k end c.in_ok-add_level.ensures.met c.in_ok-add_level.ensures.above ∙ c.loop-i.invariant.above;
    }

pub returns : goal.returns
returns c =
    let heads = c.args.heads.now in
    let met = words_at c.loop-i.met.items in
    let none : length heads - c.loop-i._i ≡ zero = omega arith in
    no_level heads (length heads - c.loop-i._i) (take c.loop-i.begin met) (drop c.loop-i.begin met) (classes_at c.loop-i.above.items) none ∙ c.loop-i.invariant.above
