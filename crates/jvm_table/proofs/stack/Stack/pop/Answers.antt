use Rattle.std.proofs.Common.{◌≡◌, ◌+◌, ◌-◌, ◌<◌, length, reverse, take, get_or, ap, ◌∙◌, arith}
use Rattle.jp_store.specs.Arith.{width_of}
use Rattle.jvm_table.specs.Stack.{depth_of}
use Rattle.jvm_table.proofs.Depths.{depth_more, count_in_depth}
use Rattle.jvm_table.proofs.stack.Stack.pop.Goals as goal

pub invariant_of-self : goal.invariant_of-self
invariant_of-self c =
    let d = c.index-value.result.now in
    let n = c.self.inside.len - 1 in
    let xs = c.self.inside.cells.items in
    let i = c.self.invariant in
    let here : n + 1 ≡ c.self.inside.len = omega (arith, c.if-self-eq0.false) in
    let below : n < length xs = omega (arith, here, i.0, i.1) in
    let wide : c.width.result ≡ width_of (get_or xs n d) = c.width.ensures.width ∙ ap width_of c.index-value.ensures in
    let more = depth_more n xs d below in
    let same = ap (λ k. depth_of (reverse (take k xs))) here in
    let count = count_in_depth n xs (omega (arith, below)) in
    let places : c.self.inside.places - c.width.result ≡ depth_of (reverse (take n xs)) = omega (arith, more, same, wide, i.2) in
    (omega (arith, places, count), omega (arith, i.1), places)
