use Rattle.std.proofs.Common.{◌≡◌, ap, ◌∙◌, arith}
use Rattle.jp_meaning.specs.Descriptors.{kind_of_type}
use Rattle.gen_code.specs.Emitted.{places_for}
use Rattle.gen_code.proofs.Parameters.{places_next}
use Rattle.gen_code.proofs.calls.places_with_receiver.Goals as goal

pub loop-ty-preserved : goal.loop-ty-preserved
loop-ty-preserved c =
    let n = places_next c.args.params.now c.loop-ty.ty-index c.ty-item.result c.loop-ty-test.true c.ty-item.is in
    let p : c.places_for-more.result ≡ places_for (kind_of_type c.ty-item.result) = c.places_for-more.ensures ∙ ap places_for c.kind_of_type.ensures in
    omega (arith, c.loop-ty.invariant, n, p, c.in_ok-places.ensures)
