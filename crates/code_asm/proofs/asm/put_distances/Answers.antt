use Rattle.std.proofs.Common.{◌≡◌, ℕ, sym, ap, ◌∙◌, rules, arith, to_z, of_z}
use Rattle.std.proofs.lemmas.Int.{to_z-of_z}
use Rattle.std.proofs.lemmas.Result.{err_from_is_err_and}
use Rattle.std.specs.Int.{w16, cast_unsigned}
use Rattle.code_asm.specs.declared.asm.Part.TheVariants.{Op, Jump, Mark}
use Rattle.code_asm.specs.Pieces.{place_in, distance}
use Rattle.code_asm.specs.Kept.{pieces_in, short_of}
use Rattle.code_asm.proofs.Keeping.{found}
use Rattle.code_asm.proofs.Laying.{at_part, next_lands, short_is, two_spelled, told, after_op, after_mark, after_jump}
use Rattle.code_asm.proofs.asm.put_distances.Goals as goal
use Rattle.code_asm.proofs.asm.put_distances.Goals.{in-Op, in-Jump+in_ok-short_distance-in-Jump, in-Mark}

pub short_distance-requires-clause-to_in : goal.short_distance-requires-clause-to_in
short_distance-requires-clause-to_in c =
    let p = at_part _ c.args.bytes.now _ _ c.args.parts.now c.loop-part.part-index c.part-item.result (Jump c.in-Jump.label) c.loop-part-test.true c.part-item.is c.in-Jump.is c.loop-part.invariant in
    let f = found c.args.bytes.now c.args.parts.now c.args.places.now c.requires.kept c.in-Jump.label c.label.inside.number c.unwrap-to.result c.label.view_is (next_lands _ _ _ _ _ _ p) c.unwrap-to.ensures in
    omega (arith, f.1)

pub returns-in_err-short_distance-in-Jump : goal.returns-in_err-short_distance-in-Jump
returns-in_err-short_distance-in-Jump c =
    let p = at_part _ c.args.bytes.now _ _ c.args.parts.now c.loop-part.part-index c.part-item.result (Jump c.in-Jump.label) c.loop-part-test.true c.part-item.is c.in-Jump.is c.loop-part.invariant in
    let f = found c.args.bytes.now c.args.parts.now c.args.places.now c.requires.kept c.in-Jump.label c.label.inside.number c.unwrap-to.result c.label.view_is (next_lands _ _ _ _ _ _ p) c.unwrap-to.ensures in
    let e = err_from_is_err_and c.from_residual.result c.from_residual.ensures.1 in
    rw (e.1, e.2) (told _ _ _ _ _ c.in-Jump.label c.in_err-short_distance-in-Jump.field-0.0 p (ap (λ (n : ℕ). short_of (distance c.loop-part.at n)) (sym f.0) ∙ sym c.in_err-short_distance-in-Jump.ensures))

pub loop-part-preserved : goal.loop-part-preserved
loop-part-preserved c =
    elim c.match-part.branch [
      | in-Op w ↦ let p = at_part _ c.args.bytes.now _ _ c.args.parts.now c.loop-part.part-index c.part-item.result (Op w.in-Op.operands) c.loop-part-test.true c.part-item.is w.in-Op.is c.loop-part.invariant in
          rw (w.bytes-is, w.at-is) (after_op _ _ _ _ _ w.in-Op.operands p)
      | in-Jump+in_ok-short_distance-in-Jump w ↦
          let p = at_part _ c.args.bytes.now _ _ c.args.parts.now c.loop-part.part-index c.part-item.result (Jump w.in-Jump.label) c.loop-part-test.true c.part-item.is w.in-Jump.is c.loop-part.invariant in
          let f = found c.args.bytes.now c.args.parts.now c.args.places.now c.requires.kept w.in-Jump.label w.label.inside.number w.unwrap-to.result w.label.view_is (next_lands _ _ _ _ _ _ p) w.unwrap-to.ensures in
          let s = short_is (distance c.loop-part.at (place_in (pieces_in c.args.parts.now c.args.bytes.now) w.in-Jump.label)) w.in_ok-short_distance-in-Jump.field-0
          (ap (λ (n : ℕ). short_of (distance c.loop-part.at n)) (sym f.0) ∙ sym w.in_ok-short_distance-in-Jump.ensures) in
          let same : to_z w16 (of_z w16 w.in_ok-short_distance-in-Jump.field-0) ≡ w.in_ok-short_distance-in-Jump.field-0 = search (rules, to_z-of_z) in
          rw (w.bytes-is, w.at-is) (after_jump _ _ _ _ _ w.in-Jump.label _ _ s.0 (two_spelled _ _ w.to_be_bytes.result (w.cast_unsigned.ensures ∙ ap (cast_unsigned w16) (same ∙ s.1)) w.to_be_bytes.ensures) p)
      | in-Mark w ↦
          let p = at_part _ c.args.bytes.now _ _ c.args.parts.now c.loop-part.part-index c.part-item.result (Mark w.in-Mark.field-0) c.loop-part-test.true c.part-item.is w.in-Mark.is c.loop-part.invariant in
          rw (w.bytes-is, w.at-is) (after_mark _ _ _ _ _ w.in-Mark.field-0 p)
    ]
