use Rattle.std.proofs.Common.{◌∙◌, arith}
use Rattle.std.proofs.lemmas.List.{take_at}
use Rattle.std.proofs.lemmas.Result.{err_from_is_err_and}
use Rattle.code_asm.specs.Kept.{pieces_in}
use Rattle.code_asm.proofs.Keeping.{size_of_all-pieces_in}
use Rattle.code_asm.proofs.Laying.{too_long, too_far, laid_out}
use Rattle.code_asm.proofs.asm.Asm.finish.Goals as goal

pub returns-then-len-gt-ROOM : goal.returns-then-len-gt-ROOM
returns-then-len-gt-ROOM c =
    let r = c.self.inside in
    rw (← c.self.view_is) (too_long (pieces_in r.parts.items r.bytes.items) c.args.max_stack c.args.max_locals c.len-then-len-gt-ROOM.result (omega (arith, size_of_all-pieces_in r.parts.items r.bytes.items c.self.invariant.0.sized, r.bytes.ok.0)) (omega arith))

pub returns-in_err-put_distances : goal.returns-in_err-put_distances
returns-in_err-put_distances c =
    let r = c.self.inside in
    let e = err_from_is_err_and c.from_residual.result c.from_residual.ensures.1 in
    let h = rw (c.as_slice.ensures.value, c.as_mut_slice.ensures.value) at c.in_err-put_distances.ensures in
    rw (← c.self.view_is, e.1, e.2, h.1) (too_far (pieces_in r.parts.items r.bytes.items) c.args.max_stack c.args.max_locals h.0 (omega (arith, size_of_all-pieces_in r.parts.items r.bytes.items c.self.invariant.0.sized, r.bytes.ok.0)) h.2)

pub returns : goal.returns
returns c =
    let r = c.self.inside in
    let h = rw (c.as_slice.ensures.value, c.as_mut_slice.ensures.value) at c.in_ok-put_distances.ensures in
    let v = c.from_vec.ensures ∙ take_at c.put_distances.new.bytes _ r.bytes.len (c.put_distances.auto.bytes ∙ c.as_mut_slice.ensures.len) in
    rw (← c.self.view_is, c.new.ensures)
    (laid_out (pieces_in r.parts.items r.bytes.items) c.args.max_stack c.args.max_locals c.from_vec.result (omega (arith, size_of_all-pieces_in r.parts.items r.bytes.items c.self.invariant.0.sized, r.bytes.ok.0)) (v ∙ h.0) h.1)
