use Rattle.std.proofs.Common.{◌∷◌, [], ◌++◌, ◌∙◌, length, ap, refl, arith, append_assoc}
use Rattle.code_asm.specs.declared.asm.Part.TheVariants.{Op}
use Rattle.code_asm.specs.Pieces.{OpPiece}
use Rattle.code_asm.proofs.Keeping.{written, pieces_in-append, unmarked_few, op_pieces}
use Rattle.code_asm.proofs.asm.Asm.op.Goals as goal

pub invariant_of-self-2 : goal.invariant_of-self-2
invariant_of-self-2 c =
    let r = c.self.inside in
    let operands = c.args.operands.now in
    let bytes = c.in_ok-extend_from_slice.ensures.items ∙ ap (λ l. l ++ operands) (c.push_reserved.ensures.items ∙ ap (λ l. l ++ c.args.opcode ∷ []) c.reserve.ensures.items) ∙ append_assoc r.bytes.items (c.args.opcode ∷ []) operands in
    let parts = c.push_reserved-2.ensures.items ∙ ap (λ l. l ++ Op (length operands) ∷ []) c.reserve-2.ensures.items in (
      rw (bytes, parts) (written r.bytes.items r.parts.items r.places.items c.self.invariant.0 (c.args.opcode ∷ operands) _ (OpPiece c.args.opcode operands) (omega arith) (op_pieces c.args.opcode operands) (λ l. refl)),
      omega (arith, unmarked_few r.places.items, c.in_ok-reserve-2.ensures.ok),
    )

pub returns-clause-ok : goal.returns-clause-ok
returns-clause-ok c =
    let r = c.self.inside in
    let operands = c.args.operands.now in
    let bytes = c.in_ok-extend_from_slice.ensures.items ∙ ap (λ l. l ++ operands) (c.push_reserved.ensures.items ∙ ap (λ l. l ++ c.args.opcode ∷ []) c.reserve.ensures.items) ∙ append_assoc r.bytes.items (c.args.opcode ∷ []) operands in
    let parts = c.push_reserved-2.ensures.items ∙ ap (λ l. l ++ Op (length operands) ∷ []) c.reserve-2.ensures.items in
    rw (← c.self.view_is, bytes, parts, pieces_in-append r.parts.items (Op (length operands) ∷ []) r.bytes.items (c.args.opcode ∷ operands) c.self.invariant.0.sized, op_pieces c.args.opcode operands) refl
