use Rattle.std.proofs.Common.{◌∷◌, [], ◌++◌, ◌∙◌, ap, refl, arith}
use Rattle.code_asm.specs.declared.asm.Part.TheVariants.{Jump}
use Rattle.code_asm.specs.Pieces.{JumpPiece}
use Rattle.code_asm.proofs.Keeping.{written, pieces_in-append, unmarked_few}
use Rattle.code_asm.proofs.asm.Asm.jump.Goals as goal

pub invariant_of-self-2 : goal.invariant_of-self-2
invariant_of-self-2 c =
    let r = c.self.inside in
    let parts = c.push_reserved.ensures.items ∙ ap (λ l. l ++ Jump c.args.label ∷ []) c.reserve.ensures.items in
    (rw (c.in_ok-extend_from_slice.ensures.items, parts) (written r.bytes.items r.parts.items r.places.items c.self.invariant.0 _ _ (JumpPiece c.args.opcode c.args.label) refl refl (λ l. refl)), omega (arith, unmarked_few r.places.items, c.in_ok-reserve.ensures.ok))

pub returns-clause-ok : goal.returns-clause-ok
returns-clause-ok c =
    let r = c.self.inside in
    let parts = c.push_reserved.ensures.items ∙ ap (λ l. l ++ Jump c.args.label ∷ []) c.reserve.ensures.items in
    rw (← c.self.view_is, c.in_ok-extend_from_slice.ensures.items, parts, pieces_in-append r.parts.items (Jump c.args.label ∷ []) r.bytes.items (c.args.opcode ∷ 0 ∷ 0 ∷ []) c.self.invariant.0.sized) refl
