use Rattle.std.proofs.Common.{◌≡◌, ◌<◌, false, ◌∷◌, [], ◌++◌, length, ap, sym, subst, arith, length-set, Some}
use Rattle.code_asm.specs.Pieces.{Draft, MarkPiece, is_marked}
use Rattle.code_asm.specs.Kept.{pieces_in}
use Rattle.code_asm.proofs.Keeping.{marked, unmarked-set, free, pieces_in-mark}
use Rattle.code_asm.proofs.asm.Asm.mark.Goals as goal

pub push_reserved-requires : goal.push_reserved-requires
push_reserved-requires c =
    let r = c.self.inside in
    let l = c.args.label in
    let first : is_marked (pieces_in r.parts.items r.bytes.items) l ≡ false = subst (λ (d : Draft). is_marked d.pieces l ≡ false) (sym c.self.view_is) c.requires.first in
    let known : l < length r.places.items = subst (λ (d : Draft). l < d.labels) (sym c.self.view_is) c.requires.known in
    omega (arith, unmarked-set r.places.items l 0 known (free r.bytes.items r.parts.items r.places.items c.self.invariant.0 l first))

pub invariant_of-self : goal.invariant_of-self
invariant_of-self c =
    let r = c.self.inside in
    let l = c.args.label in
    let first : is_marked (pieces_in r.parts.items r.bytes.items) l ≡ false = subst (λ (d : Draft). is_marked d.pieces l ≡ false) (sym c.self.view_is) c.requires.first in
    let known : l < length r.places.items = subst (λ (d : Draft). l < d.labels) (sym c.self.view_is) c.requires.known in
    rw (c.push_reserved.ensures.items, c.label.view_is) (
      marked r.bytes.items r.parts.items r.places.items c.self.invariant.0 l c.len.result (omega (arith, r.bytes.ok.0)) known first,
      omega (arith, unmarked-set r.places.items l c.len.result known (free r.bytes.items r.parts.items r.places.items c.self.invariant.0 l first), c.push_reserved.ensures.capacity),
    )

pub returns : goal.returns
returns c =
    let r = c.self.inside in
    rw (← c.self.view_is, c.push_reserved.ensures.items, pieces_in-mark r.parts.items r.bytes.items c.args.label c.self.invariant.0.sized)
    (ap (λ n. record { pieces = pieces_in r.parts.items r.bytes.items ++ MarkPiece c.args.label ∷ []; labels = n }) (length-set r.places.items c.label.inside.number (Some c.len.result)))
