-- The laws on the size of a member's code.
use Rattle.std.proofs.Common.{◌≡◌, List, [], ◌∷◌, length, refl, arith}
use Rattle.code_asm.specs.Items.{Item, Plain, Uses, CallsInterface, Branch, Mark}
use Rattle.gen_body.specs.Members.{member_code}
use Rattle.gen_bounds.specs.Sizes.{most_bytes_of}
use Rattle.gen_bounds.specs.Laws.{CodeIsShort, LimitsLeaveRoom, LimitsLeaveFewPieces}
use Rattle.gen_bounds.proofs.Weights.{weigh}
use Rattle.gen_bounds.proofs.Members.{member_short}
use Rattle.gen_bounds.proofs.Fitting.{room_for}

-- the bytes are a weight, and so is the number of items
as_bytes : (items : List Item) → most_bytes_of items ≡ weigh 3 5 0 items
as_bytes [] = refl
as_bytes (Plain instr ∷ items) = let h = as_bytes items in omega arith
as_bytes (Uses use_ wanted ∷ items) = let h = as_bytes items in omega arith
as_bytes (CallsInterface key signature ∷ items) = let h = as_bytes items in omega arith
as_bytes (Branch jump label ∷ items) = let h = as_bytes items in omega arith
as_bytes (Mark label ∷ items) = let h = as_bytes items in omega arith

as_count : (items : List Item) → length items ≡ weigh 1 1 1 items
as_count [] = refl
as_count (Plain instr ∷ items) = let h = as_count items in omega arith
as_count (Uses use_ wanted ∷ items) = let h = as_count items in omega arith
as_count (CallsInterface key signature ∷ items) = let h = as_count items in omega arith
as_count (Branch jump label ∷ items) = let h = as_count items in omega arith
as_count (Mark label ∷ items) = let h = as_count items in omega arith

pub code_short : CodeIsShort
code_short hier head m h =
    let items = (member_code hier head m).items in
    let b = member_short 3 5 0 12 (omega arith) (omega arith) hier head m h.aliases h.steps in
    let c = member_short 1 1 1 7 (omega arith) (omega arith) hier head m h.aliases h.steps in
    let e = as_bytes items in let f = as_count items in
    record { bytes = omega arith; pieces = omega arith; labels = omega arith; need = omega arith }

pub room_left : LimitsLeaveRoom
room_left hier head m h =
    let s = code_short hier head m (record { aliases = h.aliases; steps = h.steps }) in
    let few = h.nodes in
    room_for (member_code hier head m).items (omega arith)

pub few_pieces : LimitsLeaveFewPieces
few_pieces hier head m h =
    let s = code_short hier head m (record { aliases = h.aliases; steps = h.steps }) in
    let few = h.nodes in
    record { pieces = omega arith; labels = omega arith; need = omega arith }
