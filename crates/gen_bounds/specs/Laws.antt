-- How much code a member has.
use Rattle.std.specs.Prelude.{ℕ, ◌+◌, ◌*◌, ◌≤◌, ℤ, List, length, Err}
use Rattle.class_form.specs.declared.constant.Const.{Const}
use Rattle.jp_pred.specs.declared.hier.Hier.{Hier}
use Rattle.iface_codec.specs.declared.iface.Iface.{Iface}
use Rattle.jp_meaning.specs.declared.unit.TypedMember.{TypedMember}
use Rattle.code_asm.specs.declared.fault.AsmFault.TheVariants.{TooLong, FarJump}
use Rattle.code_asm.specs.Items.{Item}
use Rattle.code_asm.specs.Lines.{lines_of}
use Rattle.code_asm.specs.Assembled.{Assembles}
use Rattle.gen_body.specs.Statements.{Part}
use Rattle.gen_body.specs.Members.{member_code}
use Rattle.gen_bounds.specs.Nodes.{member_nodes}
use Rattle.gen_bounds.specs.Sizes.{most_bytes_of}
use Rattle.gen_bounds.specs.Limits.{HasFewAliases, IsWithinLimits}

-- code with at most so many bytes, pieces, labels and places of the stack for a number of nodes, and for what stands at the
-- start and at the end
pub record IsShort (nodes : ℕ) (code : Part) : Type 0 where
  pub bytes : most_bytes_of code.items ≤ 12 * nodes + 246
  pub pieces : length code.items ≤ 7 * nodes + 82
  pub labels : code.next ≤ 3 * nodes + 2
  pub need : code.need ≤ 2 * nodes + 1

-- the code of each member with few aliases is short for its nodes, however many they are
abbrev pub CodeIsShort : Type 0
CodeIsShort = (hier : Hier) (head : Iface) (m : TypedMember) → HasFewAliases head m → IsShort (member_nodes m) (member_code hier head m)

-- whatever the constants, items are laid out neither too long nor with a jump that leads too far
pub record HasRoom (items : List Item) : Type 0 where
  pub long : (old new : List Const) (stack locals bytes : ℕ) → Assembles (lines_of items) old new stack locals (Err (TooLong bytes)) → ⊥
  pub far : (old new : List Const) (stack locals : ℕ) (by : ℤ) → Assembles (lines_of items) old new stack locals (Err (FarJump by)) → ⊥

-- so the code of each member within the limits is
abbrev pub LimitsLeaveRoom : Type 0
LimitsLeaveRoom = (hier : Hier) (head : Iface) (m : TypedMember) → IsWithinLimits head m → HasRoom (member_code hier head m).items

-- code with few pieces, so that a turn of a loop takes few instructions, and with few enough labels and places of the stack to be
-- told in two bytes
pub record HasFewPieces (code : Part) : Type 0 where
  pub pieces : length code.items ≤ 65536
  pub labels : code.next ≤ 65535
  pub need : code.need ≤ 65535

abbrev pub LimitsLeaveFewPieces : Type 0
LimitsLeaveFewPieces = (hier : Hier) (head : Iface) (m : TypedMember) → IsWithinLimits head m → HasFewPieces (member_code hier head m)
