-- What the rules of types say of the trees of a member, as far as the writer of class files needs it.
use Rattle.std.specs.Prelude.{ℕ, ◌+◌, List, length, Bool, true, false, not, ◌&&◌, ◌||◌, nat_lt, nat_le, Option, slice_get}
use Rattle.std.specs.List.{list_any, list_all}
use Rattle.std.specs.Option.{option_map_or}
use Rattle.jp_pred.specs.declared.path.Path.{Path}
use Rattle.jp_pred.specs.declared.ty.Ty.{Ty}
use Rattle.iface_codec.specs.declared.iface.Iface.{Iface}
use Rattle.iface_codec.specs.declared.iface.IfaceMethod.{IfaceMethod}
use Rattle.jp_meaning.specs.declared.expr.TypedExpr.{TypedExpr, fold-TypedExpr}
use Rattle.jp_meaning.specs.declared.expr.TypedKind.{TypedKind-F}
use Rattle.jp_meaning.specs.declared.expr.TypedKind.TheOpen as form
use Rattle.jp_meaning.specs.declared.stmt.TypedStmt.{TypedStmt, fold-TypedStmt}
use Rattle.jp_meaning.specs.declared.stmt.TypedStmtKind.{TypedStmtKind-F}
use Rattle.jp_meaning.specs.declared.stmt.TypedStmtKind.TheOpen as stmt
use Rattle.jp_meaning.specs.declared.unit.TypedPart.{TypedPart}
use Rattle.jp_meaning.specs.declared.unit.TypedPart.TheVariants as part
use Rattle.jp_meaning.specs.declared.unit.TypedMember.{TypedMember}
use Rattle.gen_body.specs.Members.{given_to}

-- an instruction tells a local in one byte
abbrev pub is_in_reach : ℕ → Bool
is_in_reach slot = nat_lt slot 256

-- a call of an interface's method tells in one byte how many places the receiver and the arguments take
abbrev pub has_few : Bool → List Ty → Bool
has_few is_interface params = not is_interface || nat_lt (length params) 255

-- an expression of a form: its locals can be told, and its calls of interfaces have few arguments
abbrev pub expr_step : TypedKind-F Bool Bool → Bool
expr_step (form.Number value hex) = true
expr_step (form.Truth value) = true
expr_step form.Null = true
expr_step form.This = true
expr_step (form.Local slot) = is_in_reach slot
expr_step (form.Unary sign right) = right
expr_step (form.Binary sign left right) = left && right
expr_step (form.Cond test first second) = test && (first && second)
expr_step (form.Cast class value) = value
expr_step (form.InstanceOf value class) = value
expr_step (form.Field object class name) = object
expr_step (form.Static class name) = true
expr_step (form.Length array) = array
expr_step (form.Index array index) = array && index
expr_step (form.CallVirtual object class is_interface name params args) =
    object && (list_all (λ a. a) args && has_few is_interface params)
expr_step (form.CallStatic class name params args) = list_all (λ a. a) args
expr_step (form.CallSuper class name params args) = list_all (λ a. a) args
expr_step (form.New class params args) = list_all (λ a. a) args
expr_step (form.NewArray elem size) = size
expr_step (form.Print value) = value
expr_step (form.Show text) = true
expr_step form.Read = true

abbrev pub is_encodable : TypedExpr → Bool
is_encodable = fold-TypedExpr Bool Bool expr_step (λ e. e.kind)

-- what is left out is
abbrev pub or_so : {A : Type 0} → (A → Bool) → Option A → Bool
or_so test a = option_map_or test a true

-- the same of a statement of a form
abbrev pub stmt_step : TypedStmtKind-F Bool Bool → Bool
stmt_step (stmt.Block block) = list_all (λ s. s) block
stmt_step stmt.Empty = true
stmt_step (stmt.Local slot t value) = is_in_reach slot && or_so is_encodable value
stmt_step (stmt.If test first second) = is_encodable test && (first && or_so (λ s. s) second)
stmt_step (stmt.While test body) = is_encodable test && body
stmt_step (stmt.For init test change body) =
    or_so (λ s. s) init && (or_so is_encodable test && (or_so (λ s. s) change && body))
stmt_step stmt.Break = true
stmt_step stmt.Continue = true
stmt_step (stmt.Return value) = or_so is_encodable value
stmt_step (stmt.Assign left sign right) = is_encodable left && is_encodable right
stmt_step (stmt.Bump left up) = is_encodable left
stmt_step (stmt.Run value) = is_encodable value

abbrev pub stmt_is_encodable : TypedStmt → Bool
stmt_is_encodable = fold-TypedStmt Bool Bool stmt_step (λ s. s.kind)

-- what is left out doesn't
abbrev pub or_not : Option Bool → Bool
or_not a = option_map_or (λ s. s) a false

-- Whether a `break` or a `continue` of a statement of a form belongs to a loop around it. A loop's body has none of those;
-- its first statement and its change may
abbrev pub jump_step : TypedStmtKind-F Bool Bool → Bool
jump_step (stmt.Block block) = list_any (λ s. s) block
jump_step stmt.Empty = false
jump_step (stmt.Local slot t value) = false
jump_step (stmt.If test first second) = first || or_not second
jump_step (stmt.While test body) = false
jump_step (stmt.For init test change body) = or_not init || or_not change
jump_step stmt.Break = true
jump_step stmt.Continue = true
jump_step (stmt.Return value) = false
jump_step (stmt.Assign left sign right) = false
jump_step (stmt.Bump left up) = false
jump_step (stmt.Run value) = false

abbrev pub jumps_out : TypedStmt → Bool
jumps_out = fold-TypedStmt Bool Bool jump_step (λ s. s.kind)

-- the roots of aliases, and the locals in which they are stored, can be told
abbrev pub has_room : IfaceMethod → Bool
has_room method = list_all (λ (alias : Path × Ty). is_in_reach alias.0.root) method.aliases && nat_le (given_to method + length method.aliases) 256

-- what stands at the start of a member can be told
abbrev pub start_is_encodable : Iface → TypedPart → Bool
start_is_encodable head (part.Field at) = true
start_is_encodable head (part.Method at) = or_so has_room (slice_get head.methods at)
start_is_encodable head (part.Constructor at) = true

-- each `break` and `continue` of a member stands in a loop
abbrev pub stays_in : TypedMember → Bool
stays_in m = not (list_any jumps_out m.block)

-- a member whose code can be written: its start, its expressions, its statements and its jumps are so
abbrev pub member_is_encodable : Iface → TypedMember → Bool
member_is_encodable head m =
    start_is_encodable head m.part && (list_all is_encodable m.super_args && (list_all stmt_is_encodable m.block && stays_in m))
