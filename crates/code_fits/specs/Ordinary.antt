-- What a member calls isn't built into the machine.
use Rattle.std.specs.Prelude.{Bool, true, not, ◌&&◌, codes}
use Rattle.std.specs.List.{list_all}
use Rattle.jp_pred.specs.Names.{Word, same}
use Rattle.iface_codec.specs.declared.iface.Iface.{Iface}
use Rattle.jp_store.specs.Classes.{object_name}
use Rattle.jp_meaning.specs.declared.expr.TypedExpr.{TypedExpr, fold-TypedExpr}
use Rattle.jp_meaning.specs.declared.expr.TypedKind.{TypedKind-F}
use Rattle.jp_meaning.specs.declared.expr.TypedKind.TheOpen as form
use Rattle.jp_meaning.specs.declared.stmt.TypedStmt.{TypedStmt, fold-TypedStmt}
use Rattle.jp_meaning.specs.declared.stmt.TypedStmtKind.{TypedStmtKind-F}
use Rattle.jp_meaning.specs.declared.stmt.TypedStmtKind.TheOpen as stmt
use Rattle.jp_meaning.specs.declared.unit.TypedPart.{TypedPart}
use Rattle.jp_meaning.specs.declared.unit.TypedPart.TheVariants as part
use Rattle.jp_meaning.specs.declared.unit.TypedMember.{TypedMember}
use Rattle.jp_meaning.specs.Descriptors.{internal_name}
use Rattle.code_fits.specs.Encodable.{or_so}

-- a method that isn't built into the machine: none of `Io`, and not the constructor of Object
abbrev pub is_ordinary : Word → Word → Bool
is_ordinary class name = not (same class (codes "Io")) && not (same (internal_name class) object_name && same name (codes "<init>"))

-- a family isn't called as constructors are either
abbrev pub is_ordinary_family : Word → Word → Bool
is_ordinary_family class name = is_ordinary class name && not (same name (codes "<init>"))

-- a class whose name isn't what Object is called in code
abbrev pub is_distinct : Word → Bool
is_distinct class = not (same class object_name)

-- an expression of a form, each of whose methods is an ordinary one
abbrev pub expr_step : TypedKind-F Bool Bool → Bool
expr_step (form.Number value hex) = true
expr_step (form.Truth value) = true
expr_step form.Null = true
expr_step form.This = true
expr_step (form.Local slot) = true
expr_step (form.Unary sign right) = right
expr_step (form.Binary sign left right) = left && right
expr_step (form.Cond test first second) = test && (first && second)
expr_step (form.Cast class value) = value
expr_step (form.InstanceOf value class) = value
expr_step (form.Field object class name) = object
expr_step (form.Static class name) = true
expr_step (form.Length array) = array
expr_step (form.Index array index) = array && index
expr_step (form.CallVirtual object class is_interface name params args) = object && (list_all (λ a. a) args && is_ordinary class name)
expr_step (form.CallStatic class name params args) = list_all (λ a. a) args && is_ordinary class name
expr_step (form.CallSuper class name params args) = list_all (λ a. a) args && is_ordinary_family class name
expr_step (form.New class params args) = list_all (λ a. a) args && is_distinct class
expr_step (form.NewArray elem size) = size
expr_step (form.Print value) = value
expr_step (form.Show text) = true
expr_step form.Read = true

abbrev pub calls_ordinary : TypedExpr → Bool
calls_ordinary = fold-TypedExpr Bool Bool expr_step (λ e. e.kind)

-- the same of a statement of a form
abbrev pub stmt_step : TypedStmtKind-F Bool Bool → Bool
stmt_step (stmt.Block block) = list_all (λ s. s) block
stmt_step stmt.Empty = true
stmt_step (stmt.Local slot t value) = or_so calls_ordinary value
stmt_step (stmt.If test first second) = calls_ordinary test && (first && or_so (λ s. s) second)
stmt_step (stmt.While test body) = calls_ordinary test && body
stmt_step (stmt.For init test change body) =
    or_so (λ s. s) init && (or_so calls_ordinary test && (or_so (λ s. s) change && body))
stmt_step stmt.Break = true
stmt_step stmt.Continue = true
stmt_step (stmt.Return value) = or_so calls_ordinary value
stmt_step (stmt.Assign left sign right) = calls_ordinary left && calls_ordinary right
stmt_step (stmt.Bump left up) = calls_ordinary left
stmt_step (stmt.Run value) = calls_ordinary value

abbrev pub stmt_calls_ordinary : TypedStmt → Bool
stmt_calls_ordinary = fold-TypedStmt Bool Bool stmt_step (λ s. s.kind)

-- a constructor's superclass is Object, or a distinct class
abbrev pub start_is_ordinary : Iface → TypedPart → Bool
start_is_ordinary head (part.Field at) = true
start_is_ordinary head (part.Method at) = true
start_is_ordinary head (part.Constructor at) = or_so is_distinct head.superclass

abbrev pub member_calls_ordinary : Iface → TypedMember → Bool
member_calls_ordinary head m =
    start_is_ordinary head m.part && (list_all calls_ordinary m.super_args && list_all stmt_calls_ordinary m.block)
