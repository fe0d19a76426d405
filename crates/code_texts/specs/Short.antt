-- Trees whose names and literals fit the texts of a class file.
use Rattle.std.specs.Prelude.{ℕ, List, length, Bool, true, ◌&&◌, nat_le, Option, slice_get}
use Rattle.std.specs.List.{list_all}
use Rattle.std.specs.Option.{option_map_or}
use Rattle.class_form.specs.WellFormed.{is_text_byte}
use Rattle.jp_pred.specs.Names.{Word}
use Rattle.jp_pred.specs.declared.ty.Ty.{Ty}
use Rattle.jp_pred.specs.declared.ty.Ty.TheVariants as ty
use Rattle.iface_codec.specs.declared.iface.Iface.{Iface}
use Rattle.iface_codec.specs.declared.iface.IfaceMethod.{IfaceMethod}
use Rattle.jp_meaning.specs.declared.expr.TypedExpr.{TypedExpr, fold-TypedExpr}
use Rattle.jp_meaning.specs.declared.expr.TypedKind.{TypedKind-F}
use Rattle.jp_meaning.specs.declared.expr.TypedKind.TheOpen as form
use Rattle.jp_meaning.specs.declared.stmt.TypedStmt.{TypedStmt, fold-TypedStmt}
use Rattle.jp_meaning.specs.declared.stmt.TypedStmtKind.{TypedStmtKind-F}
use Rattle.jp_meaning.specs.declared.stmt.TypedStmtKind.TheOpen as stmt
use Rattle.jp_meaning.specs.declared.unit.TypedPart.{TypedPart}
use Rattle.jp_meaning.specs.declared.unit.TypedPart.TheVariants as part
use Rattle.jp_meaning.specs.declared.unit.TypedMember.{TypedMember}

-- a name of at most 255 bytes that can stand in a class file
abbrev pub is_short : Word → Bool
is_short name = nat_le (length name) 255 && list_all is_text_byte name

-- a type whose class, if it has one, is named so
abbrev pub names_short : Ty → Bool
names_short ty.Void = true
names_short ty.Int = true
names_short ty.Boolean = true
names_short (ty.Class name) = is_short name
names_short ty.IntArray = true
names_short ty.BooleanArray = true
names_short (ty.ClassArray name) = is_short name

-- at most 200 parameters of such types
abbrev pub has_short_params : List Ty → Bool
has_short_params params = nat_le (length params) 200 && list_all names_short params

-- a class, a name and types with which a method is called
abbrev pub is_short_call : Word → Word → List Ty → Ty → Bool
is_short_call class name params t = is_short class && (is_short name && (has_short_params params && names_short t))

-- the bytes of a literal
abbrev pub is_short_text : List ℕ → Bool
is_short_text text = nat_le (length text) 65535 && list_all is_text_byte text

-- what is left out is
abbrev pub or_so : {A : Type 0} → (A → Bool) → Option A → Bool
or_so test a = option_map_or test a true

-- an expression of a form and a type, whose names and literals are short
abbrev pub expr_step : TypedKind-F (Ty → Bool) Bool → Ty → Bool
expr_step (form.Number value hex) t = true
expr_step (form.Truth value) t = true
expr_step form.Null t = true
expr_step form.This t = true
expr_step (form.Local slot) t = true
expr_step (form.Unary sign right) t = right
expr_step (form.Binary sign left right) t = left && right
expr_step (form.Cond test first second) t = test && (first && second)
expr_step (form.Cast class value) t = value && is_short class
expr_step (form.InstanceOf value class) t = value && is_short class
expr_step (form.Field object class name) t = object && (is_short class && (is_short name && names_short t))
expr_step (form.Static class name) t = is_short class && (is_short name && names_short t)
expr_step (form.Length array) t = array
expr_step (form.Index array index) t = array && index
expr_step (form.CallVirtual object class is_interface name params args) t = object && (list_all (λ a. a) args && is_short_call class name params t)
expr_step (form.CallStatic class name params args) t = list_all (λ a. a) args && is_short_call class name params t
expr_step (form.CallSuper class name params args) t = list_all (λ a. a) args && is_short_call class name params t
expr_step (form.New class params args) t = list_all (λ a. a) args && (is_short class && has_short_params params)
expr_step (form.NewArray elem size) t = size && names_short elem
expr_step (form.Print value) t = value
expr_step (form.Show text) t = is_short_text text
expr_step form.Read t = true

abbrev pub is_short_expr : TypedExpr → Bool
is_short_expr = fold-TypedExpr (Ty → Bool) Bool (λ kind t. expr_step kind t) (λ e. e.kind e.ty)

-- the same of a statement of a form
abbrev pub stmt_step : TypedStmtKind-F Bool Bool → Bool
stmt_step (stmt.Block block) = list_all (λ s. s) block
stmt_step stmt.Empty = true
stmt_step (stmt.Local slot t value) = or_so is_short_expr value
stmt_step (stmt.If test first second) = is_short_expr test && (first && or_so (λ s. s) second)
stmt_step (stmt.While test body) = is_short_expr test && body
stmt_step (stmt.For init test change body) = or_so (λ s. s) init && (or_so is_short_expr test && (or_so (λ s. s) change && body))
stmt_step stmt.Break = true
stmt_step stmt.Continue = true
stmt_step (stmt.Return value) = or_so is_short_expr value
stmt_step (stmt.Assign left sign right) = is_short_expr left && is_short_expr right
stmt_step (stmt.Bump left up) = is_short_expr left
stmt_step (stmt.Run value) = is_short_expr value

abbrev pub is_short_stmt : TypedStmt → Bool
is_short_stmt = fold-TypedStmt Bool Bool stmt_step (λ s. s.kind)

-- a method without aliases, so that its code begins with its block
abbrev pub has_no_aliases : IfaceMethod → Bool
has_no_aliases method = nat_le (length method.aliases) 0

-- what stands at the start of a member names nothing, or is the call of the superclass's constructor
abbrev pub start_is_short : Iface → TypedMember → TypedPart → Bool
start_is_short head m (part.Field at) = true
start_is_short head m (part.Method at) = or_so has_no_aliases (slice_get head.methods at)
start_is_short head m (part.Constructor at) = or_so is_short head.superclass && has_short_params m.super_params

-- a member without aliases whose names and literals are short
abbrev pub is_short_member : Iface → TypedMember → Bool
is_short_member head m = start_is_short head m m.part && (list_all is_short_expr m.super_args && list_all is_short_stmt m.block)
