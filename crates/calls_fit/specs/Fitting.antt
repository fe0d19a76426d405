-- What the rules of types say of the trees of a program, as far as its calls need it.
use Rattle.std.specs.Prelude.{◌≡◌, ℕ, List, map, Bool, true, false, not, ◌&&◌, ◌==◌, Option, Some, slice_get}
use Rattle.std.specs.List.{list_all}
use Rattle.std.specs.Option.{option_map_or}
use Rattle.jp_pred.specs.declared.ty.Ty.{Ty}
use Rattle.jp_pred.specs.Names.{Word, same, object}
use Rattle.jp_pred.specs.Hierarchy.{HasNoCycle}
use Rattle.iface_codec.specs.declared.iface.Iface.{Iface}
use Rattle.iface_codec.specs.declared.iface.IfaceMethod.{IfaceMethod}
use Rattle.jp_meaning.specs.declared.expr.TypedExpr.{TypedExpr, fold-TypedExpr}
use Rattle.jp_meaning.specs.declared.expr.TypedKind.{TypedKind-F}
use Rattle.jp_meaning.specs.declared.expr.TypedKind.TheOpen as form
use Rattle.jp_meaning.specs.declared.stmt.TypedStmt.{TypedStmt, fold-TypedStmt}
use Rattle.jp_meaning.specs.declared.stmt.TypedStmtKind.{TypedStmtKind-F}
use Rattle.jp_meaning.specs.declared.stmt.TypedStmtKind.TheOpen as stmt
use Rattle.jp_meaning.specs.declared.unit.TypedMember.{TypedMember}
use Rattle.jp_meaning.specs.declared.unit.TypedClass.{TypedClass}
use Rattle.jp_meaning.specs.Descriptors.{internal_name, word_of}
use Rattle.jp_meaning.specs.Classes.{hier_in, class_in}
use Rattle.jp_meaning.specs.Run.{Program}
use Rattle.gen_body.specs.Names.{are_nameable, is_result}
use Rattle.code_trace.specs.Given.{has_receiver}
use Rattle.whole_program.specs.Fits.{is_whole}

-- what is found of an expression: whether it fits, and whether it is the first local, which holds the receiver
pub record Checked : Type 0 where
  pub fits : Bool
  pub is_first : Bool

abbrev pub all_fit : List Checked → Bool
all_fit = list_all (λ c. c.fits)

-- found of an expression that isn't the first local
abbrev pub checked : Bool → Checked
checked fits = record { fits = fits; is_first = false }

-- a class is the superclass, and objects of it can be made
abbrev pub is_whole_above : Program → Iface → Word → Bool
is_whole_above p head class = option_map_or (λ s. same s class) head.superclass false && is_whole p class

-- Types in calls can be named. A family of the superclass is called where there is a receiver, and objects of the
-- superclass can be made
abbrev pub expr_step : Program → Iface → Bool → TypedKind-F (Ty → Checked) Checked → Ty → Checked
expr_step p head receiver (form.Number value hex) t = checked true
expr_step p head receiver (form.Truth value) t = checked true
expr_step p head receiver form.Null t = checked true
expr_step p head receiver form.This t = checked true
expr_step p head receiver (form.Local slot) t = record { fits = true; is_first = slot == 0 }
expr_step p head receiver (form.Unary sign right) t = checked right.fits
expr_step p head receiver (form.Binary sign left right) t = checked (left.fits && right.fits)
expr_step p head receiver (form.Cond test first second) t = checked (test.fits && (first.fits && second.fits))
expr_step p head receiver (form.Cast class value) t = checked value.fits
expr_step p head receiver (form.InstanceOf value class) t = checked value.fits
expr_step p head receiver (form.Field object class name) t = checked object.fits
expr_step p head receiver (form.Static class name) t = checked true
expr_step p head receiver (form.Length array) t = checked array.fits
expr_step p head receiver (form.Index array index) t = checked (array.fits && index.fits)
expr_step p head receiver (form.CallVirtual object class is_interface name params args) t =
    checked (object.fits && (all_fit args && (are_nameable params && is_result t)))
expr_step p head receiver (form.CallStatic class name params args) t = checked (all_fit args && (are_nameable params && is_result t))
expr_step p head receiver (form.CallSuper class name params args) t =
    checked (all_fit args && (are_nameable params && is_result t) && (receiver && is_whole_above p head (word_of (internal_name class))))
expr_step p head receiver (form.New class params args) t = checked (all_fit args && are_nameable params)
expr_step p head receiver (form.NewArray elem size) t = checked size.fits
expr_step p head receiver (form.Print value) t = checked value.fits
expr_step p head receiver (form.Show text) t = checked true
expr_step p head receiver form.Read t = checked true

abbrev pub check : Program → Iface → Bool → TypedExpr → Checked
check p head receiver = fold-TypedExpr (Ty → Checked) Checked (expr_step p head receiver) (λ e. e.kind e.ty)

-- what is left out fits
abbrev pub or_fits : {A : Type 0} → (A → Bool) → Option A → Bool
or_fits fits a = option_map_or fits a true

-- what is assigned to fits, and isn't the receiver
abbrev pub is_target : Bool → Checked → Bool
is_target receiver c = c.fits && not (receiver && c.is_first)

abbrev pub stmt_step : Program → Iface → Bool → TypedStmtKind-F Bool Bool → Bool
stmt_step p head receiver (stmt.Block block) = list_all (λ s. s) block
stmt_step p head receiver stmt.Empty = true
stmt_step p head receiver (stmt.Local slot t value) = not (receiver && slot == 0) && or_fits (λ e. (check p head receiver e).fits) value
stmt_step p head receiver (stmt.If test first second) = (check p head receiver test).fits && (first && or_fits (λ s. s) second)
stmt_step p head receiver (stmt.While test body) = (check p head receiver test).fits && body
stmt_step p head receiver (stmt.For init test change body) =
    or_fits (λ s. s) init && (or_fits (λ e. (check p head receiver e).fits) test && (or_fits (λ s. s) change && body))
stmt_step p head receiver stmt.Break = true
stmt_step p head receiver stmt.Continue = true
stmt_step p head receiver (stmt.Return value) = or_fits (λ e. (check p head receiver e).fits) value
stmt_step p head receiver (stmt.Assign left sign right) = is_target receiver (check p head receiver left) && (check p head receiver right).fits
stmt_step p head receiver (stmt.Bump left up) = is_target receiver (check p head receiver left)
stmt_step p head receiver (stmt.Run value) = (check p head receiver value).fits

abbrev pub stmt_fits : Program → Iface → Bool → TypedStmt → Bool
stmt_fits p head receiver = fold-TypedStmt Bool Bool (stmt_step p head receiver) (λ s. s.kind)

-- a member of a class
abbrev pub member_fits : Program → Iface → TypedMember → Bool
member_fits p head m =
    list_all (stmt_fits p head (has_receiver head m.part)) m.block
    && (all_fit (map (check p head (has_receiver head m.part)) m.super_args) && are_nameable m.super_params)

abbrev pub method_fits : IfaceMethod → Bool
method_fits method = are_nameable method.params && is_result method.result

-- a class: it isn't Object and is the first of its name, the types of its methods and constructors can be named, and its
-- members fit
pub record ClassFits (p : Program) (c : TypedClass) : Type 0 where
  pub named : same c.head.name object ≡ false
  pub first : class_in p.classes c.head.name ≡ Some c
  pub methods : list_all method_fits c.head.methods ≡ true
  pub constructors : list_all are_nameable c.head.constructors ≡ true
  pub members : list_all (member_fits p c.head) c.members ≡ true

-- a program: no class is above itself, and each class fits
pub record ProgramFits (p : Program) : Type 0 where
  pub acyclic : HasNoCycle (hier_in p.classes)
  pub each : (i : ℕ) (c : TypedClass) → slice_get p.classes i ≡ Some c → ClassFits p c
