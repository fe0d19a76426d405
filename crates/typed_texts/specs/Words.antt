-- Units whose names and literals are short.
use Rattle.std.specs.Prelude.{Bool, true, ◌&&◌}
use Rattle.std.specs.List.{list_all}
use Rattle.iface_codec.specs.declared.iface.Iface.{Iface}
use Rattle.iface_codec.specs.declared.iface.IfaceField.{IfaceField}
use Rattle.iface_codec.specs.declared.iface.IfaceMethod.{IfaceMethod}
use Rattle.jp_ast.specs.declared.expr.Expr.{Expr, fold-Expr}
use Rattle.jp_ast.specs.declared.expr.ExprKind.{ExprKind-F}
use Rattle.jp_ast.specs.declared.expr.ExprKind.TheOpen as e
use Rattle.jp_ast.specs.declared.stmt.Stmt.{Stmt, fold-Stmt}
use Rattle.jp_ast.specs.declared.stmt.StmtKind.{StmtKind-F}
use Rattle.jp_ast.specs.declared.stmt.StmtKind.TheOpen as s
use Rattle.jp_ast.specs.declared.decl.Decl.{Decl}
use Rattle.jp_ast.specs.declared.decl.Member.{Member}
use Rattle.type_rules.specs.Heads.{head}
use Rattle.type_rules.specs.Units.{super_part, block_part}
use Rattle.code_texts.specs.Short.{is_short, names_short, has_short_params, is_short_text, or_so}

-- the names that are written in an expression, and its literals
abbrev pub expr_step : ExprKind-F Bool Bool → Bool
expr_step (e.Number value hex) = true
expr_step (e.Truth value) = true
expr_step e.Null = true
expr_step (e.Text text) = is_short_text text
expr_step e.This = true
expr_step (e.Var name) = is_short name
expr_step (e.Unary sign right) = right
expr_step (e.Binary sign left right) = left && right
expr_step (e.Cond test first second) = test && (first && second)
expr_step (e.Cast class value) = value && is_short class
expr_step (e.InstanceOf value class) = value && is_short class
expr_step (e.Field object name) = object && is_short name
expr_step (e.Index array index) = array && index
expr_step (e.Call object name args) = or_so (λ o. o) object && (list_all (λ a. a) args && is_short name)
expr_step (e.SuperCall name args) = list_all (λ a. a) args && is_short name
expr_step (e.New class args) = list_all (λ a. a) args && is_short class
expr_step (e.NewArray elem size) = size && names_short elem

abbrev pub expr_is_short : Expr → Bool
expr_is_short = fold-Expr Bool Bool expr_step (λ x. x.kind)

-- the same of a statement
abbrev pub stmt_step : StmtKind-F Bool Bool → Bool
stmt_step (s.Block block) = list_all (λ b. b) block
stmt_step s.Empty = true
stmt_step (s.Local t name value) = or_so expr_is_short value
stmt_step (s.If test first second) = expr_is_short test && (first && or_so (λ b. b) second)
stmt_step (s.While test body) = expr_is_short test && body
stmt_step (s.For init test change body) = or_so (λ b. b) init && (or_so expr_is_short test && (or_so (λ b. b) change && body))
stmt_step s.Break = true
stmt_step s.Continue = true
stmt_step (s.Return value) = or_so expr_is_short value
stmt_step (s.Assign left sign right) = expr_is_short left && expr_is_short right
stmt_step (s.Bump left up) = expr_is_short left
stmt_step (s.Run value) = expr_is_short value

abbrev pub stmt_is_short : Stmt → Bool
stmt_is_short = fold-Stmt Bool Bool stmt_step (λ x. x.kind)

-- the same of the arguments and statements of a member
abbrev pub has_short_words : Member → Bool
has_short_words m = or_so (list_all expr_is_short) (super_part m.part) && list_all stmt_is_short (block_part m.part)

abbrev pub field_is_short : IfaceField → Bool
field_is_short f = is_short f.name && names_short f.ty

-- a method, with its parameters, which are at most 200
abbrev pub method_is_short : IfaceMethod → Bool
method_is_short m = is_short m.name && (has_short_params m.params && names_short m.result)

-- a class or an interface, with what it declares
abbrev pub head_is_short : Iface → Bool
head_is_short h =
    is_short h.name
    && (or_so is_short h.superclass
    && (list_all is_short h.interfaces && (list_all field_is_short h.fields && (list_all has_short_params h.constructors && list_all method_is_short h.methods))))

-- a declaration all of whose names and literals are short
abbrev pub has_short_names : Decl → Bool
has_short_names d = head_is_short (head d) && list_all has_short_words d.members
