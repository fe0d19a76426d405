-- Trees without their places: two trees are the same, places aside, where these are equal.
use Rattle.std.specs.Prelude.{ℕ, List, [], ◌∷◌, map, Option, Some, None, option_map}
use Rattle.jp_ast.specs.declared.token.Place.{Place}
use Rattle.jp_ast.specs.declared.expr.Expr.{Expr, fold-Expr}
use Rattle.jp_ast.specs.declared.expr.ExprKind.{ExprKind, roll-ExprKind}
use Rattle.jp_ast.specs.declared.stmt.Stmt.{Stmt, fold-Stmt}
use Rattle.jp_ast.specs.declared.stmt.StmtKind.{StmtKind, StmtKind-F, roll-StmtKind}
use Rattle.jp_ast.specs.declared.stmt.StmtKind.TheOpen as stmt_kind
use Rattle.jp_ast.specs.declared.guard.PathText.{PathText}
use Rattle.jp_ast.specs.declared.guard.Summand.{Summand}
use Rattle.jp_ast.specs.declared.guard.GuardExpr.{GuardExpr, fold-GuardExpr}
use Rattle.jp_ast.specs.declared.guard.GuardKind.{GuardKind, GuardKind-F, roll-GuardKind}
use Rattle.jp_ast.specs.declared.guard.GuardKind.TheOpen as guard_kind
use Rattle.jp_ast.specs.declared.decl.SourceUnit.{SourceUnit}
use Rattle.jp_ast.specs.declared.decl.Decl.{Decl}
use Rattle.jp_ast.specs.declared.decl.Param.{Param}
use Rattle.jp_ast.specs.declared.decl.Member.{Member}
use Rattle.jp_ast.specs.declared.decl.MemberPart.{MemberPart}
use Rattle.jp_ast.specs.declared.decl.MemberPart.TheVariants as part
use Rattle.jp_grammar.specs.Kinds.{nowhere}

-- an expression, with every place put to the first of a text
unfoldable pub unplaced : Expr → Expr
unplaced = fold-Expr ExprKind Expr roll-ExprKind (λ e. record { place = nowhere; kind = e.kind })

-- a path
abbrev pub unplaced_path : PathText → PathText
unplaced_path p = record p { place = nowhere }

-- a summand
abbrev pub unplaced_summand : Summand → Summand
unplaced_summand a = record { place = nowhere; negative = a.negative; factor = a.factor; path = option_map unplaced_path a.path }

-- one layer of a guard, with the places of its paths and summands
abbrev pub unplaced_layer : {K G : Type 0} → GuardKind-F K G → GuardKind-F K G
unplaced_layer (guard_kind.Truth value) = guard_kind.Truth value
unplaced_layer (guard_kind.Not right) = guard_kind.Not right
unplaced_layer (guard_kind.And left right) = guard_kind.And left right
unplaced_layer (guard_kind.Or left right) = guard_kind.Or left right
unplaced_layer (guard_kind.Is path class alias) = guard_kind.Is (unplaced_path path) class alias
unplaced_layer (guard_kind.Alias path name) = guard_kind.Alias (unplaced_path path) name
unplaced_layer (guard_kind.NullTest path equal) = guard_kind.NullTest (unplaced_path path) equal
unplaced_layer (guard_kind.Flag path) = guard_kind.Flag (unplaced_path path)
unplaced_layer (guard_kind.Compare left sign right) = guard_kind.Compare (map unplaced_summand left) sign (map unplaced_summand right)

-- a guard
unfoldable pub unplaced_guard : GuardExpr → GuardExpr
unplaced_guard = fold-GuardExpr GuardKind GuardExpr (λ layer. roll-GuardKind (unplaced_layer layer)) (λ g. record { place = nowhere; kind = g.kind })

-- one layer of a statement, with the places of its expressions
abbrev pub unplaced_stmt_layer : {K S : Type 0} → StmtKind-F K S → StmtKind-F K S
unplaced_stmt_layer (stmt_kind.Block block) = stmt_kind.Block block
unplaced_stmt_layer stmt_kind.Empty = stmt_kind.Empty
unplaced_stmt_layer (stmt_kind.Local ty name value) = stmt_kind.Local ty name (option_map unplaced value)
unplaced_stmt_layer (stmt_kind.If test first second) = stmt_kind.If (unplaced test) first second
unplaced_stmt_layer (stmt_kind.While test body) = stmt_kind.While (unplaced test) body
unplaced_stmt_layer (stmt_kind.For init test change body) = stmt_kind.For init (option_map unplaced test) change body
unplaced_stmt_layer stmt_kind.Break = stmt_kind.Break
unplaced_stmt_layer stmt_kind.Continue = stmt_kind.Continue
unplaced_stmt_layer (stmt_kind.Return value) = stmt_kind.Return (option_map unplaced value)
unplaced_stmt_layer (stmt_kind.Assign left sign right) = stmt_kind.Assign (unplaced left) sign (unplaced right)
unplaced_stmt_layer (stmt_kind.Bump left up) = stmt_kind.Bump (unplaced left) up
unplaced_stmt_layer (stmt_kind.Run value) = stmt_kind.Run (unplaced value)

-- a statement
unfoldable pub unplaced_stmt : Stmt → Stmt
unplaced_stmt = fold-Stmt StmtKind Stmt (λ layer. roll-StmtKind (unplaced_stmt_layer layer)) (λ s. record { place = nowhere; kind = s.kind })

-- a parameter
abbrev pub unplaced_param : Param → Param
unplaced_param p = record p { place = nowhere }

-- the part of a member
abbrev pub unplaced_part : MemberPart → MemberPart
unplaced_part (part.Field ty static) = part.Field ty static
unplaced_part (part.Static result block) = part.Static result (map unplaced_stmt block)
unplaced_part (part.Abstract result) = part.Abstract result
unplaced_part (part.Body result guard block) = part.Body result (option_map unplaced_guard guard) (map unplaced_stmt block)
unplaced_part (part.Constructor args block) = part.Constructor (option_map (map unplaced) args) (map unplaced_stmt block)

-- a member
abbrev pub unplaced_member : Member → Member
unplaced_member m =
    record { place = nowhere; is_private = m.is_private; name = m.name; params = map unplaced_param m.params; part = unplaced_part m.part }

-- a declaration
abbrev pub unplaced_decl : Decl → Decl
unplaced_decl d = record d { place = nowhere; members = map unplaced_member d.members }

-- a unit
abbrev pub unplaced_unit : SourceUnit → SourceUnit
unplaced_unit unit = record { decls = map unplaced_decl unit.decls }
