-- No tree in a part is more than 200 deep.
use Rattle.std.specs.Prelude.{◌≤◌, List, Option, map}
use Rattle.jp_ast.specs.declared.expr.Expr.{Expr}
use Rattle.jp_ast.specs.declared.stmt.Stmt.{Stmt}
use Rattle.jp_ast.specs.declared.guard.GuardExpr.{GuardExpr}
use Rattle.jp_ast.specs.declared.decl.Decl.{Decl}
use Rattle.jp_ast.specs.declared.decl.Member.{Member}
use Rattle.jp_ast.specs.declared.decl.MemberPart.{MemberPart}
use Rattle.jp_grammar.specs.Depth.{depth, depth_of_all, greatest, guard_depth}
use Rattle.jp_grammar.specs.Faults.{deepest_of_block, deepest_of_guard, deepest_of_part, deepest_of_member, deepest_of_decl}

-- an expression
abbrev pub SmallExpr : Expr → Type 0
SmallExpr t = depth t ≤ 200

-- arguments
abbrev pub SmallArgs : List Expr → Type 0
SmallArgs ts = depth_of_all ts ≤ 200

-- a guard
abbrev pub SmallGuard : GuardExpr → Type 0
SmallGuard g = guard_depth g ≤ 200

-- a guard, where there is one
abbrev pub SmallMaybe : Option GuardExpr → Type 0
SmallMaybe g = deepest_of_guard g ≤ 200

-- statements
abbrev pub SmallBlock : List Stmt → Type 0
SmallBlock ts = deepest_of_block ts ≤ 200

-- what a member is behind its name and parameters
abbrev pub SmallPart : MemberPart → Type 0
SmallPart p = deepest_of_part p ≤ 200

-- a member
abbrev pub SmallMember : Member → Type 0
SmallMember m = deepest_of_member m ≤ 200

-- members
abbrev pub SmallMembers : List Member → Type 0
SmallMembers ms = greatest (map deepest_of_member ms) ≤ 200

-- a declaration
abbrev pub SmallDecl : Decl → Type 0
SmallDecl d = deepest_of_decl d ≤ 200

-- declarations
abbrev pub SmallDecls : List Decl → Type 0
SmallDecls ds = greatest (map deepest_of_decl ds) ≤ 200
