-- What the rules look at: the nodes of a unit, each as it is seen from there.
use Rattle.std.specs.Prelude.{ℕ, List, Bool, Option}
use Rattle.jp_pred.specs.declared.ty.Ty.{Ty}
use Rattle.jp_pred.specs.Names.{Word}
use Rattle.iface_codec.specs.declared.iface.Iface.{Iface}
use Rattle.jp_ast.specs.declared.token.Place.{Place}
use Rattle.jp_ast.specs.declared.expr.ExprKind.{ExprKind-F}
use Rattle.jp_ast.specs.declared.guard.PathText.{PathText}
use Rattle.jp_ast.specs.declared.guard.Summand.{Summand}
use Rattle.jp_ast.specs.declared.decl.Decl.{Decl}
use Rattle.jp_ast.specs.declared.decl.Member.{Member}
use Rattle.jp_ast.specs.declared.decl.Param.{Param}
use Rattle.jp_meaning.specs.declared.guard.TypedPath.{TypedPath}
use Rattle.type_rules.specs.declared.scope.Scope.{Scope}
use Rattle.type_rules.specs.declared.guard_scope.GuardScope.{GuardScope}
use Rattle.type_rules.specs.declared.seen.Role.{Role}
use Rattle.type_rules.specs.declared.seen.Seen.{Seen}
use Rattle.type_rules.specs.Written.{Form}

-- an expression, with what is seen of its parts
abbrev pub ExprNode : Type 0
ExprNode = ExprKind-F Seen Seen

-- A statement, with what is seen of its expressions; of what is changed, and of an expression that is a statement, also how
-- it is written
pub data StmtNode : Type 0 where
  Silent : StmtNode
  Declares : Ty → Word → Option Seen → StmtNode
  Tests : Seen → StmtNode
  Jumps : StmtNode
  Returns : Option Seen → StmtNode
  Assigns : Form → Seen → ℕ → Seen → StmtNode
  Bumps : Form → Seen → StmtNode
  Runs : Form → StmtNode

-- an atom of a guard, with its path where that has no fault
pub data AtomNode : Type 0 where
  TestsClass : Option TypedPath → Word → Option Word → AtomNode
  NamesPath : Option TypedPath → Word → AtomNode
  TestsNull : Option TypedPath → AtomNode
  Stands : Option TypedPath → AtomNode

-- A member of a declaration, with those before it, what is seen of the arguments of `super(..)` where it is written, and
-- whether its statements can complete
pub record MemberNode : Type 0 where
  pub heads : List Iface
  pub decl : Decl
  pub earlier : List Member
  pub member : Member
  pub super_args : Option (List Seen)
  pub completes : Bool

-- a declaration, with those before it
pub record DeclNode : Type 0 where
  pub heads : List Iface
  pub earlier : List Decl
  pub decl : Decl

-- A node of a unit. A parameter comes with those before it; of a path it is known whether it stands in a comparison
pub data Node : Type 0 where
  AtDecl : DeclNode → Node
  AtMember : MemberNode → Node
  AtParam : List Param → Param → Node
  AtAtom : GuardScope → AtomNode → Node
  AtPath : GuardScope → Bool → PathText → Node
  AtSummand : Summand → Node
  AtStmt : Scope → StmtNode → Node
  AtExpr : Scope → Role → ExprNode → Node

-- a node and its place
pub record Visit : Type 0 where
  pub place : Place
  pub node : Node

-- a rule, as its number and the test that a node breaks it
abbrev pub Rule : Type 0
Rule = ℕ × (Node → Bool)
