-- What is said of a statement's own node, and of the first fault so far.
use Rattle.std.specs.Prelude.{◌≡◌, List, Bool, Option, None, if◌then◌else◌}
use Rattle.std.specs.Option.{option_map}
use Rattle.jp_ast.specs.declared.token.Place.{Place}
use Rattle.jp_meaning.specs.declared.stmt.TypedStmt.{TypedStmt}
use Rattle.jp_meaning.specs.declared.stmt.TypedStmtKind.{TypedStmtKind}
use Rattle.type_rules.specs.declared.fault.TypeFault.{TypeFault}
use Rattle.type_rules.specs.declared.scope.Scope.{Scope}
use Rattle.type_rules.specs.Nodes.{StmtNode, AtStmt}
use Rattle.type_rules.specs.Table.{own_faults}
use Rattle.type_rules.specs.Statements.{statement_at}
use Rattle.type_rules.specs.Typing.{earlier}
use Rattle.type_heads.specs.Faults.{is_none_of}

-- the faults of a node
unfoldable pub faults_at : Scope → Place → StmtNode → List TypeFault
faults_at c p node = own_faults p (AtStmt c node)

-- the resolved statement of that kind, where the node has no fault
abbrev pub unless_faulty : Scope → Place → StmtNode → Option TypedStmtKind → Option TypedStmt
unless_faulty c p node kind = if is_none_of (faults_at c p node) then option_map (statement_at p) kind else None

-- The rules are looked at: whether the node breaks none, and the first fault so far, with its own
pub record Looks (c : Scope) (p : Place) (node : StmtNode) (old new : Option TypeFault) (kept : Bool) : Type 0 where
  pub sound : kept ≡ is_none_of (faults_at c p node)
  pub first : new ≡ earlier old (faults_at c p node)

-- The node is settled: the resolved statement, of that kind where each part has no fault, and the first fault so far, with
-- its own
pub record Settles (c : Scope) (p : Place) (node : StmtNode) (old new : Option TypeFault) (kind : Option TypedStmtKind) (made : Option TypedStmt) : Type 0 where
  pub made_is : made ≡ unless_faulty c p node kind
  pub first : new ≡ earlier old (faults_at c p node)
