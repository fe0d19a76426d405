-- Statements: what one does to the scope, the nodes of it, and its resolved tree.
use Rattle.std.specs.Prelude.{ℕ, ◌+◌, max, List, [], ◌∷◌, ◌++◌, length, Bool, true, false, Option, Some, None, if◌then◌else◌}
use Rattle.std.specs.Option.{option_map, option_map_or, option_and_then}
use Rattle.jp_pred.specs.declared.ty.Ty.{Ty}
use Rattle.jp_pred.specs.Names.{Word}
use Rattle.jp_ast.specs.declared.token.Place.{Place}
use Rattle.jp_ast.specs.declared.expr.Expr.{Expr}
use Rattle.jp_ast.specs.declared.stmt.Stmt.{Stmt, fold-Stmt}
use Rattle.jp_ast.specs.declared.stmt.StmtKind.{StmtKind-F}
use Rattle.jp_ast.specs.declared.stmt.StmtKind.TheOpen as s
use Rattle.jp_meaning.specs.declared.expr.TypedExpr.{TypedExpr}
use Rattle.jp_meaning.specs.declared.stmt.TypedStmt.{TypedStmt}
use Rattle.jp_meaning.specs.declared.stmt.TypedStmtKind.{TypedStmtKind}
use Rattle.jp_meaning.specs.declared.stmt.TypedStmtKind.TheVariants as made
use Rattle.type_rules.specs.declared.scope.Scope.{Scope}
use Rattle.type_rules.specs.declared.seen.Seen.{Seen}
use Rattle.type_rules.specs.declared.seen.Seen.TheVariants as seen
use Rattle.type_rules.specs.declared.seen.Role.{Role}
use Rattle.type_rules.specs.declared.seen.Role.TheVariants as role
use Rattle.type_rules.specs.Written.{Form, form_of}
use Rattle.type_rules.specs.Names.{receiver_slots}
use Rattle.type_rules.specs.Nodes.{StmtNode, Silent, Declares, Tests, Jumps, Returns, Assigns, Bumps, Runs, AtStmt, Visit}
use Rattle.type_rules.specs.Table.{own_faults}
use Rattle.type_rules.specs.Expressions.{Part, part}

-- What a statement does: the scope behind it, the nodes of it, the most variables that are in scope at once in it, and its
-- resolved tree where it has no fault
pub record Flow : Type 0 where
  pub after : Scope
  pub visits : List Visit
  pub most : ℕ
  pub made : Option TypedStmt

-- an expression that waits for its scope and its role, and how it is written
pub record Waiting : Type 0 where
  pub form : Form
  pub part : Scope → Role → Part

-- A statement whose parts wait for their scopes
pub data Step : Type 0 where
  Block : List (Scope → Flow) → Step
  Empty : Step
  Local : Ty → Word → Option Waiting → Step
  If : Waiting → (Scope → Flow) → Option (Scope → Flow) → Step
  While : Waiting → (Scope → Flow) → Step
  For : Option (Scope → Flow) → Option Waiting → Option (Scope → Flow) → (Scope → Flow) → Step
  Jump : Bool → Step
  Return : Option Waiting → Step
  Assign : Waiting → ℕ → Waiting → Step
  Bump : Waiting → Bool → Step
  Run : Waiting → Step

abbrev pub waiting : Expr → Waiting
waiting x = record { form = form_of x; part = λ c. part c x }

-- the step of a statement; of `break` and `continue`, whether it is the first
abbrev pub step_of : StmtKind-F (Place → Scope → Flow) (Scope → Flow) → Step
step_of (s.Block all) = Block all
step_of s.Empty = Empty
step_of (s.Local t name value) = Local t name (option_map waiting value)
step_of (s.If test first second) = If (waiting test) first second
step_of (s.While test body) = While (waiting test) body
step_of (s.For init test change body) = For init (option_map waiting test) change body
step_of s.Break = Jump true
step_of s.Continue = Jump false
step_of (s.Return value) = Return (option_map waiting value)
step_of (s.Assign left n right) = Assign (waiting left) n (waiting right)
step_of (s.Bump left up) = Bump (waiting left) up
step_of (s.Run x) = Run (waiting x)

-- SCOPES

-- with one more variable
abbrev pub declared : Scope → Ty → Word → Scope
declared c t name = record c { variables = c.variables ++ record { name = name; ty = t } ∷ [] }

-- in a loop
abbrev pub in_loop : Scope → Scope
in_loop c = record c { is_in_loop = true }

abbrev pub count : Scope → ℕ
count c = length c.variables

-- the scope behind the first part of a `for`
abbrev pub after_init : Option (Scope → Flow) → Scope → Scope
after_init None c = c
after_init (Some init) c = (init c).after

-- PARTS

-- an expression whose value is wanted
abbrev pub operand : Scope → Waiting → Part
operand c x = x.part c role.Operand

abbrev pub seen_option : Scope → Option Waiting → Option Seen
seen_option c x = option_map (λ y. (operand c y).seen) x

abbrev pub visits_option : Scope → Option Waiting → List Visit
visits_option c x = option_map_or (λ y. (operand c y).visits) x []

-- a statement that may be left out
abbrev pub flow_visits : Option (Scope → Flow) → Scope → List Visit
flow_visits f c = option_map_or (λ g. (g c).visits) f []

abbrev pub flow_most : Option (Scope → Flow) → Scope → ℕ
flow_most f c = option_map_or (λ g. (g c).most) f (count c)

-- STATEMENTS ONE AFTER ANOTHER, each in the scope that the one before leaves

abbrev pub scope_along : List (Scope → Flow) → Scope → Scope
scope_along [] c = c
scope_along (f ∷ fs) c = scope_along fs (f c).after

abbrev pub visits_along : List (Scope → Flow) → Scope → List Visit
visits_along [] c = []
visits_along (f ∷ fs) c = (f c).visits ++ visits_along fs (f c).after

abbrev pub most_along : ℕ → List (Scope → Flow) → Scope → ℕ
most_along most [] c = most
most_along most (f ∷ fs) c = most_along (max most (f c).most) fs (f c).after

abbrev pub pushed : Option (List TypedStmt) → Option TypedStmt → Option (List TypedStmt)
pushed (Some ts) (Some t) = Some (ts ++ t ∷ [])
pushed (Some ts) None = None
pushed None t = None

-- the resolved statements behind those so far, where each has one
abbrev pub made_along : Option (List TypedStmt) → List (Scope → Flow) → Scope → Option (List TypedStmt)
made_along done [] c = done
made_along done (f ∷ fs) c = made_along (pushed done (f c).made) fs (f c).after

-- WHAT THE RULES LOOK AT

abbrev pub test_node : Option Seen → StmtNode
test_node None = Silent
test_node (Some test) = Tests test

-- the statement with what is seen of its expressions
abbrev pub node_in : Scope → Step → StmtNode
node_in c (Block all) = Silent
node_in c Empty = Silent
node_in c (Local t name value) = Declares t name (seen_option c value)
node_in c (If test first second) = Tests (operand c test).seen
node_in c (While test body) = Tests (operand c test).seen
node_in c (For init test change body) = test_node (seen_option (after_init init c) test)
node_in c (Jump stops) = Jumps
node_in c (Return value) = Returns (seen_option c value)
node_in c (Assign left n right) = Assigns left.form (operand c left).seen n (operand c right).seen
node_in c (Bump left up) = Bumps left.form (operand c left).seen
node_in c (Run x) = Runs x.form

-- the scope behind a statement: a declared variable is in scope from there on
abbrev pub scope_behind : Scope → Step → Scope
scope_behind c (Local t name value) = declared c t name
scope_behind c _ = c

-- the nodes of the parts
abbrev pub visits_inside : Scope → Step → List Visit
visits_inside c (Block all) = visits_along all c
visits_inside c Empty = []
visits_inside c (Local t name value) = visits_option c value
visits_inside c (If test first second) = (operand c test).visits ++ ((first c).visits ++ flow_visits second c)
visits_inside c (While test body) = (operand c test).visits ++ (body (in_loop c)).visits
visits_inside c (For init test change body) = flow_visits init c ++ rest (after_init init c) where
  rest : Scope → List Visit
  rest d = visits_option d test ++ (flow_visits change d ++ (body (in_loop d)).visits)
visits_inside c (Jump stops) = []
visits_inside c (Return value) = visits_option c value
visits_inside c (Assign left n right) = (operand c left).visits ++ (operand c right).visits
visits_inside c (Bump left up) = (operand c left).visits
visits_inside c (Run x) = (x.part c role.Alone).visits

-- the most variables that are in scope at once
abbrev pub most_in : Scope → Step → ℕ
most_in c (Block all) = most_along (count c) all c
most_in c (Local t name value) = count c + 1
most_in c (If test first second) = max (first c).most (flow_most second c)
most_in c (While test body) = (body (in_loop c)).most
most_in c (For init test change body) =
    max (flow_most init c) (max (flow_most change (after_init init c)) (body (in_loop (after_init init c))).most)
most_in c _ = count c

-- THE RESOLVED TREE

-- a part's resolved expression
abbrev pub tree_of : Seen → Option TypedExpr
tree_of (seen.Value k) = Some k.expr
tree_of _ = None

-- of a part that may be left out: nothing where it has a fault
abbrev pub tree_option : Option Seen → Option (Option TypedExpr)
tree_option None = Some None
tree_option (Some part) = option_map Some (tree_of part)

abbrev pub made_option : Option (Scope → Flow) → Scope → Option (Option TypedStmt)
made_option None c = Some None
made_option (Some f) c = option_map Some (f c).made

-- a loop with `for`, from its parts in their scopes
abbrev pub made_for : Option (Scope → Flow) → Option Waiting → Option (Scope → Flow) → (Scope → Flow) → Scope → Scope → Option TypedStmtKind
made_for init test change body c d =
    option_and_then (λ i. option_and_then (λ t. option_and_then (λ ch. option_map (λ b. made.For i t ch b)
    (body (in_loop d)).made) (made_option change d)) (tree_option (seen_option d test))) (made_option init c)

-- the resolved statement, where each part has no fault
abbrev pub resolved : Scope → Step → Option TypedStmtKind
resolved c (Block all) = option_map made.Block (made_along (Some []) all c)
resolved c Empty = Some made.Empty
resolved c (Local t name value) =
    option_map (λ v. made.Local (receiver_slots c.is_static + count c) t v) (tree_option (seen_option c value))
resolved c (If test first second) =
    option_and_then (λ t. option_and_then (λ a. option_map (λ b. made.If t a b) (made_option second c)) (first c).made) (tree_of (operand c test).seen)
resolved c (While test body) = option_and_then (λ t. option_map (λ b. made.While t b) (body (in_loop c)).made) (tree_of (operand c test).seen)
resolved c (For init test change body) = made_for init test change body c (after_init init c)
resolved c (Jump stops) = Some (if stops then made.Break else made.Continue)
resolved c (Return value) = option_map made.Return (tree_option (seen_option c value))
resolved c (Assign left n right) =
    option_and_then (λ l. option_map (λ r. made.Assign l n r) (tree_of (operand c right).seen)) (tree_of (operand c left).seen)
resolved c (Bump left up) = option_map (λ l. made.Bump l up) (tree_of (operand c left).seen)
resolved c (Run x) = option_map made.Run (tree_of (x.part c role.Alone).seen)

-- THE FOLD

abbrev pub statement_at : Place → TypedStmtKind → TypedStmt
statement_at p kind = record { place = p; kind = kind }

abbrev pub flow_of : Step → Place → Scope → Flow
flow_of step p c = record {
  after = scope_behind c step;
  visits = visits_inside c step ++ record { place = p; node = AtStmt c (node_in c step) } ∷ [];
  most = most_in c step;
  made = elim (own_faults p (AtStmt c (node_in c step))) [ [] ↦ option_map (statement_at p) (resolved c step) | _ ↦ None ];
}

-- a statement
abbrev pub flow : Stmt → Scope → Flow
flow = fold-Stmt (Place → Scope → Flow) (Scope → Flow) (λ kind. flow_of (step_of kind)) (λ x. x.kind x.place)
