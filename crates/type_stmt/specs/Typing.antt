-- What typing statements answers.
use Rattle.std.specs.Prelude.{◌≡◌, List, [], map, Some, Result, Ok, Err}
use Rattle.jp_ast.specs.declared.stmt.Stmt.{Stmt}
use Rattle.jp_meaning.specs.declared.stmt.TypedStmt.{TypedStmt}
use Rattle.type_rules.specs.declared.scope.Scope.{Scope}
use Rattle.type_rules.specs.Statements.{visits_along, made_along, flow}
use Rattle.type_rules.specs.Typing.{AreSound, IsFirstFault}
use Rattle.type_heads.specs.declared.error.TypeErr.{TypeErr}
use Rattle.type_heads.specs.declared.error.TypeErr.TheVariants as stop

-- statements have no fault, and these are their resolved trees
pub record IsTypedBlock (c : Scope) (block : List Stmt) (trees : List TypedStmt) : Type 0 where
  pub sound : AreSound (visits_along (map flow block) c)
  pub resolved : made_along (Some []) (map flow block) c ≡ Some trees

-- the resolved trees of statements without a fault, or the first fault
abbrev pub TypesBlock : Scope → List Stmt → Result (List TypedStmt) TypeErr → Type 0
TypesBlock c block (Ok trees) = IsTypedBlock c block trees
TypesBlock c block (Err (stop.Fault f)) = IsFirstFault (visits_along (map flow block) c) f
TypesBlock c block (Err stop.OutOfMemory) = Unit {0}

-- the scope is left as it was
abbrev pub Keeps : Scope → Scope → Result (List TypedStmt) TypeErr → Type 0
Keeps c d (Ok trees) = d ≡ c
Keeps c d (Err (stop.Fault f)) = d ≡ c
Keeps c d (Err stop.OutOfMemory) = Unit {0}
