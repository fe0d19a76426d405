-- The kinds of resolved statements, where each part has no fault.
use Rattle.std.specs.Prelude.{ℕ, ◌+◌, Option, Some}
use Rattle.std.specs.Option.{option_map, option_and_then}
use Rattle.jp_pred.specs.declared.ty.Ty.{Ty}
use Rattle.jp_meaning.specs.declared.stmt.TypedStmt.{TypedStmt}
use Rattle.jp_meaning.specs.declared.stmt.TypedStmtKind.{TypedStmtKind}
use Rattle.jp_meaning.specs.declared.stmt.TypedStmtKind.TheVariants as made
use Rattle.type_rules.specs.declared.scope.Scope.{Scope}
use Rattle.type_rules.specs.declared.seen.Seen.{Seen}
use Rattle.type_rules.specs.Names.{receiver_slots}
use Rattle.type_rules.specs.Statements.{count, tree_of, tree_option}

abbrev pub local_kind : Scope → Ty → Option Seen → Option TypedStmtKind
local_kind c t value = option_map (λ v. made.Local (receiver_slots c.is_static + count c) t v) (tree_option value)

abbrev pub if_kind : Seen → Option TypedStmt → Option (Option TypedStmt) → Option TypedStmtKind
if_kind test first second = option_and_then (λ t. option_and_then (λ a. option_map (λ b. made.If t a b) second) first) (tree_of test)

abbrev pub while_kind : Seen → Option TypedStmt → Option TypedStmtKind
while_kind test body = option_and_then (λ t. option_map (λ b. made.While t b) body) (tree_of test)

abbrev pub for_kind : Option (Option TypedStmt) → Option Seen → Option (Option TypedStmt) → Option TypedStmt → Option TypedStmtKind
for_kind init test change body =
    option_and_then (λ i. option_and_then (λ t. option_and_then (λ ch. option_map (λ b. made.For i t ch b) body) change) (tree_option test)) init

abbrev pub assign_kind : Seen → ℕ → Seen → Option TypedStmtKind
assign_kind left n right = option_and_then (λ l. option_map (λ r. made.Assign l n r) (tree_of right)) (tree_of left)
