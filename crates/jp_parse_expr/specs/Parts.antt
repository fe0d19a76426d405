-- What the functions that read parts of an expression answer.
use Rattle.std.specs.Prelude.{◌≡◌, ℕ, ◌<◌, ◌≤◌, Bool, List, [], ◌∷◌, length, drop, Option, Some, None, Result, Ok, Err, ◌⊎◌}
use Rattle.std.specs.Borrow.{Bor}
use Rattle.jp_pred.specs.declared.ty.Ty.{Ty}
use Rattle.jp_ast.specs.declared.token.Place.{Place}
use Rattle.jp_ast.specs.declared.token.Token.{Token}
use Rattle.jp_ast.specs.declared.expr.Expr.{Expr}
use Rattle.jp_ast.specs.declared.guard.GuardExpr.{GuardExpr}
use Rattle.jp_ast.specs.declared.sign.TheConstants as sign
use Rattle.jp_grammar.specs.declared.fault.ParseFault.{ParseFault}
use Rattle.jp_grammar.specs.Kinds.{Tokens, IsSign}
use Rattle.jp_grammar.specs.Trees.{array_at}
use Rattle.jp_grammar.specs.Expressions.{Expression, Postfix, Args, Steps, NoBracket}
use Rattle.jp_grammar.specs.Guards.{Guard}
use Rattle.jp_grammar.specs.Depth.{depth, depth_of_all, guard_depth}
use Rattle.jp_grammar.specs.Behind.{ends_full, ends_level, ends_primary}
use Rattle.jp_grammar.specs.Reading.{Reads, Found, FailsWithin, Gives}
use Rattle.jp_parse_expr.specs.BehindGuards.{ends_guard}

-- what a function answers that reads an expression: the tree, its depth and the tokens behind it, or the fault
abbrev pub Read : Type 0
Read = Result (Expr × ℕ × Bor Tokens) ParseFault

-- One more part was read behind what was read before: what is then given for the tokens that are left is given for
-- all. Else the fault.
abbrev pub Continues : (Expr → Reads Expr) → (Token → Bool) → ℕ → Expr → Tokens → Read → Type 0
Continues R ends most l xs (Ok x) = ((r : Read) → Gives (R x.0) depth ends most x.2.now r → Gives (R l) depth ends most xs r) × (x.1 ≡ depth x.0) × (x.1 ≤ most)
Continues R ends most l xs (Err e) = FailsWithin (R l) depth ends most xs e

-- a step stands there: `.` or `[`
abbrev pub IsStep : Token → Type 0
IsStep s = IsSign sign.DOT s ⊎ IsSign sign.OPEN_BRACKET s

-- the steps behind a created array, which isn't directly followed by `[`
abbrev pub ArraySteps : Place → Expr → Reads Expr
ArraySteps at l xs t zs = NoBracket xs × Steps at l xs t zs

-- An expression stands at the place, with nothing else to be read there, and it is at most 200 deep. The second place
-- is the one behind it. Else the first token with which no such expression goes on.
abbrev pub ParsesExpr : Tokens → ℕ → Result (Expr × ℕ) ParseFault → Type 0
ParsesExpr tokens at (Ok x) = Found Expression (λ _. ends_full) (drop at tokens) x.0 (drop x.1 tokens) × (depth x.0 ≤ 200) × (x.1 < length tokens)
ParsesExpr tokens at (Err e) = FailsWithin Expression depth ends_full 200 (drop at tokens) e

-- An operand without a sign or a cast in front stands at the place, with all the steps behind it, and it is at most 200
-- deep. The second place is the one behind it. Else the first token with which no such operand goes on.
abbrev pub ParsesPostfix : Tokens → ℕ → Result (Expr × ℕ) ParseFault → Type 0
ParsesPostfix tokens at (Ok x) = Found Postfix (λ _. ends_level 0) (drop at tokens) x.0 (drop x.1 tokens) × (depth x.0 ≤ 200) × (x.1 < length tokens)
ParsesPostfix tokens at (Err e) = FailsWithin Postfix depth (ends_level 0) 200 (drop at tokens) e

-- Arguments and their `)` stand at the place, and they are at most 200 deep. The second place is the one behind. Else
-- the first token with which no such arguments go on.
abbrev pub ParsesArgs : Tokens → ℕ → Result (List Expr × ℕ) ParseFault → Type 0
ParsesArgs tokens at (Ok x) = Found Args (λ _. ends_primary) (drop at tokens) x.0 (drop x.1 tokens) × (depth_of_all x.0 ≤ 200) × (x.1 < length tokens)
ParsesArgs tokens at (Err e) = FailsWithin Args depth_of_all ends_primary 200 (drop at tokens) e

-- A guard stands at the place, with nothing else to be read there, and it is at most 200 deep. The second place is the
-- one behind it. Else the first token with which no such guard goes on.
abbrev pub ParsesGuard : Tokens → ℕ → Result (GuardExpr × ℕ) ParseFault → Type 0
ParsesGuard tokens at (Ok x) = Found Guard (λ _. ends_guard) (drop at tokens) x.0 (drop x.1 tokens) × (guard_depth x.0 ≤ 200) × (x.1 < length tokens)
ParsesGuard tokens at (Err e) = FailsWithin Guard guard_depth ends_guard 200 (drop at tokens) e
