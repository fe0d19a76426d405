-- What the public functions answer.
use Rattle.std.specs.Prelude.{ℕ, ◌<◌, ◌≤◌, List, [], length, drop, Result, Ok, Err}
use Rattle.jp_pred.specs.declared.ty.Ty.{Ty}
use Rattle.jp_ast.specs.declared.stmt.Stmt.{Stmt}
use Rattle.jp_grammar.specs.declared.fault.ParseFault.{ParseFault}
use Rattle.jp_grammar.specs.Kinds.{Tokens}
use Rattle.jp_grammar.specs.Statements.{OneType, Change, Block}
use Rattle.jp_grammar.specs.Faults.{deepest_of_block}
use Rattle.jp_grammar.specs.Reading.{Any, Found, Fails, FailsWithin}
use Rattle.jp_parse_stmt.specs.Behind.{anything, ends_type, ends_change}
use Rattle.jp_parse_stmt.specs.Parts.{Shallow}

-- A type stands at the place, with nothing else to be read there. The second place is the one behind it. Else the first
-- token with which no type goes on.
abbrev pub ParsesType : Tokens → ℕ → Result (Ty × ℕ) ParseFault → Type 0
ParsesType tokens at (Ok x) = Found OneType (λ _. ends_type) (drop at tokens) x.0 (drop x.1 tokens) × (x.1 < length tokens)
ParsesType tokens at (Err e) = Fails OneType (λ _. ends_type) ends_type Any (drop at tokens) e

-- A change stands at the place, with nothing else to be read there, and its expressions are at most 200 deep. The second
-- place is the one behind it. Else the first token with which no such change goes on.
abbrev pub ParsesChange : Tokens → ℕ → Result (Stmt × ℕ) ParseFault → Type 0
ParsesChange tokens at (Ok x) = Found Change (λ _. ends_change) (drop at tokens) x.0 (drop x.1 tokens) × Shallow x.0 × (x.1 < length tokens)
ParsesChange tokens at (Err e) = Fails Change (λ _. ends_change) ends_change Shallow (drop at tokens) e

-- Statements and `}` stand at the place, with nothing else to be read there, and no tree in them is more than 200 deep.
-- The second place is the one behind them. Else the first token with which no such statements go on.
abbrev pub ParsesBlock : Tokens → ℕ → Result (List Stmt × ℕ) ParseFault → Type 0
ParsesBlock tokens at (Ok x) = Found (Block []) (λ _. anything) (drop at tokens) x.0 (drop x.1 tokens) × (deepest_of_block x.0 ≤ 200) × (x.1 < length tokens)
ParsesBlock tokens at (Err e) = FailsWithin (Block []) deepest_of_block anything 200 (drop at tokens) e
