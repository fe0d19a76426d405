-- The tokens that a statement is printed as.
use Rattle.std.specs.Prelude.{ℕ, Bool, true, false, if◌then◌else◌, List, [], ◌∷◌, ◌++◌, flat_map, Option, Some, None, codes}
use Rattle.jp_ast.specs.declared.token.Lexeme.{Lexeme}
use Rattle.jp_ast.specs.declared.token.Lexeme.TheVariants.{Word, Sign}
use Rattle.jp_ast.specs.declared.expr.Expr.{Expr}
use Rattle.jp_ast.specs.declared.stmt.Stmt.{Stmt, fold-Stmt}
use Rattle.jp_ast.specs.declared.stmt.StmtKind.{StmtKind-F}
use Rattle.jp_ast.specs.declared.stmt.StmtKind.TheOpen as stmt_kind
use Rattle.jp_ast.specs.declared.sign.TheConstants as sign
use Rattle.jp_print.specs.Expressions.{in_parens, maybe, type_tokens, expr_tokens, operand_tokens}

-- a statement as it is printed: its tokens in front of the `;` with which it may end, and whether it ends with one
pub record PrintedStmt : Type 0 where
  pub inner : List Lexeme
  pub is_ended : Bool

-- what ends with a `;`
abbrev pub ended : List Lexeme → PrintedStmt
ended tokens = record { inner = tokens; is_ended = true }

-- what ends with its last part
abbrev pub unended : List Lexeme → PrintedStmt
unended tokens = record { inner = tokens; is_ended = false }

-- the tokens of the statement
abbrev pub whole : PrintedStmt → List Lexeme
whole s = if s.is_ended then s.inner ++ Sign sign.SEMICOLON ∷ [] else s.inner

-- tokens in braces
abbrev pub in_braces : List Lexeme → List Lexeme
in_braces tokens = Sign sign.OPEN_BRACE ∷ tokens ++ Sign sign.CLOSE_BRACE ∷ []

-- statements one behind the other
abbrev pub all_tokens : List PrintedStmt → List Lexeme
all_tokens block = flat_map whole block

-- statements in braces
abbrev pub block_tokens : List PrintedStmt → List Lexeme
block_tokens block = in_braces (all_tokens block)

-- `=` and the value that a local begins with
abbrev pub initial_value : Expr → List Lexeme
initial_value value = Sign sign.ASSIGN ∷ expr_tokens value

-- a condition in parentheses
abbrev pub condition : Expr → List Lexeme
condition test = in_parens (expr_tokens test)

-- `else` and the branch behind it
abbrev pub else_branch : PrintedStmt → List Lexeme
else_branch second = Word (codes "else") ∷ whole second

-- `for`, `(`, and what is done first
abbrev pub for_init : Option PrintedStmt → List Lexeme
for_init init = Word (codes "for") ∷ Sign sign.OPEN_PAREN ∷ maybe (λ i. i.inner) init

-- `;`, and the condition of a `for`
abbrev pub for_test : Option Expr → List Lexeme
for_test test = Sign sign.SEMICOLON ∷ maybe expr_tokens test

-- `;`, what is done behind each turn, and `)`
abbrev pub for_change : Option PrintedStmt → List Lexeme
for_change change = Sign sign.SEMICOLON ∷ maybe (λ c. c.inner) change ++ Sign sign.CLOSE_PAREN ∷ []

-- `++` or `--`
abbrev pub bump_sign : Bool → Lexeme
bump_sign up = Sign (if up then sign.INCREMENT else sign.DECREMENT)

-- each form of a statement, over what its statements are printed as
abbrev pub stmt_step : StmtKind-F PrintedStmt PrintedStmt → PrintedStmt
stmt_step (stmt_kind.Block block) = unended (block_tokens block)
stmt_step stmt_kind.Empty = ended []
stmt_step (stmt_kind.Local ty name value) = ended (type_tokens ty ++ Word name ∷ maybe initial_value value)
stmt_step (stmt_kind.If test first second) = unended (Word (codes "if") ∷ condition test ++ whole first ++ maybe else_branch second)
stmt_step (stmt_kind.While test body) = unended (Word (codes "while") ∷ condition test ++ whole body)
stmt_step (stmt_kind.For init test change body) = unended (for_init init ++ for_test test ++ for_change change ++ whole body)
stmt_step stmt_kind.Break = ended (Word (codes "break") ∷ [])
stmt_step stmt_kind.Continue = ended (Word (codes "continue") ∷ [])
stmt_step (stmt_kind.Return value) = ended (Word (codes "return") ∷ maybe expr_tokens value)
stmt_step (stmt_kind.Assign left sign right) = ended (operand_tokens left ++ Sign sign ∷ expr_tokens right)
stmt_step (stmt_kind.Bump left up) = ended (operand_tokens left ++ bump_sign up ∷ [])
stmt_step (stmt_kind.Run value) = ended (operand_tokens value)

-- a statement as it is printed
unfoldable pub printed_stmt : Stmt → PrintedStmt
printed_stmt = fold-Stmt PrintedStmt PrintedStmt stmt_step (λ s. s.kind)
