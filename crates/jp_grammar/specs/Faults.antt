-- What the parser of units answers: the unit that the grammar gives, or the first token with which it gives none.
use Rattle.std.specs.Prelude.{◌≡◌, ℕ, ◌+◌, ◌≤◌, max, List, [], ◌∷◌, ◌++◌, Option, Some, None, Result, Ok, Err, map}
use Rattle.jp_ast.specs.declared.token.Token.{Token}
use Rattle.jp_ast.specs.declared.token.Lexeme.TheVariants as lexeme
use Rattle.jp_ast.specs.declared.stmt.Stmt.{Stmt}
use Rattle.jp_ast.specs.declared.guard.GuardExpr.{GuardExpr}
use Rattle.jp_ast.specs.declared.expr.Expr.{Expr}
use Rattle.jp_ast.specs.declared.decl.SourceUnit.{SourceUnit}
use Rattle.jp_ast.specs.declared.decl.Decl.{Decl}
use Rattle.jp_ast.specs.declared.decl.Member.{Member}
use Rattle.jp_ast.specs.declared.decl.MemberPart.{MemberPart}
use Rattle.jp_ast.specs.declared.decl.MemberPart.TheVariants as part
use Rattle.jp_grammar.specs.declared.kind.Kind.TheVariants as k
use Rattle.jp_grammar.specs.declared.fault.ParseFault.{ParseFault}
use Rattle.jp_grammar.specs.declared.fault.ParseFault.TheVariants.{Unexpected, Outside, TooDeep, OutOfMemory}
use Rattle.jp_grammar.specs.Kinds.{Tokens, kind_of_token}
use Rattle.jp_grammar.specs.Depth.{greatest, depth_of_all, stmt_depth, deepest, guard_depth}
use Rattle.jp_grammar.specs.Declarations.{Whole}

-- the depth of the deepest of a statement's trees: its own, and those of its expressions
abbrev pub deepest_of_stmt : Stmt → ℕ
deepest_of_stmt s = max (stmt_depth s) (deepest s)

-- the depth of the deepest of some statements' trees
abbrev pub deepest_of_block : List Stmt → ℕ
deepest_of_block block = greatest (map deepest_of_stmt block)

-- the depth of a guard, or 0 where there is none
abbrev pub deepest_of_guard : Option GuardExpr → ℕ
deepest_of_guard None = 0
deepest_of_guard (Some g) = guard_depth g

-- the depth of the deepest of some arguments, or 0 where there are none
abbrev pub deepest_of_args : Option (List Expr) → ℕ
deepest_of_args None = 0
deepest_of_args (Some args) = depth_of_all args

-- the depth of the deepest tree in a member's part
abbrev pub deepest_of_part : MemberPart → ℕ
deepest_of_part (part.Field ty static) = 0
deepest_of_part (part.Static result block) = deepest_of_block block
deepest_of_part (part.Abstract result) = 0
deepest_of_part (part.Body result guard block) = max (deepest_of_guard guard) (deepest_of_block block)
deepest_of_part (part.Constructor args block) = max (deepest_of_args args) (deepest_of_block block)

-- the depth of the deepest tree in a member
abbrev pub deepest_of_member : Member → ℕ
deepest_of_member m = deepest_of_part m.part

-- the depth of the deepest tree in a declaration
abbrev pub deepest_of_decl : Decl → ℕ
deepest_of_decl d = greatest (map deepest_of_member d.members)

-- the depth of the deepest tree in a unit: each guard, each statement outside another and each expression outside
-- another is a tree
abbrev pub deepest_of_unit : SourceUnit → ℕ
deepest_of_unit u = greatest (map deepest_of_decl u.decls)

-- the tokens are the unit, and no tree in it is more than 200 deep
pub record Parsed (xs : Tokens) (u : SourceUnit) : Type 0 where
  pub whole : Whole xs u
  pub small : deepest_of_unit u ≤ 200

-- At the next token, behind the front, is the first one with which nothing goes on to a unit.
pub record IsFirstFault (xs front : Tokens) (next : Token) : Type 0 where
  pub more : Tokens
  pub split : xs ≡ front ++ next ∷ more
  pub viable : (more' : Tokens) × (u : SourceUnit) × Parsed (front ++ more') u
  pub never : (more' : Tokens) (u : SourceUnit) → Parsed (front ++ next ∷ more') u → ⊥

-- no unit goes on with the next token, however deep
abbrev pub IsNowhere : Tokens → Token → Type 0
IsNowhere front next = (more : Tokens) (u : SourceUnit) → Whole (front ++ next ∷ more) u → ⊥

-- a unit with a deeper tree goes on with the next token
abbrev pub IsDeeper : Tokens → Token → Type 0
IsDeeper front next = (more : Tokens) × (u : SourceUnit) × Whole (front ++ next ∷ more) u

-- what the fault says of the first token with which nothing goes on
abbrev pub Says : ParseFault → Tokens → Token → Type 0
Says (Unexpected place) front next = (place ≡ next.place) × IsNowhere front next × (kind_of_token next ≡ k.Outside → ⊥)
Says (Outside place word) front next = (place ≡ next.place) × IsNowhere front next × (kind_of_token next ≡ k.Outside) × (next.lexeme ≡ lexeme.Word word)
Says (TooDeep place) front next = (place ≡ next.place) × IsDeeper front next
Says OutOfMemory front next = ⊥

-- the fault, at the first token with which nothing goes on to a unit; nothing is said where memory is wanting
abbrev pub IsFault : Tokens → ParseFault → Type 0
IsFault xs OutOfMemory = Unit {0}
IsFault xs e = (front : Tokens) × (next : Token) × IsFirstFault xs front next × Says e front next

-- the unit, and it alone, or the fault
abbrev pub Parses : Tokens → Result SourceUnit ParseFault → Type 0
Parses xs (Ok u) = Parsed xs u × ((v : SourceUnit) → Parsed xs v → v ≡ u)
Parses xs (Err e) = IsFault xs e
