-- Statements with whether they end in an `if` that has no `else`, and what the functions that read them answer.
use Rattle.std.specs.Prelude.{◌≡◌, ℕ, ◌≤◌, Bool, true, false, not, ◌&&◌, ◌||◌, ◌==◌, List, [], ◌∷◌, map, Option, Result, Ok, Err, ◌⊎◌}
use Rattle.std.specs.Borrow.{Bor}
use Rattle.jp_ast.specs.declared.token.Place.{Place}
use Rattle.jp_ast.specs.declared.token.Token.{Token}
use Rattle.jp_ast.specs.declared.expr.Expr.{Expr}
use Rattle.jp_ast.specs.declared.stmt.Stmt.{Stmt}
use Rattle.jp_ast.specs.declared.stmt.StmtKind.{StmtKind}
use Rattle.jp_ast.specs.declared.stmt.StmtKind.TheVariants as made
use Rattle.jp_ast.specs.declared.sign.TheConstants as sign
use Rattle.jp_grammar.specs.declared.kind.Kind.{Kind}
use Rattle.jp_grammar.specs.declared.kind.Kind.TheVariants as k
use Rattle.jp_grammar.specs.declared.fault.ParseFault.{ParseFault}
use Rattle.jp_grammar.specs.Kinds.{IsSign, Tokens, kind_of_token}
use Rattle.jp_grammar.specs.Depth.{depth, greatest, stmt_depth, deepest}
use Rattle.jp_grammar.specs.Expressions.{Expression}
use Rattle.jp_grammar.specs.Statements.{Change, Init, Test, Statement, Else, Block}
use Rattle.jp_grammar.specs.Reading.{Reads, Ends, Found, Fails}
use Rattle.jp_parse_stmt.specs.Behind.{anything}
use Rattle.jp_parse_stmt.specs.Locals.{Simple}
use Rattle.jp_parse_stmt.specs.Parts.{Each, MaybeShut, stmt_at}

-- the word `else`
abbrev pub is_else : Kind → Bool
is_else k.Else = true
is_else _ = false

-- the token may stand behind a statement, with whether it ends in an `if` that has no `else`: then `else` may not
abbrev pub ends_stmt : Stmt × Bool → Token → Bool
ends_stmt x s = not (x.1 && is_else (kind_of_token s))

-- a statement, with whether it ends in an `if` that has no `else`
abbrev pub OneStmt : Reads (Stmt × Bool)
OneStmt xs x zs = Statement xs x.0 x.1 zs

-- the statement is at most so deep, and its expressions at most 200
abbrev pub Small : ℕ → Stmt × Bool → Type 0
Small most x = (stmt_depth x.0 ≤ most) × (deepest x.0 ≤ 200)

-- the statements are at most so deep, and their expressions at most 200
abbrev pub SmallAll : ℕ → List Stmt → Type 0
SmallAll most ts = (greatest (map stmt_depth ts) ≤ most) × (greatest (map deepest ts) ≤ 200)

-- what a function answers that reads a statement: it and the tokens behind it, or the fault
abbrev pub Formed : Reads (Stmt × Bool) → ℕ → Tokens → Result (Stmt × Bor Tokens) ParseFault → Type 0
Formed R most xs (Ok x) = (short : Bool) × Found R ends_stmt xs (x.0, short) x.1.now × Small most (x.0, short) × Ends (ends_stmt (x.0, short)) x.1.now
Formed R most xs (Err e) = Fails R ends_stmt anything (Small most) xs e

-- a statement begins with it
abbrev pub begins_stmt : Kind → Bool
begins_stmt (k.Sign b) = b == sign.OPEN_BRACE || b == sign.SEMICOLON || b == sign.OPEN_PAREN
begins_stmt k.If = true
begins_stmt k.While = true
begins_stmt k.For = true
begins_stmt k.Break = true
begins_stmt k.Continue = true
begins_stmt k.Return = true
begins_stmt k.Int = true
begins_stmt k.Boolean = true
begins_stmt k.Name = true
begins_stmt k.Number = true
begins_stmt k.Text = true
begins_stmt k.True = true
begins_stmt k.False = true
begins_stmt k.Null = true
begins_stmt k.This = true
begins_stmt k.Super = true
begins_stmt k.New = true
begins_stmt _ = false

-- ";", and a statement that it ends
abbrev pub Ended : Place → StmtKind → Reads (Stmt × Bool)
Ended at kind xs x zs = (p : Token) × (xs ≡ p ∷ zs) × IsSign sign.SEMICOLON p × (x.0 ≡ stmt_at at kind) × (x.1 ≡ false)

-- [expr] ";", behind `return`
abbrev pub Returned : Place → Reads (Stmt × Bool)
Returned at xs x zs = (e : Option Expr) × MaybeShut sign.SEMICOLON Expression xs e zs × (x.0 ≡ stmt_at at (made.Return e)) × (x.1 ≡ false)

-- {stmt} "}", behind `{`
abbrev pub Braced : Place → Reads (Stmt × Bool)
Braced at xs x zs = (ts : List Stmt) × Block [] xs ts zs × (x.0 ≡ stmt_at at (made.Block ts)) × (x.1 ≡ false)

-- a statement, and f of it
abbrev pub Bodied : (Stmt → Stmt) → Reads (Stmt × Bool)
Bodied f xs x zs = (a : Stmt) × Statement xs a x.1 zs × (x.0 ≡ f a)

-- "(" expr ")" stmt, behind `while`
abbrev pub Whiled : Place → Reads (Stmt × Bool)
Whiled at xs x zs = (e : Expr) × (ys : Tokens) × Test xs e ys × Bodied (λ a. stmt_at at (made.While e a)) ys x zs

-- ["else" stmt], behind a test and a first statement
abbrev pub ElseOf : Place → Expr → Stmt × Bool → Reads (Stmt × Bool)
ElseOf at e a xs x zs = Else at e a.0 a.1 xs x.0 x.1 zs

-- stmt ["else" stmt], behind a test
abbrev pub Branched : Place → Expr → Reads (Stmt × Bool)
Branched at e xs x zs = (a : Stmt × Bool) × (ys : Tokens) × OneStmt xs a ys × ElseOf at e a ys x zs

-- "(" expr ")" stmt ["else" stmt], behind `if`
abbrev pub Tested : Place → Reads (Stmt × Bool)
Tested at xs x zs = (e : Expr) × (ys : Tokens) × Test xs e ys × Branched at e ys x zs

-- what stands in the parentheses of a `for`
abbrev pub Turns : Type 0
Turns = Option Stmt × Option Expr × Option Stmt

-- [change] ")", behind what stands before it
abbrev pub LastTurn : Option Stmt → Option Expr → Reads Turns
LastTurn i e xs h zs = (c : Option Stmt) × MaybeShut sign.CLOSE_PAREN Change xs c zs × (h ≡ (i, e, c))

-- [expr] ";" [change] ")", behind what stands before it
abbrev pub LaterTurns : Option Stmt → Reads Turns
LaterTurns i xs h zs = (e : Option Expr) × (ys : Tokens) × MaybeShut sign.SEMICOLON Expression xs e ys × LastTurn i e ys h zs

-- [init] ";" [expr] ";" [change] ")"
abbrev pub AllTurns : Reads Turns
AllTurns xs h zs = (i : Option Stmt) × (ys : Tokens) × MaybeShut sign.SEMICOLON Init xs i ys × LaterTurns i ys h zs

-- "(" [init] ";" [expr] ";" [change] ")"
pub data OpenTurns : Tokens → Turns → Tokens → Type 0 where
  open_turns : {o : Token} {xs zs : Tokens} {h : Turns} → IsSign sign.OPEN_PAREN o → AllTurns xs h zs → OpenTurns (o ∷ xs) h zs

-- the loop with these parts
abbrev pub loop_at : Place → Turns → Stmt → Stmt
loop_at at h a = stmt_at at (made.For h.0 h.1 h.2 a)

-- "(" [init] ";" [expr] ";" [change] ")" stmt, behind `for`
abbrev pub Looped : Place → Reads (Stmt × Bool)
Looped at xs x zs = (h : Turns) × (ys : Tokens) × OpenTurns xs h ys × Bodied (loop_at at h) ys x zs

-- a statement without statements in it, with expressions at most 200 deep
abbrev pub Flat : Stmt → Type 0
Flat t = (stmt_depth t ≤ 1) × (deepest t ≤ 200)

-- the parts have expressions at most 200 deep
abbrev pub SmallTurns : Turns → Type 0
SmallTurns h = Each Flat h.0 × Each (λ e. depth e ≤ 200) h.1 × Each Flat h.2

-- a statement behind its first token, by the kind of that
abbrev pub Form : Kind → Token → Reads (Stmt × Bool)
Form k.If s xs x zs = Tested s.place xs x zs
Form k.While s xs x zs = Whiled s.place xs x zs
Form k.For s xs x zs = Looped s.place xs x zs
Form k.Break s xs x zs = Ended s.place made.Break xs x zs
Form k.Continue s xs x zs = Ended s.place made.Continue xs x zs
Form k.Return s xs x zs = Returned s.place xs x zs
Form (k.Sign b) s xs x zs = ((b ≡ sign.OPEN_BRACE) × Braced s.place xs x zs) ⊎ (((b ≡ sign.SEMICOLON) × (x.0 ≡ stmt_at s.place made.Empty) × (x.1 ≡ false) × (zs ≡ xs)) ⊎ (Simple (s ∷ xs) x.0 zs × (x.1 ≡ false)))
Form kind s xs x zs = Simple (s ∷ xs) x.0 zs × (x.1 ≡ false)

-- what a function answers that reads what stands behind the first statement of an `if`, whether or not that ends in an
-- `if` that has no `else`
abbrev pub Elsed : Place → Expr → Stmt → ℕ → Tokens → Result (Stmt × Bor Tokens) ParseFault → Type 0
Elsed at e a most xs r = (inner : Bool) → Ends (ends_stmt (a, inner)) xs → Formed (ElseOf at e (a, inner)) most xs r

-- the tokens begin with this sign
abbrev pub BeginsWith : ℕ → Tokens → Type 0
BeginsWith n [] = ⊥
BeginsWith n (s ∷ xs) = IsSign n s

-- `break` and `continue`
abbrev pub IsEnding : StmtKind → Type 0
IsEnding kind = (kind ≡ made.Break) ⊎ (kind ≡ made.Continue)
