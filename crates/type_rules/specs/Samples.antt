-- Trees of samples, written so that they can be computed with. Each node stands at a column of line 1.
use Rattle.std.specs.Prelude.{ℕ, List, [], ◌∷◌, Bool, true, false, Option, Some, None, map}
use Rattle.std.specs.Option.{option_map}
use Rattle.jp_pred.specs.declared.ty.Ty.{Ty}
use Rattle.jp_pred.specs.Names.{Word}
use Rattle.jp_ast.specs.declared.token.Place.{Place}
use Rattle.jp_ast.specs.declared.expr.Expr.{Expr}
use Rattle.jp_ast.specs.declared.expr.ExprKind.{ExprKind}
use Rattle.jp_ast.specs.declared.expr.ExprKind.TheVariants as form
use Rattle.jp_ast.specs.declared.stmt.Stmt.{Stmt}
use Rattle.jp_ast.specs.declared.stmt.StmtKind.{StmtKind}
use Rattle.jp_ast.specs.declared.stmt.StmtKind.TheVariants as run
use Rattle.jp_ast.specs.declared.guard.PathText.{PathText}
use Rattle.jp_ast.specs.declared.guard.Summand.{Summand}
use Rattle.jp_ast.specs.declared.guard.GuardExpr.{GuardExpr}
use Rattle.jp_ast.specs.declared.guard.GuardKind.{GuardKind}
use Rattle.jp_ast.specs.declared.guard.GuardKind.TheVariants as test
use Rattle.jp_ast.specs.declared.decl.Param.{Param}
use Rattle.jp_ast.specs.declared.decl.Member.{Member}
use Rattle.jp_ast.specs.declared.decl.MemberPart.{MemberPart}
use Rattle.jp_ast.specs.declared.decl.MemberPart.TheVariants as part
use Rattle.jp_ast.specs.declared.decl.Decl.{Decl}
use Rattle.jp_ast.specs.declared.decl.SourceUnit.{SourceUnit}

abbrev pub at : ℕ → Place
at col = record { line = 1; col = col }

-- EXPRESSIONS

mutual
  pub data Tree : Type 0 where
    number : ℕ → ℕ → Bool → Tree
    truth : ℕ → Bool → Tree
    null : ℕ → Tree
    text : ℕ → Word → Tree
    this : ℕ → Tree
    name : ℕ → Word → Tree
    sign : ℕ → ℕ → Tree → Tree
    binary : ℕ → ℕ → Tree → Tree → Tree
    choice : ℕ → Tree → Tree → Tree → Tree
    cast : ℕ → Word → Tree → Tree
    instance : ℕ → Tree → Word → Tree
    field : ℕ → Tree → Word → Tree
    element : ℕ → Tree → Tree → Tree
    call : ℕ → Word → Trees → Tree
    call_on : ℕ → Tree → Word → Trees → Tree
    call_super : ℕ → Word → Trees → Tree
    make : ℕ → Word → Trees → Tree
    make_array : ℕ → Ty → Tree → Tree

  pub data Trees : Type 0 where
    end : Trees
    then : Tree → Trees → Trees

abbrev pub expr_at : ℕ → ExprKind → Expr
expr_at col kind = record { place = at col; kind = kind }

abbrev mutual
  pub expr : Tree → Expr
  expr (number p n hex) = expr_at p (form.Number n hex)
  expr (truth p value) = expr_at p (form.Truth value)
  expr (null p) = expr_at p form.Null
  expr (text p t) = expr_at p (form.Text t)
  expr (this p) = expr_at p form.This
  expr (name p n) = expr_at p (form.Var n)
  expr (sign p n x) = expr_at p (form.Unary n (expr x))
  expr (binary p n x y) = expr_at p (form.Binary n (expr x) (expr y))
  expr (choice p x y z) = expr_at p (form.Cond (expr x) (expr y) (expr z))
  expr (cast p c x) = expr_at p (form.Cast c (expr x))
  expr (instance p x c) = expr_at p (form.InstanceOf (expr x) c)
  expr (field p x n) = expr_at p (form.Field (expr x) n)
  expr (element p x y) = expr_at p (form.Index (expr x) (expr y))
  expr (call p n xs) = expr_at p (form.Call None n (exprs xs))
  expr (call_on p x n xs) = expr_at p (form.Call (Some (expr x)) n (exprs xs))
  expr (call_super p n xs) = expr_at p (form.SuperCall n (exprs xs))
  expr (make p c xs) = expr_at p (form.New c (exprs xs))
  expr (make_array p t x) = expr_at p (form.NewArray t (expr x))

  pub exprs : Trees → List Expr
  exprs end = []
  exprs (then x xs) = expr x ∷ exprs xs

-- STATEMENTS

mutual
  pub data Line : Type 0 where
    block : ℕ → Lines → Line
    nothing : ℕ → Line
    local : ℕ → Ty → Word → Option Tree → Line
    when : ℕ → Tree → Line → Line
    when_else : ℕ → Tree → Line → Line → Line
    while : ℕ → Tree → Line → Line
    for_ever : ℕ → Line → Line
    for : ℕ → Line → Tree → Line → Line → Line
    break : ℕ → Line
    continue : ℕ → Line
    return : ℕ → Option Tree → Line
    assign : ℕ → Tree → ℕ → Tree → Line
    bump : ℕ → Tree → Bool → Line
    alone : ℕ → Tree → Line

  pub data Lines : Type 0 where
    done : Lines
    go : Line → Lines → Lines

abbrev pub stmt_at : ℕ → StmtKind → Stmt
stmt_at col kind = record { place = at col; kind = kind }

abbrev mutual
  pub stmt : Line → Stmt
  stmt (block p xs) = stmt_at p (run.Block (stmts xs))
  stmt (nothing p) = stmt_at p run.Empty
  stmt (local p t n x) = stmt_at p (run.Local t n (option_map expr x))
  stmt (when p x a) = stmt_at p (run.If (expr x) (stmt a) None)
  stmt (when_else p x a b) = stmt_at p (run.If (expr x) (stmt a) (Some (stmt b)))
  stmt (while p x a) = stmt_at p (run.While (expr x) (stmt a))
  stmt (for_ever p a) = stmt_at p (run.For None None None (stmt a))
  stmt (for p i x c a) = stmt_at p (run.For (Some (stmt i)) (Some (expr x)) (Some (stmt c)) (stmt a))
  stmt (break p) = stmt_at p run.Break
  stmt (continue p) = stmt_at p run.Continue
  stmt (return p x) = stmt_at p (run.Return (option_map expr x))
  stmt (assign p x n y) = stmt_at p (run.Assign (expr x) n (expr y))
  stmt (bump p x up) = stmt_at p (run.Bump (expr x) up)
  stmt (alone p x) = stmt_at p (run.Run (expr x))

  pub stmts : Lines → List Stmt
  stmts done = []
  stmts (go x xs) = stmt x ∷ stmts xs

-- GUARDS

pub data Test : Type 0 where
  given : ℕ → Bool → Test
  not' : ℕ → Test → Test
  and' : ℕ → Test → Test → Test
  or' : ℕ → Test → Test → Test
  is : ℕ → PathText → Word → Option Word → Test
  alias : ℕ → PathText → Word → Test
  null_test : ℕ → PathText → Bool → Test
  flag : ℕ → PathText → Test
  compare : ℕ → List Summand → ℕ → List Summand → Test

abbrev pub guard_at : ℕ → GuardKind → GuardExpr
guard_at col kind = record { place = at col; kind = kind }

abbrev pub guard : Test → GuardExpr
guard (given p value) = guard_at p (test.Truth value)
guard (not' p x) = guard_at p (test.Not (guard x))
guard (and' p x y) = guard_at p (test.And (guard x) (guard y))
guard (or' p x y) = guard_at p (test.Or (guard x) (guard y))
guard (is p path c n) = guard_at p (test.Is path c n)
guard (alias p path n) = guard_at p (test.Alias path n)
guard (null_test p path equal) = guard_at p (test.NullTest path equal)
guard (flag p path) = guard_at p (test.Flag path)
guard (compare p xs n ys) = guard_at p (test.Compare xs n ys)

-- a path, written as its names
abbrev pub path_text : ℕ → Word → List Word → PathText
path_text p root steps = record { place = at p; root = root; steps = steps }

-- a number, a path, or a number times a path
abbrev pub summand : ℕ → Bool → Option (ℕ × Bool) → Option PathText → Summand
summand p negative factor path = record { place = at p; negative = negative; factor = factor; path = path }

-- UNITS

pub data Body : Type 0 where
  a_field : Ty → Bool → Body
  a_static : Ty → Lines → Body
  an_abstract : Ty → Body
  a_body : Ty → Option Test → Lines → Body
  a_constructor : Option Trees → Lines → Body

abbrev pub part_of : Body → MemberPart
part_of (a_field t static) = part.Field t static
part_of (a_static t xs) = part.Static t (stmts xs)
part_of (an_abstract t) = part.Abstract t
part_of (a_body t g xs) = part.Body t (option_map guard g) (stmts xs)
part_of (a_constructor args xs) = part.Constructor (option_map exprs args) (stmts xs)

pub record Piece : Type 0 where
  pub place : ℕ
  pub is_private : Bool
  pub name : Word
  pub params : List Param
  pub body : Body

abbrev pub member_of : Piece → Member
member_of m = record { place = at m.place; is_private = m.is_private; name = m.name; params = m.params; part = part_of m.body }

-- a public member
abbrev pub piece : ℕ → Word → List Param → Body → Piece
piece p n params body = record { place = p; is_private = false; name = n; params = params; body = body }

abbrev pub param : ℕ → Ty → Word → Param
param p t n = record { place = at p; ty = t; name = n }

-- a class or an interface
pub record Sample : Type 0 where
  pub place : ℕ
  pub name : Word
  pub is_interface : Bool
  pub is_abstract : Bool
  pub is_final : Bool
  pub superclass : Option Word
  pub interfaces : List Word
  pub members : List Piece

abbrev pub decl_of : Sample → Decl
decl_of d = record {
  place = at d.place;
  name = d.name;
  is_interface = d.is_interface;
  is_abstract = d.is_abstract;
  is_final = d.is_final;
  superclass = d.superclass;
  interfaces = d.interfaces;
  members = map member_of d.members;
}

abbrev pub unit : List Sample → SourceUnit
unit ds = record { decls = map decl_of ds }

-- `class NAME { .. }`
abbrev pub class : ℕ → Word → List Piece → Sample
class p n members = record { place = p; name = n; is_interface = false; is_abstract = false; is_final = false; superclass = None; interfaces = []; members = members }

-- `class NAME extends NAME { .. }`
abbrev pub subclass : ℕ → Word → Word → List Piece → Sample
subclass p n up members = record (class p n members) { superclass = Some up }

-- `interface NAME { .. }`
abbrev pub interface : ℕ → Word → List Piece → Sample
interface p n members = record (class p n members) { is_interface = true }
