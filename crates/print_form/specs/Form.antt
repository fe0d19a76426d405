-- The programs that can be run so far: a unit of one class whose `main` prints whole numbers one after the other. It is
-- said of the unit's tree, and nothing is said of places.
use Rattle.std.specs.Prelude.{◌≡◌, ℕ, ◌≤◌, ℤ, pos, neg_ℤ, true, false, if◌then◌else◌, List, [], ◌∷◌, length, Option, Some, None, codes, Contains}
use Rattle.std.specs.Int.{w32, int_wrap}
use Rattle.jp_pred.specs.declared.ty.Ty.TheVariants as ty
use Rattle.jp_ast.specs.declared.expr.Expr.{Expr}
use Rattle.jp_ast.specs.declared.expr.ExprKind.TheVariants as expr
use Rattle.jp_ast.specs.declared.stmt.Stmt.{Stmt}
use Rattle.jp_ast.specs.declared.stmt.StmtKind.TheVariants as stmt
use Rattle.jp_ast.specs.declared.decl.SourceUnit.{SourceUnit}
use Rattle.jp_ast.specs.declared.decl.Decl.{Decl}
use Rattle.jp_ast.specs.declared.decl.Member.{Member}
use Rattle.jp_ast.specs.declared.decl.MemberPart.TheVariants as part
use Rattle.jp_ast.specs.declared.sign.TheConstants as sign
use Rattle.print_form.specs.declared.literal.Literal.{Literal}

-- the greatest value of a literal's digits: a decimal number fits 32 bits with its sign, a hexadecimal one has 32 bits
abbrev pub most : Literal → ℕ
most literal = if literal.hex then 4294967295 else (if literal.negative then 2147483648 else 2147483647)

-- the number of 32 bits that a literal means
abbrev pub value_of : Literal → ℤ
value_of literal = int_wrap w32 (if literal.negative then neg_ℤ (pos literal.size) else pos literal.size)

-- `NUMBER`, with the literal's digits
abbrev pub IsNumber : Literal → Expr → Type 0
IsNumber literal e = e.kind ≡ expr.Number literal.size literal.hex

-- `NUMBER`, or `-NUMBER` where the literal is negative
pub data IsWritten (literal : Literal) (e : Expr) : Type 0 where
  plain : literal.negative ≡ false → IsNumber literal e → IsWritten literal e
  minus : literal.negative ≡ true → (inner : Expr) → e.kind ≡ expr.Unary sign.MINUS inner → IsNumber literal inner → IsWritten literal e

-- the same, with digits of no greater value than they may have
pub record IsLiteral (literal : Literal) (e : Expr) : Type 0 where
  pub written : IsWritten literal e
  pub fits : literal.size ≤ most literal

-- what is called on is the name `Io`
abbrev pub IsIo : Option Expr → Type 0
IsIo None = ⊥
IsIo (Some object) = object.kind ≡ expr.Var (codes "Io")

-- `Io.print(LITERAL)`
pub record IsCall (literal : Literal) (e : Expr) : Type 0 where
  pub object : Option Expr
  pub argument : Expr
  pub calls : e.kind ≡ expr.Call object (codes "print") (argument ∷ [])
  pub on_io : IsIo object
  pub argument_is : IsLiteral literal argument

-- `Io.print(LITERAL);`
pub record IsPrint (literal : Literal) (s : Stmt) : Type 0 where
  pub call : Expr
  pub runs : s.kind ≡ stmt.Run call
  pub prints : IsCall literal call

-- the statements print these literals, one after the other
abbrev pub PrintEach : List Literal → List Stmt → Type 0
PrintEach [] [] = Unit {0}
PrintEach [] (s ∷ block) = ⊥
PrintEach (literal ∷ literals) [] = ⊥
PrintEach (literal ∷ literals) (s ∷ block) = IsPrint literal s × PrintEach literals block

-- at most 200 statements that print these literals
pub record IsBlock (literals : List Literal) (block : List Stmt) : Type 0 where
  pub prints : PrintEach literals block
  pub few : length block ≤ 200

-- `static void main(..) BLOCK`
pub record IsMethod (block : List Stmt) (m : Member) : Type 0 where
  pub named : m.name ≡ codes "main"
  pub seen : m.is_private ≡ false
  pub made : m.part ≡ part.Static ty.Void block

-- `static void main() {..}`, whose statements print these literals
pub record IsMain (literals : List Literal) (m : Member) : Type 0 where
  pub block : List Stmt
  pub method : IsMethod block m
  pub no_params : m.params ≡ []
  pub prints : IsBlock literals block

-- the classes that the language brings along, which no unit declares
abbrev pub library_classes : List (List ℕ)
library_classes = codes "Object" ∷ codes "Io" ∷ codes "String" ∷ []

-- `class MAIN {..}`, without modifiers and supertypes, where the name isn't one of the library
pub record IsPlain (main : List ℕ) (d : Decl) : Type 0 where
  pub named : d.name ≡ main
  pub free : ¬ Contains library_classes main
  pub no_interface : d.is_interface ≡ false
  pub no_abstract : d.is_abstract ≡ false
  pub no_final : d.is_final ≡ false
  pub no_superclass : d.superclass ≡ None
  pub no_interfaces : d.interfaces ≡ []

-- `class MAIN { static void main() {..} }`, whose `main` prints these literals
pub record IsClass (main : List ℕ) (literals : List Literal) (d : Decl) : Type 0 where
  pub plain : IsPlain main d
  pub method : Member
  pub members : d.members ≡ method ∷ []
  pub prints : IsMain literals method

-- The unit is the program of the class with this name that prints these literals.
pub record IsProgram (main : List ℕ) (literals : List Literal) (unit : SourceUnit) : Type 0 where
  pub class : Decl
  pub decls : unit.decls ≡ class ∷ []
  pub prints : IsClass main literals class
