-- The tokens that members, declarations and units are printed as, and the text of a unit.
use Rattle.std.specs.Prelude.{ℕ, Bool, not, if◌then◌else◌, List, [], ◌∷◌, ◌++◌, map, flat_map, Option, Some, None, codes}
use Rattle.jp_pred.specs.declared.ty.Ty.{Ty}
use Rattle.jp_ast.specs.declared.token.Lexeme.{Lexeme}
use Rattle.jp_ast.specs.declared.token.Lexeme.TheVariants.{Word, Sign}
use Rattle.jp_ast.specs.declared.expr.Expr.{Expr}
use Rattle.jp_ast.specs.declared.stmt.Stmt.{Stmt}
use Rattle.jp_ast.specs.declared.guard.GuardExpr.{GuardExpr}
use Rattle.jp_ast.specs.declared.decl.SourceUnit.{SourceUnit}
use Rattle.jp_ast.specs.declared.decl.Decl.{Decl}
use Rattle.jp_ast.specs.declared.decl.Param.{Param}
use Rattle.jp_ast.specs.declared.decl.Member.{Member}
use Rattle.jp_ast.specs.declared.decl.MemberPart.{MemberPart}
use Rattle.jp_ast.specs.declared.decl.MemberPart.TheVariants as part
use Rattle.jp_ast.specs.declared.sign.TheConstants as sign
use Rattle.jp_print.specs.Layout.{laid_out}
use Rattle.jp_print.specs.Expressions.{in_parens, commas, maybe, type_tokens, arguments, printed_expr}
use Rattle.jp_print.specs.Guards.{guard_tokens}
use Rattle.jp_print.specs.Statements.{in_braces, printed_stmt, all_tokens, block_tokens}

-- the word, where it is to stand there
abbrev pub word_if : Bool → List ℕ → List Lexeme
word_if stands word = if stands then Word word ∷ [] else []

-- a name alone
abbrev pub name_tokens : List ℕ → List Lexeme
name_tokens name = Word name ∷ []

-- the word and the names behind it, or nothing where there are none
abbrev pub word_names : List ℕ → List (List ℕ) → List Lexeme
word_names word [] = []
word_names word (first ∷ others) = Word word ∷ commas (map name_tokens (first ∷ others))

-- a parameter: its type and its name
abbrev pub param_tokens : Param → List Lexeme
param_tokens p = type_tokens p.ty ++ Word p.name ∷ []

-- a name with parameters
abbrev pub named_params : List ℕ → List Param → List Lexeme
named_params name params = Word name ∷ in_parens (commas (map param_tokens params))

-- a method's result, name and parameters
abbrev pub signature : Ty → List ℕ → List Param → List Lexeme
signature result name params = type_tokens result ++ named_params name params

-- `when` and a guard
abbrev pub when_guard : GuardExpr → List Lexeme
when_guard guard = Word (codes "when") ∷ guard_tokens guard

-- `super`, its arguments, and `;`
abbrev pub super_call : List Expr → List Lexeme
super_call args = Word (codes "super") ∷ arguments (map printed_expr args) ++ Sign sign.SEMICOLON ∷ []

-- the part of a member, of an interface or of a class: only a class says `abstract`
abbrev pub part_tokens : Bool → List ℕ → List Param → MemberPart → List Lexeme
part_tokens in_interface name params (part.Field ty static) = word_if static (codes "static") ++ type_tokens ty ++ Word name ∷ Sign sign.SEMICOLON ∷ []
part_tokens in_interface name params (part.Static result block) = Word (codes "static") ∷ signature result name params ++ block_tokens (map printed_stmt block)
part_tokens in_interface name params (part.Abstract result) =
    word_if (not in_interface) (codes "abstract") ++ signature result name params ++ Sign sign.SEMICOLON ∷ []
part_tokens in_interface name params (part.Body result guard block) = signature result name params ++ maybe when_guard guard ++ block_tokens (map printed_stmt block)
part_tokens in_interface name params (part.Constructor args block) =
    named_params name params ++ in_braces (maybe super_call args ++ all_tokens (map printed_stmt block))

-- a member of an interface or of a class
abbrev pub member_tokens : Bool → Member → List Lexeme
member_tokens in_interface m = word_if m.is_private (codes "private") ++ part_tokens in_interface m.name m.params m.part

-- `extends` and a name
abbrev pub extends_name : List ℕ → List Lexeme
extends_name name = Word (codes "extends") ∷ Word name ∷ []

-- what stands in front of a class's members
abbrev pub class_head : Decl → List Lexeme
class_head d =
    word_if d.is_abstract (codes "abstract") ++ word_if d.is_final (codes "final") ++ Word (codes "class") ∷ Word d.name ∷ []
    ++ maybe extends_name d.superclass ++ word_names (codes "implements") d.interfaces

-- what stands in front of an interface's members
abbrev pub interface_head : Decl → List Lexeme
interface_head d = Word (codes "interface") ∷ Word d.name ∷ word_names (codes "extends") d.interfaces

-- a class or an interface
abbrev pub decl_tokens : Decl → List Lexeme
decl_tokens d = (if d.is_interface then interface_head d else class_head d) ++ in_braces (flat_map (member_tokens d.is_interface) d.members)

-- a unit
abbrev pub unit_tokens : SourceUnit → List Lexeme
unit_tokens unit = flat_map decl_tokens unit.decls

-- the text that a unit is printed as
abbrev pub printed_unit : SourceUnit → List ℕ
printed_unit unit = laid_out (unit_tokens unit)
