-- Units without a fault have trees that fit.
use Rattle.std.specs.Prelude.{◌≡◌, ℕ, Bool, true, not, ◌&&◌, List, []}
use Rattle.std.specs.List.{list_all}
use Rattle.jp_pred.specs.Names.{same}
use Rattle.jp_ast.specs.declared.decl.Decl.{Decl}
use Rattle.jp_ast.specs.declared.decl.SourceUnit.{SourceUnit}
use Rattle.jp_ast.specs.declared.token.Token.{Token}
use Rattle.jp_lexical.specs.Lexed.{Lexed}
use Rattle.jp_grammar.specs.Faults.{Parsed}
use Rattle.jp_store.specs.Classes.{object_name}
use Rattle.jp_meaning.specs.declared.unit.TypedUnit.{TypedUnit}
use Rattle.jp_meaning.specs.Run.{Program}
use Rattle.type_rules.specs.Heads.{head}
use Rattle.type_rules.specs.Typing.{IsTyped}
use Rattle.gen_body.specs.Names.{are_nameable}
use Rattle.whole_program.specs.Fits.{EachCallFits}
use Rattle.calls_fit.specs.Fitting.{method_fits, ProgramFits}

-- a declaration whose names a descriptor can carry, as the words of the language are
abbrev pub has_plain_names : Decl → Bool
has_plain_names d = not (same d.name object_name) && (list_all method_fits (head d).methods && list_all are_nameable (head d).constructors)

-- the trees of a unit that names no other, as a program's classes
abbrev pub TypedTreesFit : Type 0
TypedTreesFit =
    (unit : SourceUnit) (tree : TypedUnit) (p : Program) → IsTyped unit [] tree → list_all has_plain_names unit.decls ≡ true → p.classes ≡ tree.classes → ProgramFits p

abbrev pub TypedCallsFit : Type 0
TypedCallsFit =
    (unit : SourceUnit) (tree : TypedUnit) (p : Program) → IsTyped unit [] tree → list_all has_plain_names unit.decls ≡ true → p.classes ≡ tree.classes → EachCallFits p

-- a unit that is read from a text has such names
abbrev pub ReadNamesArePlain : Type 0
ReadNamesArePlain = (text : List ℕ) (tokens : List Token) (unit : SourceUnit) → Lexed text tokens → Parsed tokens unit → list_all has_plain_names unit.decls ≡ true
