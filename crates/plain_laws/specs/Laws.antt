-- What whoever writes the class files of a plain unit needs to know of it.
use Rattle.std.specs.Prelude.{◌≡◌, ℕ, true, List, [], Some, slice_get}
use Rattle.std.specs.List.{list_all}
use Rattle.class_form.specs.declared.class_file.ClassFile.{ClassFile}
use Rattle.jp_pred.specs.Names.{In}
use Rattle.jp_ast.specs.declared.decl.SourceUnit.{SourceUnit}
use Rattle.jp_ast.specs.declared.token.Token.{Token}
use Rattle.jp_lexical.specs.Lexed.{Lexed}
use Rattle.jp_grammar.specs.Faults.{Parsed}
use Rattle.jp_meaning.specs.declared.unit.TypedMember.{TypedMember}
use Rattle.jp_meaning.specs.declared.unit.TypedClass.{TypedClass}
use Rattle.jp_meaning.specs.declared.unit.TypedUnit.{TypedUnit}
use Rattle.jp_meaning.specs.Classes.{Placed, static_named}
use Rattle.jp_meaning.specs.Descriptors.{internal_name}
use Rattle.jp_meaning.specs.Run.{Program, main_of, run}
use Rattle.jvm_step.specs.Run.{machine_run}
use Rattle.type_rules.specs.ClassNames.{must_see}
use Rattle.type_rules.specs.Typing.{IsTyped}
use Rattle.whole_program.specs.Right.{Bounds}
use Rattle.whole_program.specs.Laws.{fee, Matches}
use Rattle.gen_laws.specs.Compiled.{Name, name_of_part, IsCompiled}
use Rattle.typed_fits.specs.Laws.{has_plain_names}
use Rattle.unit_laws.specs.Laws.{has_ordinary_methods, has_own_fields, SelectsInChains}
use Rattle.plain_form.specs.Forms.{HasLoneBodies, IsPlain}
use Rattle.plain_form.specs.Main.{has_main}

-- no two members with statements have one name and descriptor
abbrev pub AreApart : TypedClass → Type 0
AreApart c =
    (i j : ℕ) (a b : TypedMember) (name : Name) → slice_get c.members i ≡ Some a → slice_get c.members j ≡ Some b →
    name_of_part c.head a.part ≡ Some name → name_of_part c.head b.part ≡ Some name → i ≡ j

-- the members of a unit's classes are apart, where no class or interface has two bodies of one family
abbrev pub PlainMembersAreApart : Type 0
PlainMembersAreApart =
    (unit : SourceUnit) (tree : TypedUnit) → IsTyped unit [] tree → HasLoneBodies unit → list_all has_plain_names unit.decls ≡ true → list_all has_ordinary_methods unit.decls ≡ true →
    (c : TypedClass) → In c tree.classes → AreApart c

-- the `main` of a class is there in a program of the unit
abbrev pub PlainHasMain : Type 0
PlainHasMain =
    (unit : SourceUnit) (tree : TypedUnit) (p : Program) → IsTyped unit [] tree → list_all has_plain_names unit.decls ≡ true → p.classes ≡ tree.classes → has_main unit p.main ≡ true →
    (main : Placed) × (static_named p.classes (main_of p.main) ≡ Some main)

-- a unit that needs to see no class of another has fields of its own types alone
abbrev pub TypedFieldsAreOwn : Type 0
TypedFieldsAreOwn = (unit : SourceUnit) (tree : TypedUnit) → IsTyped unit [] tree → must_see unit ≡ [] → list_all (has_own_fields unit.decls) unit.decls ≡ true

-- A plain unit is read from a text, has no fault, and has the `main` of a program. Its class files, compiled class by class,
-- do what it means
abbrev pub PlainKeepsTheMeaning : Type 0
PlainKeepsTheMeaning =
    (text : List ℕ) (tokens : List Token) (unit : SourceUnit) (tree : TypedUnit) (p : Program) → Lexed text tokens → Parsed tokens unit → IsTyped unit [] tree → IsPlain unit →
    has_main unit p.main ≡ true → p.classes ≡ tree.classes → SelectsInChains p →
    (files : List ClassFile) (b : Bounds) → IsCompiled p files b.turn → (input : List ℕ) (n : ℕ) →
    Matches (λ limit. machine_run files (internal_name p.main) limit input) (fee b) input n (run p input n) (run p input n).end
