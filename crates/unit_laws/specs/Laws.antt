-- What class files do that are compiled class by class from a unit.
use Rattle.std.specs.Prelude.{◌≡◌, ℕ, Bool, true, not, ◌&&◌, ◌||◌, List, [], map, is_some, Some, codes}
use Rattle.std.specs.List.{list_all}
use Rattle.class_form.specs.declared.class_file.ClassFile.{ClassFile}
use Rattle.jp_pred.specs.declared.shape.Shape.{Shape}
use Rattle.jp_pred.specs.declared.ty.Ty.{Ty}
use Rattle.jp_pred.specs.declared.ty.Ty.TheVariants as ty
use Rattle.jp_pred.specs.Names.{Word, object, same}
use Rattle.jp_pred.specs.Universe.{IsUniverse}
use Rattle.jp_ast.specs.declared.decl.Decl.{Decl}
use Rattle.jp_ast.specs.declared.decl.Member.{Member}
use Rattle.jp_ast.specs.declared.decl.SourceUnit.{SourceUnit}
use Rattle.jp_ast.specs.declared.token.Token.{Token}
use Rattle.jp_lexical.specs.Lexed.{Lexed}
use Rattle.jp_grammar.specs.Faults.{Parsed}
use Rattle.jp_meaning.specs.declared.unit.TypedUnit.{TypedUnit}
use Rattle.jp_meaning.specs.Choice.{Question, IsChoice}
use Rattle.jp_meaning.specs.Classes.{Placed, static_named, hier_in, chain_of}
use Rattle.jp_meaning.specs.Does.{Method}
use Rattle.jp_meaning.specs.Descriptors.{internal_name}
use Rattle.jp_meaning.specs.Run.{Program, main_of, run}
use Rattle.jvm_step.specs.Run.{machine_run}
use Rattle.type_rules.specs.Heads.{head, head_of}
use Rattle.type_rules.specs.Typing.{IsTyped}
use Rattle.type_rules.specs.Units.{guard_part}
use Rattle.whole_program.specs.Right.{Bounds, question_in}
use Rattle.whole_program.specs.Laws.{fee, Matches}
use Rattle.gen_laws.specs.Compiled.{IsCompiled}
use Rattle.gen_laws.specs.Plain.{IsNamed}
use Rattle.typed_fits.specs.Laws.{has_plain_names}

-- a declaration none of whose methods is called as constructors are in class files
abbrev pub has_ordinary_methods : Decl → Bool
has_ordinary_methods d = list_all (λ m. not (same m.name (codes "<init>"))) (head d).methods

-- a unit that is read from a text has such declarations alone
abbrev pub ReadMethodsAreOrdinary : Type 0
ReadMethodsAreOrdinary = (text : List ℕ) (tokens : List Token) (unit : SourceUnit) → Lexed text tokens → Parsed tokens unit → list_all has_ordinary_methods unit.decls ≡ true

-- The resolved trees of a unit without a fault that names no class of another unit, as the classes of a program that has a
-- `main`
pub record IsProgramOf (unit : SourceUnit) (tree : TypedUnit) (p : Program) : Type 0 where
  pub typed : IsTyped unit [] tree
  pub classes : p.classes ≡ tree.classes
  pub main : Placed
  pub main_there : static_named p.classes (main_of p.main) ≡ Some main

-- the names of such a program are as its class files need them
abbrev pub UnitIsNamed : Type 0
UnitIsNamed =
    (unit : SourceUnit) (tree : TypedUnit) (p : Program) → IsProgramOf unit tree p → list_all has_plain_names unit.decls ≡ true → list_all has_ordinary_methods unit.decls ≡ true → IsNamed p

-- each class that the type names, itself or of its elements, is Object or one of these declarations
abbrev pub is_own_type : List Decl → Ty → Bool
is_own_type ds (ty.Class name) = same name object || is_some (head_of (map head ds) name)
is_own_type ds (ty.ClassArray name) = same name object || is_some (head_of (map head ds) name)
is_own_type ds _ = true

-- the fields of a declaration are of such types
abbrev pub has_own_fields : List Decl → Decl → Bool
has_own_fields ds d = list_all (λ f. is_own_type ds f.ty) (head d).fields

-- an interface isn't final, as none is that is read from a text
abbrev pub is_open_interface : Decl → Bool
is_open_interface d = not (d.is_interface && d.is_final)

-- The classes of such a program are a universe: all that they name is there, and used as what it is
abbrev pub UnitIsUniverse : Type 0
UnitIsUniverse =
    (unit : SourceUnit) (tree : TypedUnit) (p : Program) → IsProgramOf unit tree p → list_all has_plain_names unit.decls ≡ true → list_all is_open_interface unit.decls ≡ true → list_all (has_own_fields unit.decls) unit.decls ≡ true →
    IsUniverse (hier_in p.classes)

-- each answer on a chain of the program is what selection says
abbrev pub SelectsInChains : Program → Type 0
SelectsInChains p =
    (m : Method) (class : Word) (shape : Shape) → let q : Question = question_in (chain_of p.classes m class) shape in IsChoice (hier_in p.classes) q (p.select q)

-- a member without a guard
abbrev pub has_no_guard : Member → Bool
has_no_guard m = not (is_some (guard_part m.part))

-- A unit is read from a text, has no fault and no guards, and names no class of another unit in its fields. Its class files,
-- compiled class by class, do what it means
abbrev pub ReadKeepsTheMeaning : Type 0
ReadKeepsTheMeaning =
    (text : List ℕ) (tokens : List Token) (unit : SourceUnit) (tree : TypedUnit) (p : Program) → Lexed text tokens → Parsed tokens unit → IsProgramOf unit tree p →
    list_all (λ d. list_all has_no_guard d.members) unit.decls ≡ true → list_all (has_own_fields unit.decls) unit.decls ≡ true → SelectsInChains p →
    (files : List ClassFile) (b : Bounds) → IsCompiled p files b.turn → (input : List ℕ) (n : ℕ) →
    Matches (λ limit. machine_run files (internal_name p.main) limit input) (fee b) input n (run p input n) (run p input n).end
