-- What a run of the class files of a unit without guards says of what the unit means.
use Rattle.std.specs.Prelude.{◌≡◌, ℕ, suc, ◌*◌, ◌≤◌, List, [], true, false}
use Rattle.class_form.specs.declared.class_file.ClassFile.{ClassFile}
use Rattle.jp_pred.specs.Names.{Word}
use Rattle.jp_ast.specs.declared.decl.SourceUnit.{SourceUnit}
use Rattle.jp_lexical.specs.Lexed.{Lexed}
use Rattle.jp_grammar.specs.Kinds.{Tokens}
use Rattle.jp_grammar.specs.Faults.{Parsed}
use Rattle.jp_meaning.specs.declared.unit.TypedUnit.{TypedUnit}
use Rattle.jp_meaning.specs.Classes.{hier_in}
use Rattle.jp_meaning.specs.Laws.{Begins}
use Rattle.jp_meaning.specs.Run.{Program, run}
use Rattle.jvm_step.specs.declared.state.State.{State}
use Rattle.jvm_step.specs.Run.{machine_run, Passes}
use Rattle.type_rules.specs.Typing.{IsTyped}
use Rattle.whole_program.specs.Headline.{is_lost, Tells, Reaches}
use Rattle.gen_laws.specs.Compiled.{AreFilesOf}
use Rattle.plain_form.specs.Forms.{IsPlain}
use Rattle.plain_form.specs.Main.{has_main}
use Rattle.plain_choice.specs.Laws.{nearest}

-- the program of these classes, from the `main` of the class of this name; of each chain the nearest body is selected
abbrev pub program_of : TypedUnit → Word → Program
program_of tree main = record { classes = tree.classes; main = main; select = nearest }

-- A text is read as a unit without a fault that names no other, has the plain form and this resolved tree, and whose class of
-- this name has a `main`
pub record IsPlainProgram (text : List ℕ) (main : Word) (tree : TypedUnit) : Type 0 where
  pub tokens : Tokens
  pub unit : SourceUnit
  pub lexed : Lexed text tokens
  pub parsed : Parsed tokens unit
  pub typed : IsTyped unit [] tree
  pub plain : IsPlain unit
  pub main_there : has_main unit main ≡ true

-- its class files, compiled class by class, with at most 65,536 items in a member's code
abbrev pub AreItsFiles : TypedUnit → List ClassFile → Type 0
AreItsFiles tree files = AreFilesOf (hier_in tree.classes) tree.classes files 65536

-- what a run of at most `limit` instructions says of the meaning with as many ticks or more, where that isn't lost
abbrev pub PlainHeadline : Type 0
PlainHeadline =
    (text : List ℕ) (main : Word) (tree : TypedUnit) (files : List ClassFile) → IsPlainProgram text main tree → AreItsFiles tree files → (input : List ℕ) (limit n : ℕ) → limit ≤ n → is_lost (run (program_of tree main) input n).end ≡ false →
    Tells (machine_run files main limit input).end input (run (program_of tree main) input n) (machine_run files main limit input)

-- what it writes, and what was written at each state that it passes, is a front part of the meaning's output
abbrev pub PlainOutputBegins : Type 0
PlainOutputBegins =
    (text : List ℕ) (main : Word) (tree : TypedUnit) (files : List ClassFile) → IsPlainProgram text main tree → AreItsFiles tree files → (input : List ℕ) (limit n : ℕ) → limit ≤ n → is_lost (run (program_of tree main) input n).end ≡ false →
    Begins (machine_run files main limit input).out (run (program_of tree main) input n).output
    × ((state : State) (rest out : List ℕ) → Passes files main limit input state rest out → Begins out (run (program_of tree main) input n).output)

-- with 65,536 instructions for each of n + 1 ticks the machine has done what the meaning does with n
abbrev pub PlainEnough : Type 0
PlainEnough =
    (text : List ℕ) (main : Word) (tree : TypedUnit) (files : List ClassFile) → IsPlainProgram text main tree → AreItsFiles tree files → (input : List ℕ) (limit n : ℕ) → suc n * 65536 ≤ limit →
    Reaches (run (program_of tree main) input n).end input (run (program_of tree main) input n) (machine_run files main limit input)
