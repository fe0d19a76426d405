-- The class files of a plain unit are right for the program that it is.
use Rattle.std.proofs.Common.{◌≡◌, ℕ, Bool, true, false, List, [], ◌∷◌, Option, Some, None, refl, sym, ap, ◌∙◌, subst, arith}
use Rattle.std.specs.Prelude.{cond, is_some, slice_get, option_and_then}
use Rattle.std.proofs.lemmas.Bool.{false≢true}
use Rattle.std.specs.Option.{option_map}
use Rattle.class_form.specs.declared.class_file.ClassFile.{ClassFile}
use Rattle.jp_pred.specs.Names.{Word, In, object, same}
use Rattle.jp_pred.specs.Selection.{Body}
use Rattle.jp_pred.proofs.Ascents.{same_refl}
use Rattle.jp_store.specs.Classes.{object_name}
use Rattle.jp_meaning.specs.declared.unit.TypedUnit.{TypedUnit}
use Rattle.jp_meaning.specs.declared.unit.TypedClass.{TypedClass}
use Rattle.jp_meaning.specs.Does.{Method}
use Rattle.jp_meaning.specs.Choice.{Selects}
use Rattle.jp_meaning.specs.Classes.{Placed, placed as as_placed, is_static, methods_in, class_in, static_named, chain_of}
use Rattle.jp_meaning.specs.Descriptors.{internal_name, word_of}
use Rattle.jp_meaning.specs.Laws.{Begins}
use Rattle.jp_meaning.specs.Run.{Program, main_of, run}
use Rattle.jvm_step.specs.declared.state.State.{State}
use Rattle.jvm_step.specs.Run.{machine_run, Passes}
use Rattle.whole_program.specs.Right.{Bounds, Naming, IsRight, question_in}
use Rattle.whole_program.specs.Fits.{EachCallFits}
use Rattle.whole_program.specs.Headline.{Tells, Reaches}
use Rattle.whole_program.proofs.Ahead.{headline, output_begins, enough}
use Rattle.calls_fit.specs.Fitting.{ProgramFits}
use Rattle.calls_fit.proofs.Members.{calls_fit}
use Rattle.calls_fit.proofs.Named.{class_at, get_in}
use Rattle.gen_laws.specs.Plain.{NearestIsSelected}
use Rattle.gen_laws.proofs.Right.{is_right}
use Rattle.typed_fits.proofs.ReadNames.{names_plain}
use Rattle.typed_fits.proofs.UnitFits.{trees_fit}
use Rattle.unit_laws.specs.Laws.{IsProgramOf}
use Rattle.unit_laws.proofs.OrdinaryNames.{methods_ordinary}
use Rattle.unit_laws.proofs.UnitNames.{unit_named}
use Rattle.plain_laws.proofs.MainMethod.{has_a_main}
use Rattle.plain_choice.specs.Laws.{first_of}
use Rattle.plain_runs.specs.Laws.{program_of, IsPlainProgram, AreItsFiles, PlainHeadline, PlainOutputBegins, PlainEnough}

-- the names of methods of their own don't matter: there are no dispatchers
no_names : Naming
no_names = record { body = λ c. []; helper = λ c a. record { class = []; name = []; descriptor = [] } }

-- a turn of a loop, or a call, takes at most as many instructions as a member has items
abbrev bounds : Bounds
bounds = record { turn = 65536; helper = 0; dispatch = 0 }

first_is_nearest : (tree : TypedUnit) (main : Word) → NearestIsSelected (program_of tree main)
first_is_nearest tree main m class shape i e = by_chain (question_in (chain_of tree.classes m class) shape).chain e where
  by_chain : (chain : List Body) → first_of chain ≡ Selects i → i ≡ 0
  by_chain [] e = cc
  by_chain (body ∷ more) e = cc

module _ (text : List ℕ) (main : Word) (tree : TypedUnit) (files : List ClassFile) (is : IsPlainProgram text main tree) (compiled : AreItsFiles tree files) where
  abbrev program : Program
  program = program_of tree main

  abbrev fits : ProgramFits program
  fits = trees_fit is.unit tree program is.typed (names_plain text is.tokens is.unit is.lexed is.parsed) refl

  abbrev there : (placed : Placed) × (static_named tree.classes (main_of main) ≡ Some placed)
  there = has_a_main is.unit tree program is.typed (names_plain text is.tokens is.unit is.lexed is.parsed) refl is.main_there

  of_unit : IsProgramOf is.unit tree program
  of_unit = record { typed = is.typed; classes = refl; main = there.0; main_there = there.1 }

  each_fits : EachCallFits program
  each_fits = calls_fit program fits

  right : IsRight program files no_names bounds
  right = is_right program files no_names bounds fits
      (unit_named is.unit tree program of_unit (names_plain text is.tokens is.unit is.lexed is.parsed) (methods_ordinary text is.tokens is.unit is.lexed is.parsed))
      (first_is_nearest tree main) compiled

  -- a class of that name is there
  class_there : (name : Word) (named : Method) (placed : Placed) → word_of named.class ≡ name → static_named tree.classes named ≡ Some placed → (c : TypedClass) × (class_in tree.classes name ≡ Some c)
  class_there name named placed w e = by_class (class_in tree.classes (word_of named.class)) refl e where
    by_class : (o : Option TypedClass) → class_in tree.classes (word_of named.class) ≡ o → option_and_then (λ c. option_map as_placed (slice_get (methods_in is_static named c) 0)) o ≡ Some placed → (c : TypedClass) × (class_in tree.classes name ≡ Some c)
    by_class None k e = absurd (false≢true (ap is_some e))
    by_class (Some c) k e = (c, subst (λ (x : Word). class_in tree.classes x ≡ Some c) w k)

  -- it isn't called Object, and so its file has its name
  named_so : internal_name main ≡ main
  named_so = by_object (same main object) refl where
    by_object : (b : Bool) → same main object ≡ b → internal_name main ≡ main
    by_object false k = ap (λ (b : Bool). cond b object_name main) k
    by_object true k =
        let inner : word_of (internal_name main) ≡ object = ap (λ (b : Bool). word_of (cond b object_name main)) k in
        let found = class_there object (main_of main) there.0 inner there.1 in
        let at = class_at tree.classes object found.0 found.1 in
        absurd (false≢true (sym (not_object found.0 at.0) ∙ ap (λ (x : Word). same x object) at.1 ∙ same_refl object)) where
          not_object : (c : TypedClass) → In c tree.classes → same c.head.name object ≡ false
          not_object c i = let g = get_in i in (fits.each g.0 c g.1).named

  at_name : (P : List ℕ → Type 0) → P (internal_name main) → P main
  at_name P h = subst P named_so h

pub plain_headline : PlainHeadline
plain_headline text main tree files is compiled input limit n few kept =
    at_name text main tree files is compiled (λ (x : List ℕ). Tells (machine_run files x limit input).end input (run (program_of tree main) input n) (machine_run files x limit input))
    (headline (program_of tree main) files no_names bounds (each_fits text main tree files is compiled) (right text main tree files is compiled) input limit n few kept)

pub plain_output_begins : PlainOutputBegins
plain_output_begins text main tree files is compiled input limit n few kept =
    at_name text main tree files is compiled (λ (x : List ℕ). Begins (machine_run files x limit input).out (run (program_of tree main) input n).output
    × ((state : State) (rest out : List ℕ) → Passes files x limit input state rest out → Begins out (run (program_of tree main) input n).output))
    (output_begins (program_of tree main) files no_names bounds (each_fits text main tree files is compiled) (right text main tree files is compiled) input limit n few kept)

pub plain_enough : PlainEnough
plain_enough text main tree files is compiled input limit n few =
    at_name text main tree files is compiled (λ (x : List ℕ). Reaches (run (program_of tree main) input n).end input (run (program_of tree main) input n) (machine_run files x limit input))
    (enough (program_of tree main) files no_names bounds (each_fits text main tree files is compiled) (right text main tree files is compiled) input limit n (omega (arith, few)))
