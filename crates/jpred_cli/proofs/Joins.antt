-- The steps of `go`, one after another, are what it did.
use Rattle.std.specs.Prelude.{Ok, Err}
use Rattle.std.proofs.Common.{◌≡◌, ℕ, ℤ, List, [], ◌∷◌, ◌++◌, map, flat_map, Option, Vec, Global, inl, inr, refl, sym, ap, ◌∙◌, subst}
use Rattle.std.specs.Fmt.{signed_decimal}
use Rattle.std.specs.Io.KnownBytes.{append_known}
use Rattle.jp_outside.specs.Faults.{Rose}
use Rattle.jp_outside.specs.Bytes.{AppendsFront}
use Rattle.jp_outside.specs.Files.{Files, put_known, OthersStay}
use Rattle.class_form.specs.declared.class_file.ClassFile.{ClassFile}
use Rattle.cli_text.specs.declared.ending.Ending.{Ending}
use Rattle.cli_text.specs.declared.ending.Ending.TheVariants.{Done, NoCommand, Refused, Missing, UnitFault, ClassFault, OutputFault, OutOfMemory}
use Rattle.print_form.specs.declared.literal.Literal.{Literal}
use Rattle.print_form.specs.Form.{value_of}
use Rattle.cli_text.specs.Lines.{class_file_name}
use Rattle.jpred_cli.specs.Outcome.{outside, HasBegun, meaning, Did}
use Rattle.jpred_cli.specs.Steps.{UnitRead, ClassPut, ClassRan}

same_outside : (f f' : Option Files) (s s' : ℕ) (o o' : Option (List ℕ)) (q q' : ℕ) → f' ≡ f → s' ≡ s → o' ≡ o → q' ≡ q → outside f' s' o' q' ≡ outside f s o q
same_outside f f' s s' o o' q q' ef es eo eq = cc

-- the numbers' texts are the literals' meaning
texts : (literals : List Literal) → flat_map signed_decimal (map value_of literals) ≡ meaning literals
texts [] = refl
texts (literal ∷ more) = ap (λ l. signed_decimal (value_of literal) ++ l) (texts more)

-- reading the unit, and then a class file that isn't put
pub did_not_put : (main unit : List ℕ) (f0 f1 f2 : Option Files) (s0 s1 s2 : ℕ) (out : Option (List ℕ)) (q : ℕ) (numbers : Vec ℤ Global) (ns : List ℤ) (ending : Ending) → UnitRead main unit f0 f1 s0 s1 (Ok numbers) → ClassPut main ns f1 f2 s1 s2 (Err ending) → Did main unit (outside f0 s0 out q) (outside f2 s2 out q) ending
did_not_put main unit f0 f1 f2 s0 s1 s2 out q numbers ns ClassFault read put =
    let others = subst (λ (f : Option Files). OthersStay f f2 (class_file_name main)) read.4.0 put.0 in
    let rose = subst (λ (s : ℕ). Rose s s2) read.4.1 put.1 in
    (read.0, read.1, others, rose, refl)
did_not_put main unit f0 f1 f2 s0 s1 s2 out q numbers ns OutOfMemory read put =
    inl (same_outside f0 f2 s0 s2 out out q q (put.0 ∙ read.4.0) (put.1 ∙ read.4.1) refl refl)
did_not_put main unit f0 f1 f2 s0 s1 s2 out q numbers ns Done read put = absurd put
did_not_put main unit f0 f1 f2 s0 s1 s2 out q numbers ns NoCommand read put = absurd put
did_not_put main unit f0 f1 f2 s0 s1 s2 out q numbers ns (Refused refusal) read put = absurd put
did_not_put main unit f0 f1 f2 s0 s1 s2 out q numbers ns Missing read put = absurd put
did_not_put main unit f0 f1 f2 s0 s1 s2 out q numbers ns UnitFault read put = absurd put
did_not_put main unit f0 f1 f2 s0 s1 s2 out q numbers ns OutputFault read put = absurd put

-- what was begun: the class file was put, and a front part of the meaning was written
begun : (main unit : List ℕ) (f0 f1 f2 : Option Files) (s0 s1 s2 : ℕ) (out out' : Option (List ℕ)) (q q' : ℕ) (numbers : Vec ℤ Global) (ns : List ℤ) (file : ClassFile) → ns ≡ numbers.items → UnitRead main unit f0 f1 s0 s1 (Ok numbers) → ClassPut main ns f1 f2 s1 s2 (Ok file) → AppendsFront out out' (flat_map signed_decimal ns) → HasBegun main unit (outside f0 s0 out q) (outside f2 s2 out' q')
begun main unit f0 f1 f2 s0 s1 s2 out out' q q' numbers ns file e read put front =
    record {
      literals = read.0;
      program = read.1;
      bytes = put.1;
      files = put.2 ∙ ap (λ (f : Option Files). put_known f (class_file_name main) put.1) read.4.0;
      store_faults = put.3 ∙ read.4.1;
      out = subst (AppendsFront out out') (ap (flat_map signed_decimal) (e ∙ read.2) ∙ texts read.0) front;
    }

-- reading the unit, putting the class file and running it
pub did_run : (main unit : List ℕ) (f0 f1 f2 : Option Files) (s0 s1 s2 : ℕ) (out out' : Option (List ℕ)) (q q' : ℕ) (numbers : Vec ℤ Global) (ns ms : List ℤ) (file : ClassFile) (ending : Ending) → ns ≡ numbers.items → ms ≡ numbers.items → UnitRead main unit f0 f1 s0 s1 (Ok numbers) → ClassPut main ns f1 f2 s1 s2 (Ok file) → ClassRan ms out out' q q' ending → Did main unit (outside f0 s0 out q) (outside f2 s2 out' q') ending
did_run main unit f0 f1 f2 s0 s1 s2 out out' q q' numbers ns ms file Done e d read put ran =
    (read.0, read.1, put.1, same_outside (put_known f0 (class_file_name main) put.1) f2 s0 s2 (append_known out (meaning read.0)) out' q q' (put.2 ∙ ap (λ (f : Option Files). put_known f (class_file_name main) put.1) read.4.0) (put.3 ∙ read.4.1) (ran.0 ∙ ap (append_known out) (ap (flat_map signed_decimal) (d ∙ read.2) ∙ texts read.0)) ran.1)
did_run main unit f0 f1 f2 s0 s1 s2 out out' q q' numbers ns ms file OutputFault e d read put ran =
    (begun main unit f0 f1 f2 s0 s1 s2 out out' q q' numbers ns file e read put (subst (λ l. AppendsFront out out' (flat_map signed_decimal l)) (d ∙ sym e) ran.0), ran.1)
did_run main unit f0 f1 f2 s0 s1 s2 out out' q q' numbers ns ms file OutOfMemory e d read put ran =
    inr (begun main unit f0 f1 f2 s0 s1 s2 out out' q q' numbers ns file e read put (subst (λ l. AppendsFront out out' (flat_map signed_decimal l)) (d ∙ sym e) ran.0), ran.1)
did_run main unit f0 f1 f2 s0 s1 s2 out out' q q' numbers ns ms file NoCommand e d read put ran = absurd ran
did_run main unit f0 f1 f2 s0 s1 s2 out out' q q' numbers ns ms file (Refused refusal) e d read put ran = absurd ran
did_run main unit f0 f1 f2 s0 s1 s2 out out' q q' numbers ns ms file Missing e d read put ran = absurd ran
did_run main unit f0 f1 f2 s0 s1 s2 out out' q q' numbers ns ms file UnitFault e d read put ran = absurd ran
did_run main unit f0 f1 f2 s0 s1 s2 out out' q q' numbers ns ms file ClassFault e d read put ran = absurd ran
