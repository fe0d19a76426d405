-- Class files that are added one by one are those of the classes.
use Rattle.std.proofs.Common.{◌≡◌, ℕ, zero, suc, ◌+◌, ◌<◌, List, [], ◌∷◌, ◌++◌, length, take, get_or, Some, sym, ap, ◌∙◌, subst, arith}
use Rattle.std.specs.Prelude.{is_some}
use Rattle.std.proofs.lemmas.Bool.{false≢true}
use Rattle.std.proofs.lemmas.List.{take_more}
use Rattle.std.proofs.lemmas.Option.{slice_get_read}
use Rattle.class_form.specs.declared.class_file.ClassFile.{ClassFile}
use Rattle.class_form.specs.WellFormed.{WellFormed}
use Rattle.jp_pred.specs.declared.hier.Hier.{Hier}
use Rattle.jp_meaning.specs.declared.unit.TypedClass.{TypedClass}
use Rattle.jp_meaning.specs.Classes.{hier_in}
use Rattle.gen_laws.specs.Compiled.{IsFileOf, AreFilesOf}
use Rattle.gen_class.specs.Flags.{HasFlags}
use Rattle.unit_build.specs.Files.{IsWritable, AreWritable, AreFlagged, AreFormed}

-- one file more, of one class more
files_more : (hier : Hier) (cs : List TypedClass) (files : List ClassFile) (most : ℕ) (c : TypedClass) (file : ClassFile) → AreFilesOf hier cs files most → IsFileOf hier c file most → AreFilesOf hier (cs ++ c ∷ []) (files ++ file ∷ []) most
files_more hier [] [] most c file h k = (k, tt)
files_more hier [] (f ∷ files) most c file h k = absurd h
files_more hier (d ∷ cs) [] most c file h k = absurd h
files_more hier (d ∷ cs) (f ∷ files) most c file h k = (h.0, files_more hier cs files most c file h.1 k)

flags_more : (cs : List TypedClass) (files : List ClassFile) (c : TypedClass) (file : ClassFile) → AreFlagged cs files → HasFlags c file → AreFlagged (cs ++ c ∷ []) (files ++ file ∷ [])
flags_more [] [] c file h k = (k, tt)
flags_more [] (f ∷ files) c file h k = absurd h
flags_more (d ∷ cs) [] c file h k = absurd h
flags_more (d ∷ cs) (f ∷ files) c file h k = (h.0, flags_more cs files c file h.1 k)

some_is : {X : Type 0} (x y : X) → Some x ≡ Some y → x ≡ y
some_is x y e = cc

pub formed_more : (files : List ClassFile) (file : ClassFile) → AreFormed files → WellFormed file → AreFormed (files ++ file ∷ [])
formed_more [] file h k zero f e = subst WellFormed (some_is file f e) k
formed_more [] file h k (suc i) f e = absurd (false≢true (ap is_some e))
formed_more (g ∷ files) file h k zero f e = h zero f e
formed_more (g ∷ files) file h k (suc i) f e = formed_more files file (λ i. h (suc i)) k i f e

module _ (cs : List TypedClass) (n i : ℕ) (c : TypedClass) (count : n ≡ length cs) (within : i < n) (is : c ≡ get_or cs i c) where
  next_class : take (i + 1) cs ≡ take i cs ++ c ∷ []
  next_class = take_more cs i c (omega (arith, count, within)) ∙ ap (λ (x : TypedClass). take i cs ++ x ∷ []) (sym is)

  pub compiled_more : (hier : Hier) (files : List ClassFile) (file : ClassFile) → AreFilesOf hier (take i cs) files 65536 → IsFileOf hier c file 65536 → AreFilesOf hier (take (i + 1) cs) (files ++ file ∷ []) 65536
  compiled_more hier files file h k = subst (λ (xs : List TypedClass). AreFilesOf hier xs (files ++ file ∷ []) 65536) (sym next_class) (files_more hier (take i cs) files 65536 c file h k)

  pub flagged_more : (files : List ClassFile) (file : ClassFile) → AreFlagged (take i cs) files → HasFlags c file → AreFlagged (take (i + 1) cs) (files ++ file ∷ [])
  flagged_more files file h k = subst (λ (xs : List TypedClass). AreFlagged xs (files ++ file ∷ [])) (sym next_class) (flags_more (take i cs) files c file h k)

  pub writable : (hier : Hier) → hier ≡ hier_in cs → AreWritable (hier_in cs) cs → IsWritable hier c
  writable hier e h = subst (λ (x : Hier). IsWritable x c) (sym e) (h i c (slice_get_read cs n i c count within is))
