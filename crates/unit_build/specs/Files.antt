-- The class files of classes.
use Rattle.std.specs.Prelude.{◌≡◌, ℕ, List, [], ◌∷◌, Some, slice_get}
use Rattle.class_form.specs.declared.class_file.ClassFile.{ClassFile}
use Rattle.class_form.specs.WellFormed.{WellFormed}
use Rattle.jp_pred.specs.declared.hier.Hier.{Hier}
use Rattle.jp_meaning.specs.declared.unit.TypedClass.{TypedClass}
use Rattle.gen_laws.specs.Compiled.{AreFilesOf}
use Rattle.gen_class.specs.Flags.{HasFlags}
use Rattle.gen_class.specs.Members.{EachWritten, HasSlots, CallsAreMeant, HasPlainTypes, HasFewItems, AreApart}

-- what is asked of a class whose file is written
pub record IsWritable (hier : Hier) (c : TypedClass) : Type 0 where
  pub slots : EachWritten c (HasSlots c.head)
  pub meant : EachWritten c (CallsAreMeant hier c.head)
  pub signed : HasPlainTypes c.head
  pub apart : AreApart c
  pub few : EachWritten c (HasFewItems hier c.head 65536)

-- each class is so
abbrev pub AreWritable : Hier → List TypedClass → Type 0
AreWritable hier cs = (i : ℕ) (c : TypedClass) → slice_get cs i ≡ Some c → IsWritable hier c

-- each file is that of the class at its position, and no member's code has more than 65,536 items
abbrev pub AreCompiled : Hier → List TypedClass → List ClassFile → Type 0
AreCompiled hier cs files = AreFilesOf hier cs files 65536

-- there are as many files as classes, and the flags of each are those of the class at its position
abbrev pub AreFlagged : List TypedClass → List ClassFile → Type 0
AreFlagged [] [] = Unit {0}
AreFlagged [] (file ∷ files) = ⊥
AreFlagged (c ∷ cs) [] = ⊥
AreFlagged (c ∷ cs) (file ∷ files) = HasFlags c file × AreFlagged cs files

-- each file is well formed
abbrev pub AreFormed : List ClassFile → Type 0
AreFormed files = (i : ℕ) (file : ClassFile) → slice_get files i ≡ Some file → WellFormed file
