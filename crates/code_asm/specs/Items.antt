-- Code with labels where jumps lead and names in place of constants, and where it stands in a method's bytes.
use Rattle.std.specs.Prelude.{◌≡◌, ℕ, ◌+◌, ℤ, List, [], ◌∷◌, Bool, false, ◌||◌, Some, slice_get, codes}
use Rattle.std.specs.Str.{bytes_eq}
use Rattle.class_form.specs.declared.constant.Const.TheVariants.{Integer, Text as Literal}
use Rattle.class_form.specs.declared.class_file.ClassFile.{ClassFile}
use Rattle.class_form.specs.Constants.{utf8_at, class_name_at}
use Rattle.jp_store.specs.Classes.{Key}
use Rattle.jvm_table.specs.declared.instr.Instr.{Instr}
use Rattle.jvm_table.specs.declared.instr.Instr.TheVariants.{JumpTo, OnConstant, InvokeInterface}
use Rattle.jvm_table.specs.declared.instr.Jump.{Jump}
use Rattle.jvm_table.specs.declared.instr.ConstantUse.{ConstantUse}
use Rattle.jvm_table.specs.Decode.{row_at}
use Rattle.jvm_table.specs.Descriptors.{Signature, signature_of, places_of}
use Rattle.jvm_table.specs.Constants.{field_in, method_in, interface_method_in, member_named}
use Rattle.jvm_table.specs.Act.{is_print, is_text, is_read, is_object_init}

-- what an instruction names by a constant
pub data Wanted : Type 0 where
  IntOf : ℤ → Wanted
  -- a string literal of these bytes
  TextOf : List ℕ → Wanted
  FieldOf : Key → Wanted
  ClassOf : List ℕ → Wanted
  -- a method with the signature of its descriptor, that isn't built into the machine
  MethodOf : Key → Signature → Wanted
  -- one that is no constructor
  FamilyOf : Key → Signature → Wanted
  -- one that is built into the machine
  BuiltIn : Key → Wanted

-- a piece of code: an instruction; one with a constant; a call of an interface's method; a jump to a label; or a label
pub data Item : Type 0 where
  Plain : Instr → Item
  Uses : ConstantUse → Wanted → Item
  CallsInterface : Key → Signature → Item
  Branch : Jump → ℕ → Item
  Mark : ℕ → Item

-- whether a method is built into the machine
abbrev pub is_built_in : Key → Bool
is_built_in key = is_print key || (is_text key || (is_read key || is_object_init key))

-- the constant at an index of a file names what is wanted
abbrev pub Names : ClassFile → ℕ → Wanted → Type 0
Names file index (IntOf n) = slice_get file.constants index ≡ Some (Integer n)
Names file index (TextOf bytes) = (text : ℕ) × (slice_get file.constants index ≡ Some (Literal text)) × (utf8_at file text ≡ Some bytes)
Names file index (FieldOf key) = member_named field_in file index ≡ Some key
Names file index (ClassOf name) = class_name_at file index ≡ Some name
Names file index (MethodOf key signature) =
    (member_named method_in file index ≡ Some key) × (signature_of key.descriptor ≡ Some signature) × (is_built_in key ≡ false)
Names file index (FamilyOf key signature) =
    (member_named method_in file index ≡ Some key) × (signature_of key.descriptor ≡ Some signature) × (is_built_in key ≡ false)
    × (bytes_eq key.name (codes "<init>") ≡ false)
Names file index (BuiltIn key) = member_named method_in file index ≡ Some key

-- The items stand in the code of a file, from this place to that one, where `place` says where each label is
abbrev pub Stands : ClassFile → List ℕ → (ℕ → ℕ) → ℕ → List Item → ℕ → Type 0
Stands file code place pc [] to = pc ≡ to
Stands file code place pc (Plain instr ∷ items) to =
    (next : ℕ) × (row_at code pc ≡ Some (record { instr = instr; next = next })) × Stands file code place next items to
Stands file code place pc (Uses use_ wanted ∷ items) to =
    (index : ℕ) × (next : ℕ) × (row_at code pc ≡ Some (record { instr = OnConstant use_ index; next = next })) × Names file index wanted
    × Stands file code place next items to
Stands file code place pc (CallsInterface key signature ∷ items) to =
    (index : ℕ) × (next : ℕ) × (row_at code pc ≡ Some (record { instr = InvokeInterface index (1 + places_of signature.parameters); next = next }))
    × (member_named interface_method_in file index ≡ Some key) × (signature_of key.descriptor ≡ Some signature) × Stands file code place next items to
Stands file code place pc (Branch jump label ∷ items) to =
    (next : ℕ) × (row_at code pc ≡ Some (record { instr = JumpTo jump (place label); next = next })) × Stands file code place next items to
Stands file code place pc (Mark label ∷ items) to = (place label ≡ pc) × Stands file code place pc items to
