-- What the constants of class files name.
use Rattle.std.specs.Prelude.{◌≡◌, ℕ, ◌<◌, ◌≤◌, ◌^◌, Bool, true, false, List, length, Option, Some, IfSome, slice_get, option_and_then}
use Rattle.std.specs.Option.{option_map}
use Rattle.class_form.specs.declared.class_file.ClassFile.{ClassFile}
use Rattle.class_form.specs.Constants.{class_name_at}
use Rattle.jp_store.specs.Classes.{Key, Found, class_at, field_of}
use Rattle.jp_store.specs.declared.value.ClassAt.{ClassAt}
use Rattle.jp_store.specs.declared.heap.Thing.{Thing}
use Rattle.jp_store.specs.declared.value.Value.{Value}
use Rattle.jvm_table.specs.Constants.{field_in, method_in, interface_method_in, member_named}
use Rattle.jvm_table.specs.Descriptors.{Signature, signature_of}
use Rattle.jvm_table.specs.Act.{StaticMethod, special_target}
use Rattle.jvm_load.specs.FileClasses.{classes_of}
use Rattle.jvm_load.specs.Fields.{found_at, IsAmongFirst}
use Rattle.jvm_step.specs.Turn.{found_by}
use Rattle.jvm_link.specs.declared.constant.Constant.{Constant}

-- the class that a constant of a file names
abbrev pub class_named : List ClassFile → ClassFile → ℕ → Option ClassAt
class_named files file index = option_and_then (class_at (classes_of files)) (class_name_at file index)

-- the field, static or of objects
abbrev pub field_named : Bool → List ClassFile → ClassFile → ℕ → Option Found
field_named static files file index = option_and_then (field_of static (classes_of files)) (member_named field_in file index)

-- what the descriptor of a method says
abbrev pub signed : Key → Option Signature
signed key = signature_of key.descriptor

-- the method that a static call finds
abbrev pub static_of : List ClassFile → List Thing → List Value → Key → Option (ℕ × ℕ)
static_of files heap args key = found_by files heap (StaticMethod key) args

-- the method that a special call from a file's code finds
abbrev pub special_of : List ClassFile → ClassFile → List Thing → List Value → Key → Option (ℕ × ℕ)
special_of files file heap args key = option_and_then (λ target. found_by files heap target args) (special_target file key)

-- what the constant at an index of a file names
pub record IsConstant (files : List ClassFile) (file : ClassFile) (index : ℕ) (constant : Constant) : Type 0 where
  pub class : constant.class ≡ class_named files file index
  pub field : option_map found_at constant.field ≡ field_named false files file index
  pub static_field : option_map found_at constant.static_field ≡ field_named true files file index
  pub signature : constant.signature ≡ option_and_then signed (member_named method_in file index)
  pub interface_signature : constant.interface_signature ≡ option_and_then signed (member_named interface_method_in file index)
  pub static_method : (heap : List Thing) (args : List Value) → constant.static_method ≡ option_and_then (static_of files heap args) (member_named method_in file index)
  pub special_method : (heap : List Thing) (args : List Value) → constant.special_method ≡ option_and_then (special_of files file heap args) (member_named method_in file index)

-- the classes are among the first n
pub record IsWithin (n : ℕ) (constant : Constant) : Type 0 where
  pub class : IfSome constant.class (IsAmongFirst n)
  pub field : IfSome constant.field (λ place. place.class < n)
  pub static_field : IfSome constant.static_field (λ place. place.class < n)

-- the constants of a file as far as two bytes reach
pub record AreConstants (files : List ClassFile) (file : ClassFile) (constants : List Constant) : Type 0 where
  pub each : (i : ℕ) (constant : Constant) → slice_get constants i ≡ Some constant → IsConstant files file i constant
  pub all : (i : ℕ) → i < 2 ^ 16 → length constants ≤ i → length file.constants ≤ i
  pub within : (i : ℕ) (constant : Constant) → slice_get constants i ≡ Some constant → IsWithin (length files) constant

-- the constants of a file at a position
abbrev pub AreConstantsAt : List ClassFile → ℕ → List Constant → Type 0
AreConstantsAt files at constants = (file : ClassFile) × (slice_get files at ≡ Some file) × AreConstants files file constants

-- such lists for the first n files
pub record AreLinked (files : List ClassFile) (n : ℕ) (lists : List (List Constant)) : Type 0 where
  pub count : length lists ≡ n
  pub each : (at : ℕ) (constants : List Constant) → slice_get lists at ≡ Some constants → AreConstantsAt files at constants
