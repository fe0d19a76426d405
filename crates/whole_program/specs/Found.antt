-- How a call finds a method that stands in a file.
use Rattle.std.specs.Prelude.{◌≡◌, ℕ, List, [], ◌∷◌, ◌++◌, Some, None, true, false, slice_get, option_and_then}
use Rattle.class_form.specs.declared.class_file.ClassFile.{ClassFile}
use Rattle.class_form.specs.declared.member.MemberInfo.{MemberInfo}
use Rattle.jp_store.specs.declared.value.Value.{Value}
use Rattle.jp_store.specs.declared.heap.Thing.{Thing}
use Rattle.jp_store.specs.Classes.{Key, place_of, super_of, line}
use Rattle.jvm_table.specs.declared.frame.Frame.{Frame}
use Rattle.jvm_table.specs.Act.{StaticMethod, VirtualMethod, Constructor, MethodAbove}
use Rattle.jvm_load.specs.FileClasses.{is_static, classes_of}
use Rattle.jvm_load.specs.Methods.{own_method}
use Rattle.jvm_step.specs.Turn.{receiver_class}
use Rattle.code_trace.specs.Entry.{entry}
use Rattle.whole_program.specs.Right.{call_to, RunsAs}

-- none of these files has a method of the name and descriptor
abbrev pub HaveNone : List ClassFile → List ℕ → List ℕ → List ℕ → Type 0
HaveNone files name descriptor [] = Unit {0}
HaveNone files name descriptor (at ∷ more) = (own_method files name descriptor at ≡ None) × HaveNone files name descriptor more

-- upwards from a file's class, this is the first file that has such a method
abbrev pub IsFirstFrom : List ClassFile → List ℕ → List ℕ → ℕ → ℕ → Type 0
IsFirstFrom files name descriptor own at =
    (before : List ℕ) × (more : List ℕ) × (line (classes_of files) own ≡ before ++ at ∷ more) × HaveNone files name descriptor before

-- A method that is a file's own, with code that has room for the arguments, is run by each call that looks for its name
-- and descriptor from a file above which, or in which, it is the first
pub record IsRunBy (files : List ClassFile) (heap : List Thing) (key : Key) (args : List Value) (at : ℕ) (file : ClassFile) (method : MemberInfo) : Type 0 where
  pub static : (own : ℕ) → place_of (classes_of files) key.class ≡ Some own → IsFirstFrom files key.name key.descriptor own at → is_static method ≡ true → RunsAs files heap (call_to (StaticMethod key) args) file method
  pub constructor : place_of (classes_of files) key.class ≡ Some at → is_static method ≡ false → RunsAs files heap (call_to (Constructor key) args) file method
  pub virtual : (own : ℕ) → receiver_class heap args ≡ Some own → IsFirstFrom files key.name key.descriptor own at → is_static method ≡ false → RunsAs files heap (call_to (VirtualMethod key.name key.descriptor) args) file method
  pub above : (current : List ℕ) (own : ℕ) → option_and_then (super_of (classes_of files)) (place_of (classes_of files) current) ≡ Some own → IsFirstFrom files key.name key.descriptor own at → is_static method ≡ false →
      RunsAs files heap (call_to (MethodAbove current key.name key.descriptor) args) file method

abbrev pub OwnMethodIsRun : Type 0
OwnMethodIsRun =
    (files : List ClassFile) (heap : List Thing) (key : Key) (args : List Value) (at i : ℕ) (file : ClassFile) (method : MemberInfo) (frame : Frame) → slice_get files at ≡ Some file → own_method files key.name key.descriptor at ≡ Some i → slice_get file.methods i ≡ Some method → entry method args ≡ Some frame →
    IsRunBy files heap key args at file method
