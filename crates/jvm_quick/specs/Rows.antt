-- Tables of instructions by their places.
use Rattle.std.specs.Prelude.{◌≡◌, ℕ, List, Option, Some, slice_get, option_and_then}
use Rattle.class_form.specs.declared.class_file.ClassFile.{ClassFile}
use Rattle.class_form.specs.declared.member.MemberInfo.{MemberInfo}
use Rattle.jvm_table.specs.declared.decode.Row.{Row}
use Rattle.jvm_table.specs.declared.frame.Frame.{Frame}
use Rattle.jvm_table.specs.Act.{Act, on_found, act, acts}
use Rattle.jvm_table.specs.Decode.{row_at}

-- the row at a place, if there is one
abbrev pub row_in : List (Option Row) → ℕ → Option Row
row_in rows place = option_and_then (λ row. row) (slice_get rows place)

-- what a row does to a frame
abbrev pub done_by : ClassFile → MemberInfo → Option Row → Frame → Act
done_by file method row f = on_found row (λ r. act file method r.instr (record f { place = r.next }))

-- a row does what the one at a place of a code does
abbrev pub DoesAsAt : ClassFile → List ℕ → ℕ → Option Row → Type 0
DoesAsAt file code place row = (method : MemberInfo) (f : Frame) → done_by file method row f ≡ done_by file method (row_at code place) f

-- rows by place do what a code does
abbrev pub DoAsCode : ClassFile → List ℕ → List (Option Row) → Type 0
DoAsCode file code rows = (place : ℕ) → DoesAsAt file code place (row_in rows place)

-- and what a method does
abbrev pub DoAs : ClassFile → MemberInfo → List (Option Row) → Type 0
DoAs file method rows = (f : Frame) → done_by file method (row_in rows f.place) f ≡ acts file method f

-- the rows of a method at a position
abbrev pub IsOfMethod : ClassFile → ℕ → List (Option Row) → Type 0
IsOfMethod file at rows = (method : MemberInfo) × (slice_get file.methods at ≡ Some method) × DoAs file method rows

-- the rows of a file's methods
abbrev pub AreOfFile : ClassFile → List (List (Option Row)) → Type 0
AreOfFile file lists = (at : ℕ) (rows : List (Option Row)) → slice_get lists at ≡ Some rows → IsOfMethod file at rows

-- those of a file at a position
abbrev pub IsOfFile : List ClassFile → ℕ → List (List (Option Row)) → Type 0
IsOfFile files at lists = (file : ClassFile) × (slice_get files at ≡ Some file) × AreOfFile file lists

-- those of all files
abbrev pub AreDecoded : List ClassFile → List (List (List (Option Row))) → Type 0
AreDecoded files all = (at : ℕ) (lists : List (List (Option Row))) → slice_get all at ≡ Some lists → IsOfFile files at lists
