-- Where fields stand among those of their class, and those of a class among all of an object.
use Rattle.std.specs.Prelude.{◌≡◌, ℕ, ◌-◌, ◌*◌, ◌<◌, ◌≤◌, List, [], length, filter, take, reverse, get_or, Some}
use Rattle.class_form.specs.declared.class_file.ClassFile.{ClassFile}
use Rattle.class_form.specs.declared.member.MemberInfo.{MemberInfo}
use Rattle.jp_store.specs.Classes.{Class, line, offset_in}
use Rattle.jvm_load.specs.FileClasses.{is_static}
use Rattle.jvm_load.specs.Fields.{member_role}

-- for each field how many before it are static as it is
pub record IsRanked (fields : List MemberInfo) (ranks : List ℕ) : Type 0 where
  pub count : length ranks ≡ length fields
  pub each : (i : ℕ) (d : MemberInfo) → i < length fields
      → get_or ranks i 0 ≡ length (filter (member_role (is_static (get_or fields i d))) (take i fields))

-- such lists for the first n files
pub record AreRanked (files : List ClassFile) (n : ℕ) (lists : List (List ℕ)) : Type 0 where
  pub count : length lists ≡ n
  pub each : (at : ℕ) (d : ClassFile) → at < n → IsRanked (get_or files at d).fields (get_or lists at [])

-- For each class of a line, from the topmost down, how many values of an object stand before those of the class. None
-- is larger than so many files can have fields.
pub record AreOffsets (classes : List Class) (up : List ℕ) (offsets : List ℕ) : Type 0 where
  pub count : length offsets ≡ length up
  pub each : (j : ℕ) → j < length offsets → offset_in classes (get_or up (length up - 1 - j) 0) (reverse up) ≡ Some (get_or offsets j 0)
  pub most : (j : ℕ) → j < length offsets → get_or offsets j 0 ≤ length up * 4294967295

-- such lists for the lines of the first n classes
pub record AreOffsetLists (classes : List Class) (n : ℕ) (lists : List (List ℕ)) : Type 0 where
  pub count : length lists ≡ n
  pub each : (at : ℕ) → at < n → AreOffsets classes (line classes at) (get_or lists at [])
