-- Methods are found by name and descriptor, upwards from a class: the first of a file counts.
use Rattle.std.specs.Prelude.{ℕ, Bool, ◌&&◌, List, [], ◌∷◌, Option, Some, None, position, slice_get}
use Rattle.std.specs.Option.{option_map_or}
use Rattle.std.specs.Str.{bytes_eq}
use Rattle.class_form.specs.declared.class_file.ClassFile.{ClassFile}
use Rattle.class_form.specs.declared.member.MemberInfo.{MemberInfo}
use Rattle.jp_store.specs.Classes.{line}
use Rattle.jvm_load.specs.FileClasses.{text_at, classes_of}

-- whether a method of a file has this name and descriptor
abbrev pub is_method : List ℕ → List ℕ → ClassFile → MemberInfo → Bool
is_method name descriptor file member = bytes_eq (text_at file member.name) name && bytes_eq (text_at file member.descriptor) descriptor

-- the first field of this name of the file at a position
abbrev pub own_field : List ClassFile → List ℕ → ℕ → Option ℕ
own_field files name at = option_map_or (λ file. position (λ member. bytes_eq (text_at file member.name) name) file.fields) (slice_get files at) None

-- the first method of this name and descriptor of the file at a position
abbrev pub own_method : List ClassFile → List ℕ → List ℕ → ℕ → Option ℕ
own_method files name descriptor at = option_map_or (λ file. position (is_method name descriptor file) file.methods) (slice_get files at) None

-- the first of the files that has such a method, and the method's position there
abbrev pub first_method : List ClassFile → List ℕ → List ℕ → List ℕ → Option (ℕ × ℕ)
first_method files name descriptor [] = None
first_method files name descriptor (at ∷ more) =
    option_map_or (λ i. Some (at, i)) (own_method files name descriptor at) (first_method files name descriptor more)

-- the method that is found upwards from a file's class
abbrev pub find_method : List ClassFile → ℕ → List ℕ → List ℕ → Option (ℕ × ℕ)
find_method files at name descriptor = first_method files name descriptor (line (classes_of files) at)
