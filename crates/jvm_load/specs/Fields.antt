-- The fields of files' classes, and fields that are found, as the code has them.
use Rattle.std.specs.Prelude.{ℕ, ◌<◌, Bool, true, false, not, ◌&&◌, List, length, filter, take, Option, None, if◌then◌else◌}
use Rattle.std.specs.Option.{option_map}
use Rattle.std.specs.Str.{bytes_eq}
use Rattle.class_form.specs.declared.class_file.ClassFile.{ClassFile}
use Rattle.class_form.specs.declared.member.MemberInfo.{MemberInfo}
use Rattle.jp_store.specs.declared.value.Value.{Value}
use Rattle.jp_store.specs.declared.value.ClassAt.{ClassAt}
use Rattle.jp_store.specs.declared.value.ClassAt.TheVariants.{Root, Listed}
use Rattle.jp_store.specs.Classes.{Found, first_value, kind_of}
use Rattle.jvm_load.specs.FileClasses.{field_of_member, is_static, text_at}
use Rattle.jvm_load.specs.declared.fields.FieldPlace.{FieldPlace}

-- whether a field of a file is static, or one of each object
abbrev pub member_role : Bool → MemberInfo → Bool
member_role true member = is_static member
member_role false member = not (is_static member)

-- what a field of a file starts as
abbrev pub first_of : ClassFile → MemberInfo → Value
first_of file member = first_value (field_of_member file member)

-- a field's place
abbrev pub found_at : FieldPlace → Found
found_at place = record { class = place.class; slot = place.slot; kind = place.kind }

-- the field at a position of a file's fields, where it is static as wanted and has the wanted descriptor
abbrev pub fitted_in : Bool → List ℕ → ℕ → ℕ → ClassFile → MemberInfo → Option Found
fitted_in static descriptor at i file member =
    if member_role static member && bytes_eq (text_at file member.descriptor) descriptor
    then option_map (λ kind. record { class = at; slot = length (filter (member_role static) (take i file.fields)); kind = kind }) (kind_of (text_at file member.descriptor))
    else None

-- a class that has a file among the first n, or Object
abbrev pub IsAmongFirst : ℕ → ClassAt → Type 0
IsAmongFirst n Root = Unit {0}
IsAmongFirst n (Listed at) = at < n
