-- Members that are found upwards.
use Rattle.std.proofs.Common.{◌≡◌, ℕ, List, [], Option, Some, None, refl, ap, ◌∙◌}
use Rattle.std.specs.Prelude.{slice_get, position}
use Rattle.std.specs.Option.{option_map, option_map_or}
use Rattle.std.specs.Str.{bytes_eq}
use Rattle.std.proofs.lemmas.Option.{slice_get-map}
use Rattle.class_form.specs.declared.class_file.ClassFile.{ClassFile}
use Rattle.jp_store.specs.Classes.{Class, Field, own_fields}
use Rattle.jvm_load.specs.FileClasses.{class_of, classes_of, field_of_member, text_at}
use Rattle.jvm_load.specs.Methods.{own_field}
use Rattle.jvm_load.proofs.Positions.{position_map}

abbrev pub own : List Class → List ℕ → ℕ → Option ℕ
own classes name at = position (λ (f : Field). bytes_eq f.name name) (own_fields classes at)

-- the own field of a class of files
of_file : (name : List ℕ) (o : Option ClassFile) → position (λ (f : Field). bytes_eq f.name name) (option_map_or (λ (c : Class). c.fields) (option_map class_of o) []) ≡ option_map_or (λ (file : ClassFile). position (λ member. bytes_eq (text_at file member.name) name) file.fields) o None
of_file name None = refl
of_file name (Some file) = position_map (field_of_member file) (λ (f : Field). bytes_eq f.name name) file.fields

pub own_is : (files : List ClassFile) (name : List ℕ) (at : ℕ) → own (classes_of files) name at ≡ own_field files name at
own_is files name at =
    ap (λ o. position (λ (f : Field). bytes_eq f.name name) (option_map_or (λ (c : Class). c.fields) o [])) (slice_get-map class_of files at) ∙ of_file name (slice_get files at)
