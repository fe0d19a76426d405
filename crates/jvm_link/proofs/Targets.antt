-- What a special call finds, by the target that its constant names.
use Rattle.std.proofs.Common.{◌≡◌, ℕ, Bool, true, false, List, Option, Some, sym, ap, ◌∙◌}
use Rattle.std.specs.Prelude.{option_and_then, codes, if◌then◌else◌}
use Rattle.std.specs.Option.{option_map}
use Rattle.std.specs.Str.{bytes_eq}
use Rattle.class_form.specs.declared.class_file.ClassFile.{ClassFile}
use Rattle.class_form.specs.Constants.{class_name_at}
use Rattle.jp_store.specs.declared.value.Value.{Value}
use Rattle.jp_store.specs.declared.heap.Thing.{Thing}
use Rattle.jp_store.specs.Classes.{Key}
use Rattle.jvm_table.specs.Act.{Constructor, MethodAbove, special_target}
use Rattle.jvm_step.specs.Turn.{found_by}

pub by_constructor : (files : List ClassFile) (heap : List Thing) (args : List Value) (file : ClassFile) (key : Key) (found : Option (ℕ × ℕ)) → bytes_eq key.name (codes "<init>") ≡ true → found ≡ found_by files heap (Constructor key) args → found ≡ option_and_then (λ target. found_by files heap target args) (special_target file key)
by_constructor files heap args file key found e m =
    m ∙ sym (ap (λ b. option_and_then (λ target. found_by files heap target args) (if b then Some (Constructor key) else option_map (λ current. MethodAbove current key.name key.descriptor) (class_name_at file file.this_class))) e)

pub by_above : (files : List ClassFile) (heap : List Thing) (args : List Value) (file : ClassFile) (key : Key) (class : List ℕ) (found : Option (ℕ × ℕ)) → bytes_eq key.name (codes "<init>") ≡ false → class_name_at file file.this_class ≡ Some class → found ≡ found_by files heap (MethodAbove class key.name key.descriptor) args → found ≡ option_and_then (λ target. found_by files heap target args) (special_target file key)
by_above files heap args file key class found e n m =
    m ∙ sym (ap (λ b. option_and_then (λ target. found_by files heap target args) (if b then Some (Constructor key) else option_map (λ current. MethodAbove current key.name key.descriptor) (class_name_at file file.this_class))) e
    ∙ ap (λ o. option_and_then (λ target. found_by files heap target args) (option_map (λ current. MethodAbove current key.name key.descriptor) o)) n)
