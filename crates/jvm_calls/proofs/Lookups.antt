-- Nothing is found upwards from a place that has no file.
use Rattle.std.proofs.Common.{◌≡◌, ℕ, zero, suc, ◌≤◌, List, [], ◌∷◌, length, Option, Some, None, refl, ap, ◌∙◌, arith}
use Rattle.std.proofs.lemmas.List.{length-map}
use Rattle.std.specs.Prelude.{option_and_then, position, slice_get}
use Rattle.std.specs.Option.{option_map_or}
use Rattle.class_form.specs.declared.class_file.ClassFile.{ClassFile}
use Rattle.jp_store.specs.Classes.{Class, line_from, super_of, place_of}
use Rattle.jvm_load.specs.FileClasses.{class_of, classes_of}
use Rattle.jvm_load.specs.Methods.{is_method, first_method, find_method}

past : {A : Type 0} (xs : List A) (i : ℕ) → length xs ≤ i → slice_get xs i ≡ None
past [] i h = refl
past (x ∷ xs) zero h = absurd (omega arith)
past (x ∷ xs) (suc i) h = past xs i (omega arith)

no_super : (files : List ClassFile) (at : ℕ) → length files ≤ at → super_of (classes_of files) at ≡ None
no_super files at h =
    let short : length (classes_of files) ≤ at = omega (arith, length-map files class_of, h) in
    ap (option_and_then (λ (c : Class). option_and_then (place_of (classes_of files)) c.superclass)) (past (classes_of files) at short)

nowhere_in : (n : ℕ) (files : List ClassFile) (at : ℕ) (name descriptor : List ℕ) → length files ≤ at → first_method files name descriptor (line_from n (classes_of files) [] at) ≡ None
unfolding line_from
nowhere_in zero files at name descriptor h = refl
nowhere_in (suc n) files at name descriptor h =
    ap (λ o. first_method files name descriptor (at ∷ option_map_or (line_from n (classes_of files) (at ∷ [])) o [])) (no_super files at h)
    ∙ ap (λ (o : Option ClassFile). option_map_or (λ i. Some (at, i)) (option_map_or (λ file. position (is_method name descriptor file) file.methods) o None) None) (past files at h)

pub nowhere : (files : List ClassFile) (at : ℕ) (name descriptor : List ℕ) → length files ≤ at → find_method files at name descriptor ≡ None
nowhere files at name descriptor h = nowhere_in (length (classes_of files)) files at name descriptor h
