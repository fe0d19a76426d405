-- A method that is a file's own is found.
use Rattle.std.proofs.Common.{◌≡◌, ℕ, List, [], ◌∷◌, ◌++◌, Option, Some, None, sym, ap, ◌∙◌, subst}
use Rattle.std.specs.Prelude.{Bool, true, false, ◌&&◌, position, slice_get, option_and_then}
use Rattle.std.specs.Option.{option_map, option_map_or}
use Rattle.std.specs.Str.{bytes_eq}
use Rattle.std.proofs.lemmas.Bool.{false≢true}
use Rattle.std.proofs.lemmas.Option.{get_or_from_slice_get}
use Rattle.std.proofs.lemmas.List.Quantifiers.{position-Some}
use Rattle.std.proofs.lemmas.Slice.Eq.{bytes_eq-Decides}
use Rattle.class_form.specs.declared.class_file.ClassFile.{ClassFile}
use Rattle.class_form.specs.declared.member.MemberInfo.{MemberInfo}
use Rattle.jvm_load.specs.FileClasses.{text_at}
use Rattle.jvm_load.specs.Methods.{is_method, own_method, first_method, find_method}
use Rattle.whole_program.specs.Found.{HaveNone, IsFirstFrom, OwnMethodIsRun}

second_true : (a b : Bool) → (a && b) ≡ true → b ≡ true
second_true true b e = e
second_true false b e = absurd (false≢true e)

module _ (files : List ClassFile) (name descriptor : List ℕ) where
  -- the first file that has it is the one at which a search ends
  first_is : (before : List ℕ) (at : ℕ) (more : List ℕ) (i : ℕ) → HaveNone files name descriptor before → own_method files name descriptor at ≡ Some i → first_method files name descriptor (before ++ at ∷ more) ≡ Some (at, i)
  first_is [] at more i none e = ap (λ (o : Option ℕ). option_map_or (λ i. Some (at, i)) o (first_method files name descriptor more)) e
  first_is (b ∷ bs) at more i none e =
      ap (λ (o : Option ℕ). option_map_or (λ i. Some (b, i)) o (first_method files name descriptor (bs ++ at ∷ more))) none.0 ∙ first_is bs at more i none.1 e

  found_from : (own at i : ℕ) → IsFirstFrom files name descriptor own at → own_method files name descriptor at ≡ Some i → find_method files own name descriptor ≡ Some (at, i)
  found_from own at i f e = ap (first_method files name descriptor) f.2 ∙ first_is f.0 at f.1 i f.3 e

  named_so : (at i : ℕ) (file : ClassFile) (method : MemberInfo) → slice_get files at ≡ Some file → own_method files name descriptor at ≡ Some i → slice_get file.methods i ≡ Some method → text_at file method.descriptor ≡ descriptor
  named_so at i file method there own is =
      let e = sym (ap (λ (o : Option ClassFile). option_map_or (λ file. position (is_method name descriptor file) file.methods) o None) there) ∙ own in
      let q = position-Some (is_method name descriptor file) file.methods i method e in
      let same = get_or_from_slice_get file.methods i method method is in
      let both = subst (λ (m : MemberInfo). is_method name descriptor file m ≡ true) same q.1 in
      (bytes_eq-Decides (text_at file method.descriptor) descriptor).0 (second_true (bytes_eq (text_at file method.name) name) (bytes_eq (text_at file method.descriptor) descriptor) both)

pub own_is_run : OwnMethodIsRun
own_is_run files heap key args at i file method frame there own is enters =
    let named = named_so files key.name key.descriptor at i file method there own is in
    record {
      static = λ from place f role. record {
        at = (at, i);
        found = ap (λ (o : Option ℕ). option_and_then (λ k. find_method files k key.name key.descriptor) o) place ∙ found_from files key.name key.descriptor from at i f own;
        file_there = there;
        method_there = is;
        role = role;
        descriptor = named;
        frame = frame;
        enters = enters;
      };
      constructor = λ place role. record {
        at = (at, i);
        found = ap (λ (o : Option ℕ). option_and_then (λ k. option_map (λ j. (k, j)) (own_method files key.name key.descriptor k)) o) place ∙ ap (λ (o : Option ℕ). option_map (λ j. (at, j)) o) own;
        file_there = there;
        method_there = is;
        role = role;
        descriptor = named;
        frame = frame;
        enters = enters;
      };
      virtual = λ from place f role. record {
        at = (at, i);
        found = ap (λ (o : Option ℕ). option_and_then (λ k. find_method files k key.name key.descriptor) o) place ∙ found_from files key.name key.descriptor from at i f own;
        file_there = there;
        method_there = is;
        role = role;
        descriptor = named;
        frame = frame;
        enters = enters;
      };
      above = λ current from place f role. record {
        at = (at, i);
        found = ap (λ (o : Option ℕ). option_and_then (λ k. find_method files k key.name key.descriptor) o) place ∙ found_from files key.name key.descriptor from at i f own;
        file_there = there;
        method_there = is;
        role = role;
        descriptor = named;
        frame = frame;
        enters = enters;
      };
    }
