-- Where the classes of a program stand, and their files.
use Rattle.std.proofs.Common.{◌≡◌, ℕ, zero, suc, Bool, true, false, List, [], ◌∷◌, map, Some, refl, sym, ap, ◌∙◌, subst, arith}
use Rattle.std.specs.Prelude.{◌≢◌, cond, is_some, slice_get, if◌then◌else◌}
use Rattle.std.specs.List.{list_all}
use Rattle.std.specs.Str.{bytes_eq}
use Rattle.std.proofs.lemmas.Bool.{false≢true, true≢false, false_from_ne_true}
use Rattle.std.proofs.lemmas.Slice.Eq.{bytes_eq-Decides}
use Rattle.class_form.proofs.Facts.{both}
use Rattle.class_form.specs.declared.class_file.ClassFile.{ClassFile}
use Rattle.jp_pred.specs.declared.hier.Hier.{Hier}
use Rattle.jp_pred.specs.Names.{Word, object, same}
use Rattle.jp_store.specs.Classes.{Class, object_name, place_of}
use Rattle.jp_meaning.specs.declared.unit.TypedClass.{TypedClass}
use Rattle.jp_meaning.specs.declared.unit.TypedMember.{TypedMember}
use Rattle.jp_meaning.specs.Descriptors.{internal_name, word_of}
use Rattle.jp_meaning.specs.Classes.{class_of_head, hier_in, class_in}
use Rattle.jp_meaning.specs.Run.{Program}
use Rattle.jvm_load.specs.FileClasses.{classes_of}
use Rattle.jvm_load.proofs.Positions.{position_map}
use Rattle.whole_program.specs.Fits.{store_classes}
use Rattle.gen_laws.specs.Compiled.{IsFileOf, AreFilesOf, IsCompiled}
use Rattle.gen_body.specs.Correct.{KeepsReceiver}
use Rattle.calls_fit.specs.Fitting.{member_fits, ProgramFits}
use Rattle.gen_laws.specs.Plain.{IsNamed}
use Rattle.gen_laws.proofs.Lists.{one_there, only_position}
use Rattle.gen_laws.proofs.Receiving.{receiver_kept}

same_bytes : (a b : List ℕ) → a ≡ b → bytes_eq a b ≡ true
same_bytes a b e = (bytes_eq-Decides a b).1 e

pub equal_bytes : (a b : List ℕ) → bytes_eq a b ≡ true → a ≡ b
equal_bytes a b e = (bytes_eq-Decides a b).0 e

-- the classes of files that are compiled class by class
files_classes : (hier : Hier) (most : ℕ) (cs : List TypedClass) (files : List ClassFile) → AreFilesOf hier cs files most → classes_of files ≡ map (λ c. class_of_head c.head) cs
files_classes hier most [] [] h = refl
files_classes hier most [] (file ∷ files) h = absurd h
files_classes hier most (c ∷ cs) [] h = absurd h
files_classes hier most (c ∷ cs) (file ∷ files) h =
    ap (λ (k : Class). k ∷ classes_of files) h.0.class ∙ ap (λ (ks : List Class). class_of_head c.head ∷ ks) (files_classes hier most cs files h.1)

-- the file of a class
pub record FileAt (hier : Hier) (most : ℕ) (files : List ClassFile) (at : ℕ) (c : TypedClass) : Type 0 where
  pub file : ClassFile
  pub there : slice_get files at ≡ Some file
  pub is : IsFileOf hier c file most

file_in : (hier : Hier) (most : ℕ) (cs : List TypedClass) (files : List ClassFile) → AreFilesOf hier cs files most → (at : ℕ) (c : TypedClass) → slice_get cs at ≡ Some c → FileAt hier most files at c
file_in hier most [] [] h at c e = absurd (false≢true (ap is_some e))
file_in hier most [] (file ∷ files) h at c e = absurd h
file_in hier most (d ∷ cs) [] h at c e = absurd h
file_in hier most (d ∷ cs) (file ∷ files) h zero c e = record { file = file; there = refl; is = subst (λ c. IsFileOf hier c file most) (one_there (Some d) d c refl e) h.0 }
file_in hier most (d ∷ cs) (file ∷ files) h (suc at) c e = let r = file_in hier most cs files h.1 at c e in record { file = r.file; there = r.there; is = r.is }

-- a class that is found by its name
pub record ClassAt (classes : List TypedClass) (name : Word) (c : TypedClass) : Type 0 where
  pub at : ℕ
  pub there : slice_get classes at ≡ Some c
  pub named : c.head.name ≡ name

pub class_found : (classes : List TypedClass) (name : Word) (c : TypedClass) → class_in classes name ≡ Some c → ClassAt classes name c
class_found [] name c e = absurd (false≢true (ap is_some e))
class_found (d ∷ classes) name c e = by_first (same d.head.name name) refl e (λ e. class_found classes name c e) where
  by_first : (b : Bool) → same d.head.name name ≡ b → cond b (Some d) (class_in classes name) ≡ Some c → (class_in classes name ≡ Some c → ClassAt classes name c) → ClassAt (d ∷ classes) name c
  by_first true k e rec =
      let is = one_there (Some d) d c refl e in
      record { at = zero; there = ap (λ (x : TypedClass). Some x) is; named = subst (λ (x : TypedClass). x.head.name ≡ name) is (equal_bytes d.head.name name k) }
  by_first false k e rec = let r = rec e in record { at = suc r.at; there = r.there; named = r.named }

pub class_only : (classes : List TypedClass) (at : ℕ) (c : TypedClass) → slice_get classes at ≡ Some c → ((i : ℕ) (d : TypedClass) → slice_get classes i ≡ Some d → d.head.name ≡ c.head.name → i ≡ at) → class_in classes c.head.name ≡ Some c
class_only [] at c e one = absurd (false≢true (ap is_some e))
class_only (d ∷ classes) zero c e one =
    let is = one_there (Some d) d c refl e in
    ap (λ b. cond b (Some d) (class_in classes c.head.name)) (same_bytes d.head.name c.head.name (ap (λ (x : TypedClass). x.head.name) is)) ∙ ap (λ (x : TypedClass). Some x) is
class_only (d ∷ classes) (suc at) c e one =
    ap (λ b. cond b (Some d) (class_in classes c.head.name)) (false_from_ne_true (same d.head.name c.head.name) (λ k. omega (arith, one zero d refl (equal_bytes d.head.name c.head.name k))))
    ∙ class_only classes at c e (λ i d' there k. omega (arith, one (suc i) d' there k))

-- a member of a list of which all pass a test
pub passes_at : {A : Type 0} (test : A → Bool) (xs : List A) (i : ℕ) (x : A) → list_all test xs ≡ true → slice_get xs i ≡ Some x → test x ≡ true
passes_at test [] i x all e = absurd (false≢true (ap is_some e))
passes_at test (y ∷ ys) zero x all e = ap test (sym (one_there (Some y) y x refl e)) ∙ (both (test y) (list_all test ys) all).0
passes_at test (y ∷ ys) (suc i) x all e = passes_at test ys i x (both (test y) (list_all test ys) all).1 e

-- what is known of a program whose trees fit, and whose names are as the rules say
pub record Named (p : Program) : Type 0 where
  pub names : IsNamed p
  pub ordinary : (i : ℕ) (c : TypedClass) → slice_get p.classes i ≡ Some c → (c.head.name ≢ object) × (c.head.name ≢ object_name)
  pub kept : (i j : ℕ) (c : TypedClass) (m : TypedMember) → slice_get p.classes i ≡ Some c → slice_get c.members j ≡ Some m → KeepsReceiver (hier_in p.classes) c.head m

pub named_of : (p : Program) → ProgramFits p → IsNamed p → Named p
named_of p fits names = record {
  names = names;
  ordinary = λ i c e. (λ is. true≢false (sym (same_bytes c.head.name object is) ∙ (fits.each i c e).named), names.ordinary i c e);
  kept = λ i j c m e f. receiver_kept p (hier_in p.classes) c.head m (passes_at (member_fits p c.head) c.members j m (fits.each i c e).members f);
}

module _ (p : Program) (files : List ClassFile) (most : ℕ) (names : Named p) (compiled : IsCompiled p files most) where
  pub classes_are : classes_of files ≡ store_classes p
  classes_are = files_classes (hier_in p.classes) most p.classes files compiled

  pub file_at : (at : ℕ) (c : TypedClass) → slice_get p.classes at ≡ Some c → FileAt (hier_in p.classes) most files at c
  file_at = file_in (hier_in p.classes) most p.classes files compiled

  -- a class's name is the same in code
  pub named_so : (at : ℕ) (c : TypedClass) → slice_get p.classes at ≡ Some c → internal_name c.head.name ≡ c.head.name
  named_so at c e =
      ap (λ b. if b then object_name else c.head.name) (false_from_ne_true (same c.head.name object) (λ k. (names.ordinary at c e).0 (equal_bytes c.head.name object k)))

  -- and the class is found by it
  pub found_by_name : (at : ℕ) (c : TypedClass) → slice_get p.classes at ≡ Some c → class_in p.classes c.head.name ≡ Some c
  found_by_name at c e = class_only p.classes at c e (λ i d there k. names.names.distinct i at d c there e k)

  pub placed_at : (at : ℕ) (c : TypedClass) → slice_get p.classes at ≡ Some c → place_of (classes_of files) c.head.name ≡ Some at
  placed_at at c e =
      ap (λ (k : List Class). place_of k c.head.name) classes_are ∙ position_map (λ (d : TypedClass). class_of_head d.head) (λ (k : Class). bytes_eq k.name c.head.name) p.classes
      ∙ only_position (λ (d : TypedClass). bytes_eq (internal_name d.head.name) c.head.name) p.classes at c e (same_bytes (internal_name c.head.name) c.head.name (named_so at c e))
      (λ i d there k. names.names.distinct i at d c there e (sym (named_so i d there) ∙ equal_bytes (internal_name d.head.name) c.head.name k))

  -- a class that code names
  pub record Coded (name : List ℕ) (c : TypedClass) : Type 0 where
    pub at : ℕ
    pub there : slice_get p.classes at ≡ Some c
    pub named : c.head.name ≡ name
    pub placed : place_of (classes_of files) name ≡ Some at

  pub coded : (name : List ℕ) (c : TypedClass) → class_in p.classes (word_of name) ≡ Some c → Coded name c
  coded name c e = by_object (same name object_name) refl (class_found p.classes (word_of name) c e) where
    by_object : (b : Bool) → same name object_name ≡ b → ClassAt p.classes (word_of name) c → Coded name c
    by_object true k r = absurd ((names.ordinary r.at c r.there).0 (r.named ∙ ap (λ b. if b then object else name) k))
    by_object false k r =
        let is = r.named ∙ ap (λ b. if b then object else name) k in
        record { at = r.at; there = r.there; named = is; placed = ap (place_of (classes_of files)) (sym is) ∙ placed_at r.at c r.there }
