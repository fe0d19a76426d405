-- Lists of what constants name, one more at a time.
use Rattle.std.proofs.Common.{◌≡◌, ℕ, zero, suc, ◌+◌, ◌<◌, ◌≤◌, ◌^◌, List, [], ◌∷◌, ◌++◌, length, get_or, Option, None, Some, refl, sym, ap, ◌∙◌, subst, arith, length-append}
use Rattle.std.specs.Prelude.{slice_get}
use Rattle.std.proofs.lemmas.Option.{none-some, same_Some, slice_get_read}
use Rattle.class_form.specs.declared.class_file.ClassFile.{ClassFile}
use Rattle.jvm_link.specs.declared.constant.Constant.{Constant}
use Rattle.jvm_link.specs.Links.{IsConstant, IsWithin, AreConstants, AreConstantsAt, AreLinked}

none_there : {A : Type 0} {B : Type 0} (x : A) → None ≡ Some x → B
none_there x e = absurd (none-some x e)

pub each_more : {X : Type 0} (P : ℕ → X → Type 0) (xs : List X) (x : X) → ((i : ℕ) (y : X) → slice_get xs i ≡ Some y → P i y) → P (length xs) x
    → (i : ℕ) (y : X) → slice_get (xs ++ x ∷ []) i ≡ Some y → P i y
each_more P [] x h p zero y e = subst (P zero) (same_Some x y e) p
each_more P [] x h p (suc i) y e = none_there y e
each_more P (z ∷ zs) x h p zero y e = h zero y e
each_more P (z ∷ zs) x h p (suc i) y e = each_more (λ k. P (suc k)) zs x (λ k. h (suc k)) p i y e

-- the constants so far
pub record AreFirst (files : List ClassFile) (file : ClassFile) (n : ℕ) (constants : List Constant) : Type 0 where
  pub count : length constants ≡ n
  pub each : (i : ℕ) (constant : Constant) → slice_get constants i ≡ Some constant → IsConstant files file i constant
  pub within : (i : ℕ) (constant : Constant) → slice_get constants i ≡ Some constant → IsWithin (length files) constant

pub first_none : (files : List ClassFile) (file : ClassFile) → AreFirst files file zero []
first_none files file = record { count = refl; each = λ i constant e. none_there constant e; within = λ i constant e. none_there constant e }

pub first_more : (files : List ClassFile) (file : ClassFile) (n : ℕ) (constants : List Constant) (constant : Constant) → AreFirst files file n constants → IsConstant files file n constant → IsWithin (length files) constant → AreFirst files file (n + 1) (constants ++ constant ∷ [])
first_more files file n constants constant a h w = record {
  count = omega (arith, length-append constants (constant ∷ []), a.count);
  each = each_more (IsConstant files file) constants constant a.each (subst (λ k. IsConstant files file k constant) (sym a.count) h);
  within = each_more (λ i x. IsWithin (length files) x) constants constant a.within w;
}

pub first_all : (files : List ClassFile) (file : ClassFile) (n : ℕ) (constants : List Constant) → (n < 2 ^ 16 → length file.constants ≤ n) → AreFirst files file n constants → AreConstants files file constants
first_all files file n constants few a = record {
  each = a.each;
  all = λ i lt le. let m : n < 65536 = omega (arith, a.count) in omega (arith, a.count, few m);
  within = a.within;
}

-- the files so far
pub linked_none : (files : List ClassFile) → AreLinked files zero []
linked_none files = record { count = refl; each = λ at constants e. none_there constants e }

pub linked_more : (files : List ClassFile) (n : ℕ) (lists : List (List Constant)) (file : ClassFile) (constants : List Constant) → n < length files → file ≡ get_or files n file → AreLinked files n lists → AreConstants files file constants → AreLinked files (n + 1) (lists ++ constants ∷ [])
linked_more files n lists file constants lt is a h = record {
  count = omega (arith, length-append lists (constants ∷ []), a.count);
  each = each_more (AreConstantsAt files) lists constants a.each (subst (λ k. AreConstantsAt files k constants) (sym a.count) (file, slice_get_read files (length files) n file refl lt is, h));
}

-- what is known of a constant of a file
pub known : (files : List ClassFile) (at i : ℕ) (constants : List Constant) (constant : Constant) (file : ClassFile) → AreConstantsAt files at constants → slice_get constants i ≡ Some constant → slice_get files at ≡ Some file → IsConstant files file i constant
known files at i constants constant file a e f = subst (λ (x : ClassFile). IsConstant files x i constant) (same_Some a.0 file (sym a.1 ∙ f)) (a.2.each i constant e)
