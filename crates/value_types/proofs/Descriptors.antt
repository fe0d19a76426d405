-- Types with one descriptor have the same values.
use Rattle.std.proofs.Common.{◌≡◌, ℕ, Bool, false, List, [], ◌∷◌, ◌++◌, refl, sym, ap, ◌∙◌}
use Rattle.std.specs.Prelude.{◌==◌, if◌then◌else◌}
use Rattle.std.specs.Option.{option_map_or}
use Rattle.jp_pred.specs.declared.ty.Ty.{Ty}
use Rattle.jp_pred.specs.declared.ty.Ty.TheVariants as ty
use Rattle.jp_store.specs.declared.value.Value.{Value}
use Rattle.jp_store.specs.declared.value.Kind.TheVariants.{Number}
use Rattle.jp_store.specs.declared.value.Element.TheVariants.{Numbers, Truths, References}
use Rattle.jp_store.specs.declared.value.ElementKind.TheVariants.{TruthElement}
use Rattle.jp_store.specs.Arith.{is_kind}
use Rattle.jp_store.specs.Classes.{Class, class_at}
use Rattle.jp_store.specs.Work.{can_store}
use Rattle.jp_meaning.specs.Descriptors.{internal_name, descriptor_of}
use Rattle.value_types.specs.Values.{Sort, is_at_or_below, is_array_of, refers, is_null, is_value_of}

-- a text without its last byte
abbrev chop_from : ℕ → List ℕ → List ℕ
chop_from x [] = []
chop_from x (y ∷ ys) = x ∷ chop_from y ys

abbrev chop : List ℕ → List ℕ
chop [] = []
chop (x ∷ xs) = chop_from x xs

chopped_from : (x : ℕ) (xs : List ℕ) (c : ℕ) → chop_from x (xs ++ c ∷ []) ≡ x ∷ xs
chopped_from x [] c = refl
chopped_from x (y ∷ ys) c = ap (λ l. x ∷ l) (chopped_from y ys c)

chopped : (xs : List ℕ) (c : ℕ) → chop (xs ++ c ∷ []) ≡ xs
chopped [] c = refl
chopped (x ∷ xs) c = chopped_from x xs c

module _ (classes : List Class) (made : List Sort) where
  abbrev of_class : List ℕ → Value → Bool
  of_class name v = refers made (λ sort. option_map_or (λ up. is_at_or_below classes up sort) (class_at classes name) false) v

  abbrev of_class_array : List ℕ → Value → Bool
  of_class_array name v = refers made (λ sort. option_map_or (λ class. is_array_of (References class) sort) (class_at classes name) false) v

  -- whether a value is of the array type of which this is the rest of the descriptor
  abbrev of_array : List ℕ → Value → Bool
  of_array [] v = false
  of_array (c ∷ cs) v =
      if c == 73 then refers made (λ sort. is_array_of Numbers sort) v
      else (if c == 90 then refers made (λ sort. is_array_of Truths sort) v else of_class_array (chop cs) v)

  -- whether it is of the type of which this is the descriptor
  abbrev of_described : List ℕ → Value → Bool
  of_described [] v = false
  of_described (c ∷ cs) v =
      if c == 86 then is_null v
      else (if c == 73 then is_kind Number v
      else (if c == 90 then can_store TruthElement v
      else (if c == 76 then of_class (chop cs) v else of_array cs v)))

  described : (t : Ty) (v : Value) → of_described (descriptor_of t) v ≡ is_value_of classes made t v
  described ty.Void v = refl
  described ty.Int v = refl
  described ty.Boolean v = refl
  described (ty.Class name) v = ap (λ n. of_class n v) (chopped (internal_name name) 59)
  described ty.IntArray v = refl
  described ty.BooleanArray v = refl
  described (ty.ClassArray name) v = ap (λ n. of_class_array n v) (chopped (internal_name name) 59)

  pub same_values : (t u : Ty) (v : Value) → descriptor_of t ≡ descriptor_of u → is_value_of classes made t v ≡ is_value_of classes made u v
  same_values t u v e = sym (described t v) ∙ ap (λ d. of_described d v) e ∙ described u v
