-- Types and methods that a descriptor can name.
use Rattle.std.specs.Prelude.{◌≡◌, ℕ, List, [], ◌∷◌, Bool, true, false, not, ◌&&◌, ◌==◌, Some}
use Rattle.jp_pred.specs.declared.ty.Ty.{Ty}
use Rattle.jp_pred.specs.declared.ty.Ty.TheVariants as ty
use Rattle.jp_meaning.specs.Descriptors.{internal_name, method_descriptor}
use Rattle.jvm_table.specs.Descriptors.{signature_of}
use Rattle.gen_body.specs.Codes.{signature_for}

-- a name without a `;`
abbrev pub is_plain : List ℕ → Bool
is_plain [] = true
is_plain (c ∷ cs) = not (c == 59) && is_plain cs

-- a type of values, whose class has such a name
abbrev pub is_nameable : Ty → Bool
is_nameable ty.Void = false
is_nameable ty.Int = true
is_nameable ty.Boolean = true
is_nameable (ty.Class name) = is_plain (internal_name name)
is_nameable ty.IntArray = true
is_nameable ty.BooleanArray = true
is_nameable (ty.ClassArray name) = is_plain (internal_name name)

abbrev pub are_nameable : List Ty → Bool
are_nameable [] = true
are_nameable (t ∷ ts) = is_nameable t && are_nameable ts

-- a result: of such a type, or none
abbrev pub is_result : Ty → Bool
is_result ty.Void = true
is_result ty.Int = true
is_result ty.Boolean = true
is_result (ty.Class name) = is_plain (internal_name name)
is_result ty.IntArray = true
is_result ty.BooleanArray = true
is_result (ty.ClassArray name) = is_plain (internal_name name)

-- what a method's descriptor says is its parameters and its result
abbrev pub SignaturesReadBack : Type 0
SignaturesReadBack =
    (params : List Ty) (result : Ty) → are_nameable params ≡ true → is_result result ≡ true →
    signature_of (method_descriptor params result) ≡ Some (signature_for params result)
