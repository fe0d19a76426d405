-- Descriptors of methods (JVM specification, second edition, 4.3.3).
use Rattle.std.specs.Prelude.{ℕ, zero, suc, ◌+◌, ◌==◌, not, ◌||◌, List, [], ◌∷◌, length, drop, position, Option, Some, None, option_and_then, if◌then◌else◌}
use Rattle.std.specs.Option.{option_map}
use Rattle.jp_store.specs.declared.value.Kind.{Kind}
use Rattle.jp_store.specs.declared.value.Kind.TheVariants.{Number, LongNumber, Reference}

-- what a method takes and gives
pub record Signature : Type 0 where
  pub parameters : List Kind
  pub result : Option Kind

-- what is left behind the first `;`
abbrev pub behind_name : List ℕ → Option (List ℕ)
behind_name cs = option_map (λ at. drop (at + 1) cs) (position (λ c. c == 59) cs)

-- the kind of a type that is no array, and what is left behind it: `I` and `Z`, `J`, or `Lname;`
abbrev pub single_type : List ℕ → Option (Kind × List ℕ)
single_type [] = None
single_type (c ∷ cs) =
    if (c == 73) || (c == 90) then Some (Number, cs)
    else (if c == 74 then Some (LongNumber, cs)
    else (if c == 76 then option_map (λ rest. (Reference, rest)) (behind_name cs) else None))

-- a type behind so many `[`
abbrev pub in_arrays : ℕ → Kind × List ℕ → Kind × List ℕ
in_arrays depth type = if depth == 0 then type else (Reference, type.1)

-- the kind of the type that a text begins with, and what is left behind it
abbrev pub first_type : List ℕ → Option (Kind × List ℕ)
first_type cs =
    option_and_then (λ depth. option_map (in_arrays depth) (single_type (drop depth cs))) (position (λ c. not (c == 91)) cs)

-- fewer than n types up to a `)`, and what is left behind it
unfoldable pub types_in : ℕ → List ℕ → Option (List Kind × List ℕ)
types_in zero cs = None
types_in (suc n) [] = None
types_in (suc n) (c ∷ cs) =
    if c == 41 then Some ([], cs)
    else option_and_then (λ type. option_map (λ more. (type.0 ∷ more.0, more.1)) (types_in n type.1)) (first_type (c ∷ cs))

-- a kind, where nothing is left behind it
abbrev pub only : Option Kind → List ℕ → Option (Option Kind)
only kind [] = Some kind
only kind (c ∷ cs) = None

-- the kind of a result: a type, or none for `V`
abbrev pub result_of : List ℕ → Option (Option Kind)
result_of [] = None
result_of (c ∷ cs) = if c == 86 then only None cs else option_and_then (λ type. only (Some type.0) type.1) (first_type (c ∷ cs))

-- what a method's descriptor says: types in parentheses, and a result
abbrev pub signature_of : List ℕ → Option Signature
signature_of [] = None
signature_of (c ∷ cs) =
    if c == 40
    then option_and_then (λ types. option_map (λ result. record { parameters = types.0; result = result }) (result_of types.1)) (types_in (length cs) cs)
    else None

-- how many places a value of a kind takes
abbrev pub width_of_kind : Kind → ℕ
width_of_kind Number = 1
width_of_kind LongNumber = 2
width_of_kind Reference = 1

-- how many places values of these kinds take
abbrev pub places_of : List Kind → ℕ
places_of [] = 0
places_of (kind ∷ kinds) = width_of_kind kind + places_of kinds
