-- Classes that are named at places, and the first of them that isn't known.
use Rattle.std.specs.Prelude.{Bool, not, List, [], ◌∷◌, Option, Some, None}
use Rattle.std.specs.List.{find}
use Rattle.std.specs.Option.{option_map}
use Rattle.jp_pred.specs.declared.ty.Ty.{Ty}
use Rattle.jp_pred.specs.declared.ty.Ty.TheVariants as ty
use Rattle.jp_pred.specs.Names.{Word}
use Rattle.jp_ast.specs.declared.token.Place.{Place}
use Rattle.type_rules.specs.Types.{is_among}

-- a class in a type position, and the place of the node that names it
pub record Named : Type 0 where
  pub place : Place
  pub class : Word

-- the list of one name
abbrev pub alone : Place → Word → List Named
alone p name = record { place = p; class = name } ∷ []

-- the class that a type names
abbrev pub type_names : Place → Ty → List Named
type_names p (ty.Class name) = alone p name
type_names p (ty.ClassArray name) = alone p name
type_names p _ = []

-- the names in what may be left out
abbrev pub in_option : {T : Type 0} → (T → List Named) → Option T → List Named
in_option f None = []
in_option f (Some x) = f x

abbrev pub is_unknown : List Word → Named → Bool
is_unknown known n = not (is_among n.class known)

-- the place of the first class that isn't among those that are known
abbrev pub first_unknown : List Word → List Named → Option Place
first_unknown known names = option_map (λ n. n.place) (find (is_unknown known) names)
