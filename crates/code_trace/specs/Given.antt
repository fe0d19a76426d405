-- What a member is given at its start.
use Rattle.std.specs.Prelude.{◌≡◌, ◌⊎◌, List, [], ◌∷◌, Bool, true, false, not, ◌&&◌, cond, Some, slice_get}
use Rattle.std.specs.Option.{option_map_or}
use Rattle.jp_pred.specs.declared.hier.Hier.{Hier}
use Rattle.jp_pred.specs.declared.ty.Ty.{Ty}
use Rattle.jp_pred.specs.Names.{Word}
use Rattle.jp_pred.specs.Hierarchy.{is_below}
use Rattle.iface_codec.specs.declared.iface.Iface.{Iface}
use Rattle.jp_store.specs.declared.value.Value.{Value}
use Rattle.jp_store.specs.declared.value.Kind.TheVariants.{Reference}
use Rattle.jp_store.specs.Arith.{is_kind}
use Rattle.jp_store.specs.Store.{Store}
use Rattle.jp_meaning.specs.declared.unit.TypedPart.{TypedPart}
use Rattle.jp_meaning.specs.declared.unit.TypedPart.TheVariants as part
use Rattle.jp_meaning.specs.Expressions.{are_of}
use Rattle.jp_meaning.specs.Classes.{is_static}
use Rattle.jp_meaning.specs.Run.{receiver_class}

-- whether a receiver, which is a reference, and arguments of the types' kinds are given
abbrev pub are_given : List Ty → List Value → Bool
are_given params [] = false
are_given params (v ∷ vs) = is_kind Reference v && are_of params vs

-- whether a member is given as many values as it is declared with, each of its type's kind
abbrev pub are_for : Iface → TypedPart → List Value → Bool
are_for head (part.Field at) vs = false
are_for head (part.Method at) vs =
    option_map_or (λ method. cond (is_static method.kind) (are_of method.params vs) (are_given method.params vs)) (slice_get head.methods at) false
are_for head (part.Constructor at) vs = option_map_or (λ params. are_given params vs) (slice_get head.constructors at) false

-- whether a member has a receiver
abbrev pub has_receiver : Iface → TypedPart → Bool
has_receiver head (part.Field at) = false
has_receiver head (part.Method at) = option_map_or (λ method. not (is_static method.kind)) (slice_get head.methods at) false
has_receiver head (part.Constructor at) = true

-- the receiver is an object of the class or of one below it
abbrev pub IsUnder : Hier → Store → List Value → Word → Type 0
IsUnder hier s vs class = (own : Word) × (receiver_class s vs ≡ Some own) × ((own ≡ class) ⊎ (is_below hier own class ≡ true))

-- a member of a class is given what it is declared with, and as receiver an object of the class or of one below it
pub record IsGiven (hier : Hier) (head : Iface) (part : TypedPart) (vs : List Value) (s : Store) : Type 0 where
  pub kinds : are_for head part vs ≡ true
  pub receiver : has_receiver head part ≡ true → IsUnder hier s vs head.name
