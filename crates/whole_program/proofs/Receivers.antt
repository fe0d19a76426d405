-- The receiver of a call that fits isn't null.
use Rattle.std.proofs.Common.{◌≡◌, List, [], ◌∷◌, Option, Some, None, refl, ap, subst}
use Rattle.std.specs.Prelude.{Bool, true, false, is_some, option_and_then, slice_get, if◌then◌else◌}
use Rattle.std.specs.List.{filter_map, cons_option}
use Rattle.std.specs.Str.{bytes_eq}
use Rattle.std.proofs.lemmas.Bool.{false≢true}
use Rattle.jp_pred.specs.declared.hier.Hier.{Hier}
use Rattle.jp_pred.specs.declared.ty.Ty.{Ty}
use Rattle.jp_pred.specs.declared.ty.Ty.TheVariants as ty
use Rattle.jp_pred.specs.Names.{Word}
use Rattle.iface_codec.specs.declared.iface.Iface.{Iface}
use Rattle.jp_store.specs.declared.value.Value.{Value}
use Rattle.jp_store.specs.declared.value.Value.TheVariants.{Int, Long, Null, Ref, Text}
use Rattle.jp_store.specs.Classes.{Key}
use Rattle.jp_store.specs.Store.{Store}
use Rattle.jp_meaning.specs.declared.unit.TypedClass.{TypedClass}
use Rattle.jp_meaning.specs.declared.unit.TypedMember.{TypedMember}
use Rattle.jp_meaning.specs.declared.unit.TypedPart.{TypedPart}
use Rattle.jp_meaning.specs.declared.unit.TypedPart.TheVariants as part
use Rattle.jp_meaning.specs.Does.{Method}
use Rattle.jp_meaning.specs.Descriptors.{word_of, method_descriptor}
use Rattle.jp_meaning.specs.Classes.{Placed, class_in, as_constructor, constructor_named}
use Rattle.jvm_table.specs.Act.{Target, StaticMethod}
use Rattle.jvm_step.specs.Turn.{is_on_null}
use Rattle.code_trace.specs.Given.{has_receiver, IsUnder}

pub static_there : (key : Key) (vs : List Value) → is_on_null (StaticMethod key) vs ≡ false
static_there key [] = refl
static_there key (Int n ∷ vs) = refl
static_there key (Long n ∷ vs) = refl
static_there key (Null ∷ vs) = refl
static_there key (Ref o ∷ vs) = refl
static_there key (Text t ∷ vs) = refl

-- an object is no null
pub object_there : (target : Target) (hier : Hier) (s : Store) (vs : List Value) (class : Word) → IsUnder hier s vs class → is_on_null target vs ≡ false
object_there target hier s [] class h = refl
object_there target hier s (Int n ∷ vs) class h = refl
object_there target hier s (Long n ∷ vs) class h = refl
object_there target hier s (Null ∷ vs) class h = absurd (false≢true (ap is_some h.1))
object_there target hier s (Ref o ∷ vs) class h = refl
object_there target hier s (Text t ∷ vs) class h = refl

module _ (m : Method) where
  -- a member that has a receiver, if it is there
  abbrev Received : Option Placed → Type 0
  Received None = Unit {0}
  Received (Some q) = has_receiver q.head q.member.part ≡ true

  constructor_has : (head : Iface) (member : TypedMember) (p : TypedPart) → member.part ≡ p → Received (as_constructor m head member p)
  constructor_has head member (part.Field at) e = tt
  constructor_has head member (part.Method at) e = tt
  constructor_has head member (part.Constructor at) e = by_params (slice_get head.constructors at) where
    is_one : Bool → Option Placed
    is_one b = if b then Some (record { head = head; member = member }) else None

    by_name : (b : Bool) → Received (is_one b)
    by_name true = ap (has_receiver head) e
    by_name false = tt

    by_params : (o : Option (List Ty)) → Received (option_and_then (λ params. is_one (bytes_eq (method_descriptor params ty.Void) m.descriptor)) o)
    by_params None = tt
    by_params (Some params) = by_name (bytes_eq (method_descriptor params ty.Void) m.descriptor)

  -- the first of a class's constructors with the descriptor
  abbrev first_of : Iface → List TypedMember → Option Placed
  first_of head members = slice_get (filter_map (λ member. as_constructor m head member member.part) members) 0

  first_has : (head : Iface) (members : List TypedMember) → Received (first_of head members)
  first_has head [] = tt
  first_has head (member ∷ more) = by_one (as_constructor m head member member.part) (constructor_has head member member.part refl) (first_has head more) where
    by_one : (o : Option Placed) → Received o → Received (first_of head more) → Received (slice_get (cons_option o (filter_map (λ member. as_constructor m head member member.part) more)) 0)
    by_one None h rest = rest
    by_one (Some p) h rest = h

  class_has : (o : Option TypedClass) → Received (option_and_then (λ c. first_of c.head c.members) o)
  class_has None = tt
  class_has (Some c) = first_has c.head c.members

-- a constructor has a receiver
pub constructor_received : (classes : List TypedClass) (m : Method) (q : Placed) → constructor_named classes m ≡ Some q → has_receiver q.head q.member.part ≡ true
constructor_received classes m q e = subst (Received m) e (class_has m (class_in classes (word_of m.class)))
