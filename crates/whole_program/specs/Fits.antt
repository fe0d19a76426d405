-- What it means that each call of a program is one of a member with what it is declared with.
use Rattle.std.specs.Prelude.{◌≡◌, ℕ, zero, suc, List, [], ◌∷◌, Bool, true, false, not, ◌||◌, Some, map, slice_get, codes}
use Rattle.std.specs.Option.{option_map_or}
use Rattle.std.specs.Fmt.{signed_decimal}
use Rattle.iface_codec.specs.declared.iface.Iface.{Iface}
use Rattle.jp_pred.specs.Names.{Word}
use Rattle.jp_store.specs.declared.value.Value.{Value}
use Rattle.jp_store.specs.declared.heap.Thing.{Thing}
use Rattle.jp_store.specs.declared.heap.Thing.TheVariants.{Object, Array}
use Rattle.jp_store.specs.declared.outcome.Outcome.TheVariants.{Fine, Trap, Wrong}
use Rattle.jp_store.specs.Classes.{Class}
use Rattle.jp_store.specs.Store.{Store, first_store}
use Rattle.jp_store.specs.Work.{Worked, is_concrete, work}
use Rattle.jp_does.specs.OpenTrace.{first_of, rest_of}
use Rattle.jp_does.specs.Does.{Gives, Traps, Ticks, Prints, Shows, Reads, Works, Calls, Limit, Stuck}
use Rattle.jp_meaning.specs.declared.unit.TypedClass.{TypedClass}
use Rattle.jp_meaning.specs.Does.{Target, StaticMethod, Constructor, OfClass, OfInterface, OfSuperclass, Call, Does}
use Rattle.jp_meaning.specs.Descriptors.{word_of}
use Rattle.jp_meaning.specs.Classes.{Placed, Candidate, placed, hier_in, class_in, class_of_head, static_named, constructor_named, chain_of}
use Rattle.jp_meaning.specs.Run.{World, Came, Program, receiver_class, write, placed_does, main_of, calls}
use Rattle.code_trace.specs.Given.{IsUnder, IsGiven}

-- an object is of a class of which objects can be made
abbrev pub IsMade : List Class → Thing → Type 0
IsMade classes (Object class fields) = is_concrete classes class ≡ true
IsMade classes (Array element values) = Unit {0}

abbrev pub AllMade : List Class → List Thing → Type 0
AllMade classes [] = Unit {0}
AllMade classes (thing ∷ things) = IsMade classes thing × AllMade classes things

-- each object of a store is of a class of which objects can be made
abbrev pub HoldsMade : Store → Type 0
HoldsMade s = AllMade s.classes s.heap

-- whether a class of the program isn't abstract, and no interface
abbrev pub is_whole : Program → Word → Bool
is_whole p name = option_map_or (λ c. not (c.head.is_abstract || c.head.is_interface)) (class_in p.classes name) false

-- a member of the program's classes is given what it is declared with
pub record Enters (p : Program) (q : Placed) (vs : List Value) (s : Store) : Type 0 where
  pub class : TypedClass
  pub position : ℕ
  pub class_there : slice_get p.classes position ≡ Some class
  pub head : q.head ≡ class.head
  pub index : ℕ
  pub member_there : slice_get class.members index ≡ Some q.member
  pub given : IsGiven (hier_in p.classes) q.head q.member.part vs s

-- each candidate of a chain is given what it is declared with
abbrev pub AllEnter : Program → List Candidate → List Value → Store → Type 0
AllEnter p chain vs s = (i : ℕ) (c : Candidate) → slice_get chain i ≡ Some c → Enters p (placed c) vs s

-- What a call in a class calls is given what it is declared with. A constructor is called by its name. A call of a family
-- of the superclass names the superclass, which isn't abstract, and is on an object below it
abbrev pub FitsTarget : Program → Iface → Target → List Value → Store → Type 0
FitsTarget p head (StaticMethod m) vs s = (q : Placed) → static_named p.classes m ≡ Some q → Enters p q vs s
FitsTarget p head (Constructor m) vs s = (m.name ≡ codes "<init>") × ((q : Placed) → constructor_named p.classes m ≡ Some q → Enters p q vs s)
FitsTarget p head (OfClass m) vs s = (class : Word) → receiver_class s vs ≡ Some class → AllEnter p (chain_of p.classes m class) vs s
FitsTarget p head (OfInterface m) vs s = (class : Word) → receiver_class s vs ≡ Some class → AllEnter p (chain_of p.classes m class) vs s
FitsTarget p head (OfSuperclass m) vs s =
    (head.superclass ≡ Some (word_of m.class)) × (is_whole p (word_of m.class) ≡ true) × IsUnder (hier_in p.classes) s vs (word_of m.class) × AllEnter p (chain_of p.classes m (word_of m.class)) vs s

-- what a call calls in a state is given what it is declared with
abbrev pub Fits : Program → Iface → Call → Store → Type 0
Fits p head c s = FitsTarget p head c.target c.args s

-- goes on with a tick less
abbrev pub on_tick : World → ℕ → (World → Type 0) → Type 0
on_tick w zero go = Unit {0}
on_tick w (suc t) go = go (record w { ticks = t })

-- goes on with what an operation on the store came to
abbrev pub on_work : World → Worked → (Value → World → Type 0) → Type 0
on_work w (Fine r) go = go r.0 (record w { store = r.1 })
on_work w (Trap kind) go = Unit {0}
on_work w Wrong go = Unit {0}

-- each call fits that an evaluation in a class makes from a world on, where calls are at most n deep
abbrev pub CallsFit : {A : Type 0} → Program → ℕ → Iface → Does A → World → Type 0
CallsFit p n head (Gives a) w = Unit {0}
CallsFit p n head (Traps kind) w = Unit {0}
CallsFit p n head (Ticks d) w = on_tick w w.ticks (CallsFit p n head d)
CallsFit p n head (Prints k d) w = CallsFit p n head d (write (signed_decimal k) w)
CallsFit p n head (Shows text d) w = CallsFit p n head d (write text w)
CallsFit p n head (Reads d) w = CallsFit p n head (d (first_of w.input)) (record w { input = rest_of w.input })
CallsFit p n head (Works op d) w = on_work w (work op w.store) (λ v. CallsFit p n head (d v))
CallsFit p n head (Calls c d) w = Fits p head c w.store × ((v : Value) (u : World) → calls p n c w ≡ Came v u → CallsFit p n head (d v) u)
CallsFit p n head Limit w = Unit {0}
CallsFit p n head Stuck w = Unit {0}

-- the classes of a program, as the store names them
abbrev pub store_classes : Program → List Class
store_classes p = map (λ c. class_of_head c.head) p.classes

-- Each call of a program fits: `main` takes nothing, and the members that are given what they are declared with call with
-- what is declared
pub record EachCallFits (p : Program) : Type 0 where
  pub main : (q : Placed) → static_named p.classes (main_of p.main) ≡ Some q → Enters p q [] (first_store (store_classes p))
  pub member : (n k : ℕ) (q : Placed) (vs : List Value) (w : World) → w.store.classes ≡ store_classes p → HoldsMade w.store → Enters p q vs w.store → CallsFit p n q.head (placed_does p k q vs) w
