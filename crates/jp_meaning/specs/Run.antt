-- The meaning of a program: its run from `main`, with so many ticks.
use Rattle.std.specs.Prelude.{ℕ, cond, zero, suc, ◌-◌, List, [], ◌++◌, length, map, Option, Some, None, option_and_then, slice_get, codes}
use Rattle.std.specs.List.{flat_map}
use Rattle.std.specs.Option.{option_map, option_map_or}
use Rattle.std.specs.Fmt.{signed_decimal}
use Rattle.jp_pred.specs.declared.ty.Ty.{Ty}
use Rattle.jp_pred.specs.declared.ty.Ty.TheVariants as ty
use Rattle.jp_pred.specs.Names.{Word}
use Rattle.jp_pred.specs.Implication.{paths_of, root_types}
use Rattle.jp_pred.specs.Selection.{Body}
use Rattle.jp_store.specs.declared.value.Value.{Value}
use Rattle.jp_store.specs.declared.value.Value.TheVariants.{Int, Long, Null, Ref, Text}
use Rattle.jp_store.specs.declared.value.TrapKind.{TrapKind}
use Rattle.jp_store.specs.declared.value.ClassAt.TheVariants.{Root, Listed}
use Rattle.jp_store.specs.declared.heap.Thing.{Thing}
use Rattle.jp_store.specs.declared.heap.Thing.TheVariants.{Object, Array}
use Rattle.jp_store.specs.declared.outcome.Outcome.TheVariants.{Fine, Trap, Wrong}
use Rattle.jp_store.specs.Store.{Store, first_store}
use Rattle.jp_store.specs.Work.{Worked, work}
use Rattle.jp_pred.specs.Names.{object}
use Rattle.jp_meaning.specs.declared.unit.TypedClass.{TypedClass}
use Rattle.jp_does.specs.OpenTrace.{first_of, rest_of}
use Rattle.jp_does.specs.Does.{Gives, Traps, Ticks, Prints, Shows, Reads, Works, Calls, Limit, Stuck}
use Rattle.jp_meaning.specs.Does.{Method, Target, StaticMethod, Constructor, OfClass, OfInterface, OfSuperclass, Call, Does}
use Rattle.jp_meaning.specs.Descriptors.{word_of, method_of, kind_of_type}
use Rattle.jp_meaning.specs.Expressions.{fit}
use Rattle.jp_meaning.specs.Members.{member_does}
use Rattle.jp_meaning.specs.Classes.{class_of_head, hier_in, Placed, Candidate, placed, static_named, constructor_named, has_family, chain_of}
use Rattle.jp_meaning.specs.States.{name_at, shape_of}
use Rattle.jp_meaning.specs.Choice.{Question, Choice, Selects, NoneIsTrue, NoneIsBest}

-- how a run ends: `main` returned; a trap; a call found no body that is true, or several and none that beats all others;
-- a named thing wasn't there, or a value was of another kind; or a tick was wanted and there was none
pub data End : Type 0 where
  Done : End
  Trapped : TrapKind → End
  NoBody : End
  TwoBodies : End
  IsStuck : End
  More : End

-- the ticks that are left, the store, the rest of the input and the output
pub record World : Type 0 where
  pub ticks : ℕ
  pub store : Store
  pub input : List ℕ
  pub out : List ℕ

-- a part of a run came to a value, or the run ended in it
pub data Run (A : Type 0) : Type 0 where
  Came : A → World → Run A
  Ended : End → World → Run A

-- goes on with what a part of a run came to
abbrev pub after : {A B : Type 0} → Run A → (A → World → Run B) → Run B
after (Came a w) go = go a w
after (Ended e w) go = Ended e w

-- goes on with a tick less
abbrev pub spend : {A : Type 0} → World → ℕ → (World → Run A) → Run A
spend w zero go = Ended More w
spend w (suc t) go = go (record w { ticks = t })

-- goes on with what an operation on the store came to
abbrev pub worked : {A : Type 0} → World → Worked → (Value → World → Run A) → Run A
worked w (Fine r) go = go r.0 (record w { store = r.1 })
worked w (Trap kind) go = Ended (Trapped kind) w
worked w Wrong go = Ended IsStuck w

-- the output with more bytes
abbrev pub write : List ℕ → World → World
write bytes w = record w { out = w.out ++ bytes }

-- carries out what is done, where `call` carries out the calls
abbrev pub play : {A : Type 0} → (Call → World → Run Value) → Does A → World → Run A
play call (Gives a) w = Came a w
play call (Traps kind) w = Ended (Trapped kind) w
play call (Ticks d) w = spend w w.ticks (play call d)
play call (Prints n d) w = play call d (write (signed_decimal n) w)
play call (Shows text d) w = play call d (write text w)
play call (Reads d) w = play call (d (first_of w.input)) (record w { input = rest_of w.input })
play call (Works op d) w = worked w (work op w.store) (λ v. play call (d v))
play call (Calls c d) w = after (call c w) (λ v. play call (d v))
play call Limit w = Ended More w
play call Stuck w = Ended IsStuck w

-- the classes, the class whose `main` is run, and which body is selected
pub record Program : Type 0 where
  pub classes : List TypedClass
  pub main : Word
  pub select : Question → Choice

-- the class of the receiver that stands in front of a call's arguments
abbrev pub class_of_thing : Store → Thing → Option Word
class_of_thing s (Object Root fields) = Some object
class_of_thing s (Object (Listed at) fields) = Some (name_at s.classes at)
class_of_thing s (Array element values) = None

abbrev pub class_of_value : Store → Value → Option Word
class_of_value s (Ref o) = option_and_then (class_of_thing s) (slice_get s.heap o)
class_of_value s Null = None
class_of_value s (Int n) = None
class_of_value s (Long n) = None
class_of_value s (Text t) = None

abbrev pub receiver_class : Store → List Value → Option Word
receiver_class s vs = option_and_then (class_of_value s) (slice_get vs 0)

-- a body of a chain as selection sees it: the class that declares it, and its guard
abbrev pub body_of : Candidate → Body
body_of c = (c.head.name, c.method.guard)

-- the types of the parameters of a chain's bodies, which are those of the first
abbrev pub parameters_of : List Candidate → List Ty
parameters_of chain = option_map_or (λ c. c.method.params) (slice_get chain 0) []

-- which body of a chain is selected in a state, if the state has a shape
abbrev pub selected : Program → List Candidate → List Value → Store → Option Choice
selected p chain vs s =
    option_map (λ shape. p.select (record { parameters = parameters_of chain; chain = map body_of chain; shape = shape }))
    (shape_of (hier_in p.classes) (root_types (parameters_of chain)) (flat_map (λ c. paths_of c.method.guard) chain) s vs)

-- goes on with what is there
abbrev pub there : {A B : Type 0} → Option A → World → (A → Run B) → Run B
there None w go = Ended IsStuck w
there (Some a) w go = go a

-- goes on with the body that is chosen
abbrev pub chosen : {A : Type 0} → List Candidate → Choice → World → (Candidate → Run A) → Run A
chosen chain (Selects i) w go = there (slice_get chain i) w go
chosen chain NoneIsTrue w go = Ended NoBody w
chosen chain NoneIsBest w go = Ended TwoBodies w

-- the answer of a method with such a result
abbrev pub fitted : Ty → (Call → World → Run Value) → Value → World → Run Value
fitted result call v w = play call (fit (kind_of_type result) v) w

-- a call of a family starts the body that is selected in the chain
abbrev pub select_in : Program → (Placed → List Value → World → Run Value) → (Call → World → Run Value) → List Candidate → List Value → World → Run Value
select_in p member call chain vs w =
    there (selected p chain vs w.store) w (λ choice. chosen chain choice w (λ c.
    after (member (placed c) vs w) (fitted c.method.result call)))

-- goes on where the family of a call is declared
abbrev pub where_declared : Program → Method → World → Run Value → Run Value
where_declared p m w go = cond (has_family p.classes m) go (Ended IsStuck w)

-- a call, where `member` runs a member
abbrev pub call_by : Program → (Placed → List Value → World → Run Value) → (Call → World → Run Value) → Target → List Value → World → Run Value
call_by p member call (StaticMethod m) vs w = there (static_named p.classes m) w (λ placed. member placed vs w)
call_by p member call (Constructor m) vs w = there (constructor_named p.classes m) w (λ placed. member placed vs w)
call_by p member call (OfClass m) vs w =
    where_declared p m w (there (receiver_class w.store vs) w (λ class. select_in p member call (chain_of p.classes m class) vs w))
call_by p member call (OfInterface m) vs w =
    where_declared p m w (there (receiver_class w.store vs) w (λ class. select_in p member call (chain_of p.classes m class) vs w))
call_by p member call (OfSuperclass m) vs w = where_declared p m w (select_in p member call (chain_of p.classes m (word_of m.class)) vs w)

-- what a member of a program does
abbrev pub placed_does : Program → ℕ → Placed → List Value → Does Value
placed_does p n placed vs = member_does (hier_in p.classes) placed.head placed.member n vs

-- a called member: a tick is spent at its start
abbrev pub member_run : Program → ℕ → (Call → World → Run Value) → Placed → List Value → World → Run Value
member_run p n call placed vs w = spend w w.ticks (play call (placed_does p (suc n) placed vs))

-- A call, at most n deep. A tick is spent at the start of what is called, so n ticks never lead more than n + 1 deep
abbrev pub calls : Program → ℕ → Call → World → Run Value
calls p zero c w = Ended More w
calls p (suc n) c w = call_by p (member_run p n (calls p n)) (calls p n) c.target c.args w

-- before a program starts
abbrev pub first_world : Program → List ℕ → ℕ → World
first_world p input n =
    record { ticks = n; store = first_store (map (λ c. class_of_head c.head) p.classes); input = input; out = [] }

-- `main` of a class
abbrev pub main_of : Word → Method
main_of class = method_of class (codes "main") [] ty.Void

-- The run from `main`, whose start spends no tick. With n ticks a loop tests at most n + 1 times, and calls come at most
-- n + 1 deep, the last of them without a tick
abbrev pub run_in : Program → ℕ → World → Run Value
run_in p n w = there (static_named p.classes (main_of p.main)) w (λ placed. play (calls p (suc n)) (placed_does p (suc n) placed []) w)

-- the output, the number of input bytes used, and the end
pub record Result : Type 0 where
  pub output : List ℕ
  pub used : ℕ
  pub end : End

abbrev pub result_in : List ℕ → End → World → Result
result_in input end w = record { output = w.out; used = length input - length w.input; end = end }

abbrev pub result_of : List ℕ → Run Value → Result
result_of input (Came v w) = result_in input Done w
result_of input (Ended end w) = result_in input end w

-- what a program means on an input, with n ticks
abbrev pub run : Program → List ℕ → ℕ → Result
run p input n = result_of input (run_in p n (first_world p input n))
