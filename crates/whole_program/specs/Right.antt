-- What it means that class files are right for a program, part by part.
use Rattle.std.specs.Prelude.{◌≡◌, ◌⊎◌, ℕ, ◌+◌, ◌*◌, ◌≤◌, List, [], ◌∷◌, ◌++◌, length, map, Option, Some, None, slice_get, true, codes}
use Rattle.std.specs.List.{flat_map}
use Rattle.class_form.specs.declared.class_file.ClassFile.{ClassFile}
use Rattle.class_form.specs.declared.member.MemberInfo.{MemberInfo}
use Rattle.jp_pred.specs.declared.guard.Atom.{Atom}
use Rattle.jp_pred.specs.declared.shape.Shape.{Shape}
use Rattle.jp_pred.specs.Names.{Word}
use Rattle.jp_pred.specs.Implication.{paths_of, root_types}
use Rattle.jp_pred.specs.Truth.{atom_holds}
use Rattle.jp_store.specs.declared.value.Value.{Value}
use Rattle.jp_store.specs.declared.value.Value.TheVariants.{Null}
use Rattle.jp_store.specs.declared.value.Kind.{Kind}
use Rattle.jp_store.specs.declared.heap.Thing.{Thing}
use Rattle.jp_store.specs.Arith.{of_truth}
use Rattle.jp_store.specs.Classes.{Key, first_statics}
use Rattle.jp_store.specs.Store.{Store}
use Rattle.jp_does.specs.Does.{Does, Gives, Calls, do_of}
use Rattle.jp_does.specs.OpenTrace.{Answer, Answers, Returned, Trace, calls_in, open_trace}
use Rattle.jp_meaning.specs.declared.unit.TypedClass.{TypedClass}
use Rattle.jp_meaning.specs.declared.unit.TypedPart.TheVariants as part
use Rattle.jp_meaning.specs.Does.{Method}
use Rattle.jp_meaning.specs.Descriptors.{word_of, internal_name, kind_of_type}
use Rattle.jp_meaning.specs.Expressions.{of_kind}
use Rattle.jp_meaning.specs.Classes.{Placed, Candidate, placed, hier_in, static_named, constructor_named, has_family, chain_of}
use Rattle.jp_meaning.specs.Choice.{Question, Selects}
use Rattle.jp_meaning.specs.States.{shape_of}
use Rattle.jp_meaning.specs.Run.{End, Program, receiver_class, body_of, parameters_of, main_of}
use Rattle.jvm_table.specs.declared.frame.Frame.{Frame}
use Rattle.jvm_table.specs.Act.{Target, StaticMethod, VirtualMethod, Constructor, MethodAbove, Call}
use Rattle.jvm_load.specs.FileClasses.{text_at, is_static, classes_of}
use Rattle.jvm_step.specs.declared.state.State.{State}
use Rattle.jvm_step.specs.Turn.{found_by, wants_static}
use Rattle.jvm_step.specs.Run.{start}
use Rattle.code_trace.specs.Calls.{key_of_method}
use Rattle.code_trace.specs.Entry.{entry}
use Rattle.code_trace.specs.CodeTrace.{code_trace}
use Rattle.code_trace.specs.Given.{IsUnder}
use Rattle.code_trace.specs.OpenTraces.{EndsLike, HasOpenTraces}
use Rattle.whole_program.specs.Fits.{HoldsMade, is_whole, Enters, store_classes}

-- How many instructions there may be: of a member's own, to begin with and for each turn of a loop; of a helper; and of a
-- dispatcher with its helpers
pub record Bounds : Type 0 where
  pub turn : ℕ
  pub helper : ℕ
  pub dispatch : ℕ

-- how the methods are named that a body and the tests of its guard's atoms become
pub record Naming : Type 0 where
  pub body : Candidate → List ℕ
  pub helper : Candidate → Atom → Key

abbrev pub call_to : Target → List Value → Call
call_to target vs = record { target = target; args = vs }

-- the descriptor of the method that a target names
abbrev pub descriptor_in : Target → List ℕ
descriptor_in (StaticMethod key) = key.descriptor
descriptor_in (VirtualMethod name descriptor) = descriptor
descriptor_in (Constructor key) = key.descriptor
descriptor_in (MethodAbove class name descriptor) = descriptor

-- A call finds this method of this file: static as it is wanted, of that descriptor, with code that has room for the
-- arguments
pub record RunsAs (files : List ClassFile) (heap : List Thing) (call : Call) (file : ClassFile) (method : MemberInfo) : Type 0 where
  pub at : ℕ × ℕ
  pub found : found_by files heap call.target call.args ≡ Some at
  pub file_there : slice_get files at.0 ≡ Some file
  pub method_there : slice_get file.methods at.1 ≡ Some method
  pub role : is_static method ≡ wants_static call.target
  pub descriptor : text_at file method.descriptor ≡ descriptor_in call.target
  pub frame : Frame
  pub enters : entry method call.args ≡ Some frame

-- a call runs code with the open traces of a member
abbrev pub RunsMember : Program → List ClassFile → Bounds → List Thing → Call → Placed → Type 0
RunsMember p files b heap call q = (file : ClassFile) × (method : MemberInfo) × RunsAs files heap call file method × HasOpenTraces (hier_in p.classes) q.head q.member file method b.turn

-- a call runs code that answers a value, with no event and no change, in so many instructions at most
pub record RunsHelper (files : List ClassFile) (call : Call) (s : Store) (v : Value) (most : ℕ) : Type 0 where
  pub file : ClassFile
  pub method : MemberInfo
  pub runs : RunsAs files s.heap call file method
  pub count : ℕ
  pub few : count ≤ most
  pub trace : (i : List ℕ) → code_trace file method call.args count [] s i ≡ record { turns = count; events = []; way = Returned v s i }

-- the shape of a state, as selection in a chain sees it
abbrev pub shape_in : Program → List Candidate → List Value → Store → Option Shape
shape_in p chain vs s = shape_of (hier_in p.classes) (root_types (parameters_of chain)) (flat_map (λ c. paths_of c.method.guard) chain) s vs

abbrev pub question_in : List Candidate → Shape → Question
question_in chain shape = record { parameters = parameters_of chain; chain = map body_of chain; shape = shape }

-- A call of a family of a class, in a state in which a body is selected: the family is declared, the receiver is an object
-- of the class or of one below it, no object is of an abstract class, and what is selected is given what it is declared
-- with
pub record Selecting (p : Program) (files : List ClassFile) (m : Method) (class : Word) (vs : List Value) (s : Store) : Type 0 where
  pub declared : has_family p.classes m ≡ true
  pub classes : s.classes ≡ classes_of files
  pub made : HoldsMade s
  pub under : IsUnder (hier_in p.classes) s vs class
  pub shape : Shape
  pub shaped : shape_in p (chain_of p.classes m class) vs s ≡ Some shape
  pub index : ℕ
  pub selected : p.select (question_in (chain_of p.classes m class) shape) ≡ Selects index
  pub candidate : Candidate
  pub there : slice_get (chain_of p.classes m class) index ≡ Some candidate
  pub enters : Enters p (placed candidate) vs s

-- the call of the helper that tests an atom
abbrev pub helper_call : Naming → List Value → Candidate × Atom → Call
helper_call naming vs q = call_to (StaticMethod (naming.helper q.0 q.1)) vs

-- the call of a body of a family
abbrev pub body_call : Naming → Method → Candidate → List Value → Call
body_call naming m c vs = call_to (VirtualMethod (naming.body c) m.descriptor) vs

-- the truth of an atom on a shape, as a value
abbrev pub truth_value : Program → Shape → Atom → Value
truth_value p shape a = of_truth (atom_holds (hier_in p.classes) shape a)

-- the answers of helpers: the truth of each atom, with the state as it is
abbrev pub truths : Program → Shape → List (Candidate × Atom) → Store → List ℕ → List (Answer End)
truths p shape [] s i = []
truths p shape (q ∷ qs) s i = Answers (truth_value p shape q.1) s.heap s.statics i ∷ truths p shape qs s i

-- the answer of a body with such a result, which is handed on
abbrev pub handed_on : Option Kind → Value → Does Call Value
handed_on None v = Gives Null
handed_on (Some kind) v = do_of (of_kind kind v) Gives

-- what a dispatcher does: it asks helpers, and then calls the body and hands on its answer
abbrev pub dispatch_does : List Call → Call → Option Kind → Does Call Value
dispatch_does [] body result = Calls body (handed_on result)
dispatch_does (h ∷ hs) body result = Calls h (λ v. dispatch_does hs body result)

-- the trace that code made is the one that was wanted, with at least an instruction for each call, and at most so many
pub record IsDispatchOf (made wanted : Trace Call End) (own : ℕ) : Type 0 where
  pub events : made.events ≡ wanted.events
  pub way : EndsLike made.way wanted.way
  pub least : calls_in wanted.events ≤ made.turns
  pub most : made.turns ≤ own

-- each helper that is asked answers the truth of its atom
abbrev pub HelpersAnswer : Program → List ClassFile → Naming → Bounds → Shape → List Value → Store → List (Candidate × Atom) → Type 0
HelpersAnswer p files naming b shape vs s [] = Unit {0}
HelpersAnswer p files naming b shape vs s (q ∷ qs) =
    RunsHelper files (helper_call naming vs q) s (truth_value p shape q.1) b.helper × HelpersAnswer p files naming b shape vs s qs

-- A call runs a dispatcher for the selected body: its trace is calls of helpers, each of which answers the truth of an atom,
-- and then one call of the body with the same receiver and arguments, whose answer it returns. It and the helpers make so
-- many instructions at most
pub record RunsDispatcher (p : Program) (files : List ClassFile) (naming : Naming) (b : Bounds) (m : Method) (class : Word) (vs : List Value) (s : Store) (k : Selecting p files m class vs s) (call : Call) : Type 0 where
  pub file : ClassFile
  pub method : MemberInfo
  pub runs : RunsAs files s.heap call file method
  pub asked : List (Candidate × Atom)
  pub helpers : HelpersAnswer p files naming b k.shape vs s asked
  pub body : RunsMember p files b s.heap (body_call naming m k.candidate vs) (placed k.candidate)
  pub own : ℕ
  pub few : own + length asked * b.helper ≤ b.dispatch
  pub traces : (i : List ℕ) (rest : List (Answer End)) →
      (n : ℕ) × IsDispatchOf (code_trace file method vs n (truths p k.shape asked s i ++ rest) s i)
      (open_trace 0 (truths p k.shape asked s i ++ rest) s i
      (dispatch_does (map (helper_call naming vs) asked) (body_call naming m k.candidate vs) (kind_of_type k.candidate.method.result))) own

-- a call runs the selected body itself
pub record RunsBody (p : Program) (files : List ClassFile) (b : Bounds) (m : Method) (class : Word) (vs : List Value) (s : Store) (k : Selecting p files m class vs s) (call : Call) : Type 0 where
  pub at : ℕ
  pub part : k.candidate.member.part ≡ part.Method at
  pub method : slice_get k.candidate.head.methods at ≡ Some k.candidate.method
  pub runs : RunsMember p files b s.heap call (placed k.candidate)

abbrev pub Reaches : (p : Program) (files : List ClassFile) → Naming → Bounds → (m : Method) (class : Word) (vs : List Value) (s : Store) → Selecting p files m class vs s → Call → Type 0
Reaches p files naming b m class vs s k call = RunsBody p files b m class vs s k call ⊎ RunsDispatcher p files naming b m class vs s k call

-- before the first instruction of a method without arguments
abbrev pub first_state : List ClassFile → ℕ × ℕ → Frame → State
first_state files at frame =
    record { current = record { file = at.0; method = at.1; frame = frame }; callers = []; heap = []; statics = first_statics (classes_of files) }

-- the machine starts with code that has the open traces of the program's `main`
pub record StartsMain (p : Program) (files : List ClassFile) (b : Bounds) : Type 0 where
  pub member : Placed
  pub named : static_named p.classes (main_of p.main) ≡ Some member
  pub at : ℕ × ℕ
  pub frame : Frame
  pub starts : start files (internal_name p.main) ≡ Some (first_state files at frame)
  pub file : ClassFile
  pub file_there : slice_get files at.0 ≡ Some file
  pub method : MemberInfo
  pub method_there : slice_get file.methods at.1 ≡ Some method
  pub enters : entry method [] ≡ Some frame
  pub has : HasOpenTraces (hier_in p.classes) member.head member.member file method b.turn

-- Class files are right for a program: they stand in the order of its classes, with their supertypes and fields; the
-- machine starts in `main`; each static method and each constructor that is named is found, with the member's open traces;
-- and each call of a family, by the receiver's class or above a class, comes to the body that is selected
pub record IsRight (p : Program) (files : List ClassFile) (naming : Naming) (b : Bounds) : Type 0 where
  pub classes : classes_of files ≡ store_classes p
  pub main : StartsMain p files b
  pub static : (m : Method) (q : Placed) → static_named p.classes m ≡ Some q → (vs : List Value) (s : Store) → s.classes ≡ classes_of files → Enters p q vs s →
      RunsMember p files b s.heap (call_to (StaticMethod (key_of_method m)) vs) q
  pub constructor : (m : Method) (q : Placed) → m.name ≡ codes "<init>" → constructor_named p.classes m ≡ Some q → (vs : List Value) (s : Store) → s.classes ≡ classes_of files → Enters p q vs s →
      RunsMember p files b s.heap (call_to (Constructor (key_of_method m)) vs) q
  pub virtual : (m : Method) (class : Word) (vs : List Value) (s : Store) (k : Selecting p files m class vs s) → receiver_class s vs ≡ Some class →
      Reaches p files naming b m class vs s k (call_to (VirtualMethod m.name m.descriptor) vs)
  pub above : (c : TypedClass) (position : ℕ) → slice_get p.classes position ≡ Some c →
      (m : Method) (vs : List Value) (s : Store) (k : Selecting p files m (word_of m.class) vs s) → c.head.superclass ≡ Some (word_of m.class) → is_whole p (word_of m.class) ≡ true →
      Reaches p files naming b m (word_of m.class) vs s k (call_to (MethodAbove (internal_name c.head.name) m.name m.descriptor) vs)
