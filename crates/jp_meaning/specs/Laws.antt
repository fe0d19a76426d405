-- What more ticks change, and that a program has one meaning.
use Rattle.std.specs.Prelude.{◌≡◌, ℕ, suc, List, ◌++◌}
use Rattle.jp_pred.specs.Names.{Word}
use Rattle.jp_meaning.specs.declared.unit.TypedClass.{TypedClass}
use Rattle.jp_meaning.specs.Classes.{hier_in}
use Rattle.jp_meaning.specs.Choice.{Question, Choice, IsSelection}
use Rattle.jp_meaning.specs.Run.{End, Done, Trapped, NoBody, TwoBodies, IsStuck, More, Result, Program, run}

-- the second list begins with the first
abbrev pub Begins : List ℕ → List ℕ → Type 0
Begins short long = (rest : List ℕ) × (long ≡ short ++ rest)

-- A result and that with more ticks, by the end of the first: where it isn't More they are the same, and otherwise the
-- output of the second begins with that of the first
abbrev pub GoesOn : End → Result → Result → Type 0
GoesOn More first second = Begins first.output second.output
GoesOn Done first second = second ≡ first
GoesOn (Trapped kind) first second = second ≡ first
GoesOn NoBody first second = second ≡ first
GoesOn TwoBodies first second = second ≡ first
GoesOn IsStuck first second = second ≡ first

-- with one tick more a program means the same, or, where it wanted a tick, its output goes on
abbrev pub MoreTicksAgree : Type 0
MoreTicksAgree = (p : Program) (input : List ℕ) (n : ℕ) → GoesOn (run p input n).end (run p input n) (run p input (suc n))

-- all that answer as selection says give a program one meaning
abbrev pub MeaningIsOne : Type 0
MeaningIsOne =
    (classes : List TypedClass) (main : Word) (select other : Question → Choice) → IsSelection (hier_in classes) select → IsSelection (hier_in classes) other →
    (input : List ℕ) (n : ℕ) → run (record { classes = classes; main = main; select = select }) input n ≡ run (record { classes = classes; main = main; select = other }) input n
