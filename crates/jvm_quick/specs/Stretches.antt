-- What instructions come to that stay in their frame.
use Rattle.std.specs.Prelude.{◌≡◌, ◌<◌, ℕ, zero, suc, Option, Some, None, option_and_then}
use Rattle.class_form.specs.declared.class_file.ClassFile.{ClassFile}
use Rattle.class_form.specs.declared.member.MemberInfo.{MemberInfo}
use Rattle.jvm_table.specs.declared.frame.Frame.{Frame}
use Rattle.jvm_table.specs.Act.{Act, Moves, ShowsInt, ShowsText, Asks, Effects, Invokes, Leaves, Fails, NoRow, acts}
use Rattle.jvm_quick.specs.declared.act.Went.{Went}
use Rattle.jvm_quick.specs.declared.act.Went.TheVariants.{On, Trap}
use Rattle.jvm_quick.specs.declared.stretch.Quick.{Quick}
use Rattle.jvm_quick.specs.declared.stretch.Quick.TheVariants.{Moved, Trapped, NoRow as NoRowThere, Other}

-- an answer that may be none as the table's, with the frame that the code left
abbrev pub went_act : Option Went → Frame → Act
went_act None f = NoRow
went_act (Some On) f = Moves f
went_act (Some (Trap kind)) f = Fails kind

-- what an answer says of an instruction at a frame, with the frame that the code left: another instruction leaves it as it
-- was, and where there is no row the place stays
abbrev pub Says : Quick → Frame → Frame → Act → Type 0
Says Moved old new act = act ≡ Moves new
Says (Trapped kind) old new act = act ≡ Fails kind
Says NoRowThere old new act = (act ≡ NoRow) × (new.place ≡ old.place)
Says Other old new act = new ≡ old

-- where an instruction only goes on
abbrev pub next_of : Act → Option Frame
next_of (Moves f) = Some f
next_of (ShowsInt n f) = None
next_of (ShowsText bytes f) = None
next_of (Asks f) = None
next_of (Effects op push f) = None
next_of (Invokes call push f) = None
next_of (Leaves v) = None
next_of (Fails kind) = None
next_of NoRow = None

-- the frame behind n instructions of a method that only go on, if they do
unfoldable pub moved_by : ClassFile → MemberInfo → ℕ → Frame → Option Frame
moved_by file method zero f = Some f
moved_by file method (suc n) f = option_and_then (λ g. next_of (acts file method g)) (moved_by file method n f)

-- how a stretch ended at a frame, with the frame that the code left
abbrev pub EndsAt : Quick → Frame → Frame → Act → Type 0
EndsAt Moved old new act = new ≡ old
EndsAt (Trapped kind) old new act = act ≡ Fails kind
EndsAt NoRowThere old new act = (act ≡ NoRow) × (new.place ≡ old.place)
EndsAt Other old new act = new ≡ old

-- a stretch of n instructions from a frame on, and how it ended
abbrev pub IsStretch : ClassFile → MemberInfo → ℕ → Quick → Frame → Frame → Type 0
IsStretch file method n end old new =
    (last : Frame) × (moved_by file method n old ≡ Some last) × EndsAt end last new (acts file method last)

-- how many instructions there are in a stretch that ended so: as many as were allowed, or fewer
abbrev pub CountsTo : ℕ → Quick → ℕ → Type 0
CountsTo limit Moved count = count ≡ limit
CountsTo limit (Trapped kind) count = count < limit
CountsTo limit NoRowThere count = count < limit
CountsTo limit Other count = count < limit
