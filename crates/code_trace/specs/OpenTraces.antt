-- What it means that code has a member's open traces.
use Rattle.std.specs.Prelude.{◌≡◌, ◌⊎◌, ℕ, ◌+◌, ◌*◌, ◌≤◌, List, map}
use Rattle.class_form.specs.declared.class_file.ClassFile.{ClassFile}
use Rattle.class_form.specs.declared.member.MemberInfo.{MemberInfo}
use Rattle.jp_pred.specs.declared.hier.Hier.{Hier}
use Rattle.iface_codec.specs.declared.iface.Iface.{Iface}
use Rattle.jp_store.specs.declared.value.Value.{Value}
use Rattle.jp_store.specs.Store.{Store}
use Rattle.jp_does.specs.OpenTrace.{Answer, Way, Returned, Trapped, Ended, UsedUp, AtLimit, IsStuck, Trace, calls_in}
use Rattle.jp_meaning.specs.declared.unit.TypedMember.{TypedMember}
use Rattle.jp_meaning.specs.Does as source
use Rattle.jp_meaning.specs.Descriptors.{internal_name}
use Rattle.jp_meaning.specs.OpenTrace.{member_trace}
use Rattle.jp_meaning.specs.Run.{End}
use Rattle.jvm_table.specs.Act.{Call}
use Rattle.code_trace.specs.Calls.{event_in}
use Rattle.code_trace.specs.CodeTrace.{code_trace}
use Rattle.code_trace.specs.Given.{IsGiven}

-- A trace that was made ends as the one that was wanted. Where that one is stuck, the one that was made is at its limit, or
-- has no row
abbrev pub EndsLike : Way End → Way End → Type 0
EndsLike made (Returned v s i) = made ≡ Returned v s i
EndsLike made (Trapped kind) = made ≡ Trapped kind
EndsLike made (Ended end) = made ≡ Ended end
EndsLike made UsedUp = made ≡ UsedUp
EndsLike made AtLimit = made ≡ AtLimit
EndsLike made IsStuck = (made ≡ AtLimit) ⊎ (made ≡ IsStuck)

-- The trace that code of a class made is the one that was wanted, with at least an instruction for each turn and call,
-- and at most so many for each turn and some to begin with
pub record IsTraceOf (current : List ℕ) (made : Trace Call End) (wanted : Trace source.Call End) (start more : ℕ) : Type 0 where
  pub events : made.events ≡ map (event_in current) wanted.events
  pub way : EndsLike made.way wanted.way
  pub least : wanted.turns + calls_in wanted.events ≤ made.turns
  pub most : made.turns ≤ start + wanted.turns * more

-- The code of a method of a file has the open traces of a member of a class from its entry, where the member is given what
-- it is declared with, with at most so many instructions at first and for each turn of a loop
abbrev pub HasOpenTraces : Hier → Iface → TypedMember → ClassFile → MemberInfo → ℕ → Type 0
HasOpenTraces hier head m file method more =
    (vs : List Value) (s : Store) → IsGiven hier head m.part vs s → (t : ℕ) (answers : List (Answer End)) (i : List ℕ) →
    (n : ℕ) × IsTraceOf (internal_name head.name) (code_trace file method vs n answers s i) (member_trace hier head m vs t answers s i) more more
