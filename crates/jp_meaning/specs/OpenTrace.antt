-- The open traces of a member.
use Rattle.std.specs.Prelude.{ℕ, suc, List}
use Rattle.jp_pred.specs.declared.hier.Hier.{Hier}
use Rattle.iface_codec.specs.declared.iface.Iface.{Iface}
use Rattle.jp_store.specs.declared.value.Value.{Value}
use Rattle.jp_store.specs.Store.{Store}
use Rattle.jp_does.specs.OpenTrace.{Answer, Trace, open_trace}
use Rattle.jp_meaning.specs.declared.unit.TypedMember.{TypedMember}
use Rattle.jp_meaning.specs.Does.{Call}
use Rattle.jp_meaning.specs.Members.{member_does}
use Rattle.jp_meaning.specs.Run.{End}

-- A member of a class alone, with at most t turns of its loops. The hierarchy has the classes that its aliases name
abbrev pub member_trace : Hier → Iface → TypedMember → List Value → ℕ → List (Answer End) → Store → List ℕ → Trace Call End
member_trace hier head m vs t answers s i = open_trace t answers s i (member_does hier head m (suc t) vs)
