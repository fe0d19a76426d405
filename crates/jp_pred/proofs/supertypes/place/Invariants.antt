use Rattle.std.proofs.Common.{◌≡◌, ◌+◌, drop}
use Rattle.std.specs.Prelude.{option_map}
use Rattle.jp_pred.specs.Marks.{place}
use Rattle.jp_pred.proofs.supertypes.place.Given as goal

abbrev pub invariant-loop-i : goal.invariant-loop-i
invariant-loop-i l = place l.name l.classes ≡ option_map (λ n. n + l.i) (place l.name (drop l.i l.classes))
