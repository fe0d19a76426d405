use Rattle.std.proofs.Common.{◌≡◌, ◌+◌, drop, map}
use Rattle.std.specs.Prelude.{option_map}
use Rattle.iface_codec.specs.Hierarchy.{seen_class}
use Rattle.jp_pred.specs.Marks.{place}
use Rattle.type_heads.proofs.under.place.Given as goal

abbrev pub invariant-loop-i : goal.invariant-loop-i
invariant-loop-i l = place l.name (map seen_class l.heads) ≡ option_map (λ n. n + l.i) (place l.name (map seen_class (drop l.i l.heads)))
