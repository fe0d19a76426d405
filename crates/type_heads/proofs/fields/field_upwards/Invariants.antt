use Rattle.std.proofs.Common.{◌≡◌, ◌-◌, length}
use Rattle.type_heads.specs.Members.{own_field}
use Rattle.type_heads.proofs.Upwards.{upwards}
use Rattle.type_heads.proofs.fields.field_upwards.Given as goal

-- what the walk still finds
abbrev pub invariant-loop-i : goal.invariant-loop-i
invariant-loop-i l = upwards (own_field l.name) (length l.heads - l._i) l.heads l.class ≡ upwards (own_field l.name) (length l.heads) l.heads l.fn.class
