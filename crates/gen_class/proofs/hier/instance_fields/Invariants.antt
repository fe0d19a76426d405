use Rattle.std.proofs.Common.{◌≡◌, take}
use Rattle.iface_codec.specs.Hierarchy.{instance_fields}
use Rattle.gen_class.proofs.hier.instance_fields.Given as goal

-- the fields so far
abbrev pub invariant-loop-field : goal.invariant-loop-field
invariant-loop-field l = l.seen ≡ instance_fields (take l.field-index l.fields)
