use Rattle.std.proofs.Common.{◌≡◌, drop}
use Rattle.jp_pred.specs.Shapes.{field_type}
use Rattle.gen_code.proofs.start.field_type.Given as goal

-- what is left to look at decides
abbrev pub invariant-loop-field : goal.invariant-loop-field
invariant-loop-field l = field_type l.name l.fields ≡ field_type l.name (drop l.field-index l.fields)
