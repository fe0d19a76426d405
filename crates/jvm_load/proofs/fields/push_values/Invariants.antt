use Rattle.std.proofs.Common.{◌≡◌, ◌++◌, map, filter, take}
use Rattle.jvm_load.specs.Fields.{member_role, first_of}
use Rattle.jvm_load.proofs.fields.push_values.Given as goal

-- the values of the fields so far
abbrev pub invariant-loop-member : goal.invariant-loop-member
invariant-loop-member l =
    l.values.items ≡ l.initial.values.items ++ map (first_of l.file) (filter (member_role l.wants_static) (take l.member-index l.members))
