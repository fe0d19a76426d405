use Rattle.std.proofs.Common.{◌≡◌, take}
use Rattle.class_form.proofs.member.copy_attributes.Given as goal

-- the copies so far
abbrev pub invariant-loop-attribute : goal.invariant-loop-attribute
invariant-loop-attribute l = l.copies ≡ take l.attribute-index l.attributes
