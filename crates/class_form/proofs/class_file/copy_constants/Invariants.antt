use Rattle.std.proofs.Common.{◌≡◌, take}
use Rattle.class_form.proofs.class_file.copy_constants.Given as goal

-- the copies so far
abbrev pub invariant-loop-constant : goal.invariant-loop-constant
invariant-loop-constant l = l.copies ≡ take l.constant-index l.constants
