use Rattle.std.proofs.Common.{◌≡◌, ◌∷◌, take}
use Rattle.class_form.specs.declared.constant.Const.TheVariants.{Unused}
use Rattle.code_asm.specs.Entries.{consts_of}
use Rattle.code_asm.proofs.pool.copy_entries.Given as goal

-- the constants so far
abbrev pub invariant-loop-entry : goal.invariant-loop-entry
invariant-loop-entry l = l.constants.items ≡ Unused ∷ consts_of (take l.entry-index l.entries)
