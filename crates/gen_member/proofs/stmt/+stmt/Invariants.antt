use Rattle.std.proofs.Common.{take}
use Rattle.gen_parts.specs.Emits.{Puts}
use Rattle.gen_member.specs.Blocks.{block_part}
use Rattle.gen_member.proofs.stmt.+stmt.Given as goal

-- what is written so far
abbrev pub invariant-put_block-loop-one : goal.invariant-put_block-loop-one
invariant-put_block-loop-one l = Puts l.fn.code l.code l.need (block_part (take l.one-index l.block) l.exits.out l.exits.back l.fn.code.labels)
