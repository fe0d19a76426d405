use Rattle.std.proofs.Common.{length, ap, arith}
use Rattle.std.proofs.lemmas.List.{length-map}
use Rattle.code_asm.specs.Entries.{const_of, with_entry}
use Rattle.code_asm.proofs.pool.put_entry.Goals as goal

pub returns-then-len-gt-ROOM-clause-put : goal.returns-then-len-gt-ROOM-clause-put
returns-then-len-gt-ROOM-clause-put c =
    let keys = c.in_ok-at.ensures.keys in
    let many = c.if-len-gt-ROOM.true in
    let len = c.len.ensures.len in
    let mapped = length-map (with_entry c.args.entries.now.keys c.args.entry) const_of in
    let more = ap length keys in omega (arith, many, len, mapped, more)

pub returns-clause-put : goal.returns-clause-put
returns-clause-put c =
    let at = c.in_ok-at.ensures.index in
    let few = c.if-len-gt-ROOM.false in
    let len = c.len.ensures.len in
    (c.in_ok-at.ensures.keys, omega (arith, at), omega (arith, few, len))
