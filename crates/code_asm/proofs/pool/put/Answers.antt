use Rattle.code_asm.proofs.Chains.{put_single}
use Rattle.code_asm.proofs.pool.put.Goals as goal

pub returns-clause-put : goal.returns-clause-put
returns-clause-put c = put_single c.args.entry c.requires.single c.args.entries.now.keys c.put_entry.new.entries.keys c.put_entry.result c.requires.paired c.put_entry.ensures.put
