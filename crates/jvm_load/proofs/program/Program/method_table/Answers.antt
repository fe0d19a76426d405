use Rattle.jvm_load.proofs.Placed.{method_table_is}
use Rattle.jvm_load.proofs.program.Program.method_table.Goals as goal

pub returns : goal.returns
returns c = method_table_is c.args.self.now c.args.class c.methods_above.result.now c.methods_above.ensures
