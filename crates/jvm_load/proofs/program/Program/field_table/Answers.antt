use Rattle.jvm_load.proofs.Placed.{field_table_is}
use Rattle.jvm_load.proofs.program.Program.field_table.Goals as goal

pub returns : goal.returns
returns c = field_table_is c.args.self.now c.args.class c.fields_above.result.now c.fields_above.ensures
