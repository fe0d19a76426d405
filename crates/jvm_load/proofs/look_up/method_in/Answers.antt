use Rattle.std.proofs.Common.{◌∙◌}
use Rattle.std.specs.Option.{option_map}
use Rattle.jvm_load.specs.Methods.{find_method}
use Rattle.jvm_load.specs.Tables.{entry_of}
use Rattle.jvm_load.proofs.Placed.{positions}
use Rattle.jvm_load.proofs.look_up.method_in.Goals as goal

pub returns : goal.returns
returns c = λ class t.
    let files = c.args.files.now in
    c.positions_of.ensures
    ∙ positions c.look_up.result (find_method files class c.args.name.now c.args.descriptor.now)
    (c.look_up.ensures (λ key. option_map entry_of (find_method files class key.0 key.1)) t)
