use Rattle.std.proofs.Common.{◌∙◌}
use Rattle.jp_store.specs.Classes.{line, find_field}
use Rattle.jvm_load.specs.FileClasses.{classes_of}
use Rattle.jvm_load.specs.Tables.{found_above}
use Rattle.jvm_load.specs.declared.tables.Listing.TheVariants.{OfFields}
use Rattle.jvm_load.proofs.Found.{fields_found}
use Rattle.jvm_load.proofs.Placed.{positions}
use Rattle.jvm_load.proofs.look_up.field_in.Goals as goal

pub returns : goal.returns
returns c = λ class t.
    let files = c.args.files.now in
    c.positions_of.ensures
    ∙ positions c.look_up.result (find_field (classes_of files) class c.args.name.now)
    (c.look_up.ensures (found_above OfFields files class) t ∙ fields_found files c.args.name.now (line (classes_of files) class))
