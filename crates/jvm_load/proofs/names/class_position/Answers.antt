use Rattle.std.proofs.Common.{sym, ◌∙◌}
use Rattle.std.specs.Str.{bytes_eq}
use Rattle.jp_store.specs.Classes.{Class}
use Rattle.jvm_load.specs.FileClasses.{class_of}
use Rattle.jvm_load.proofs.Positions.{position_map}
use Rattle.jvm_load.proofs.names.class_position.Goals as goal

pub returns-clause-place : goal.returns-clause-place
returns-clause-place c =
    c.file_position.ensures.position ∙ sym (position_map class_of (λ (k : Class). bytes_eq k.name c.args.name.now) c.args.files.now)
