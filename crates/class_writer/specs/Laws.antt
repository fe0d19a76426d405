-- What holds of what is written, as a function of the class file.
use Rattle.std.specs.Prelude.{◌<◌}
use Rattle.std.specs.List.{All}
use Rattle.class_form.specs.declared.class_file.ClassFile.{ClassFile}
use Rattle.class_form.specs.WellFormed.{WellFormed}
use Rattle.class_form.specs.Layout.{Encodes, NumberInRange, MemberInRange}
use Rattle.class_writer.specs.Written.{written}

-- the numbers that `WellFormed` doesn't bound are of their fields' widths
pub record FileInRange (file : ClassFile) : Type 0 where
  pub constants : All NumberInRange file.constants
  pub fields : All MemberInRange file.fields
  pub methods : All MemberInRange file.methods
  pub flags : file.flags < 65536

-- what is written for a well-formed file is an encoding of it
abbrev pub WrittenEncodes : Type 0
WrittenEncodes = (file : ClassFile) → WellFormed file → FileInRange file → Encodes file (written file)
