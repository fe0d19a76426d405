-- Writing and reading undo each other.
use Rattle.std.specs.Prelude.{◌≡◌, ℕ, ◌<◌, List, Ok}
use Rattle.std.specs.List.{All}
use Rattle.class_form.specs.declared.class_file.ClassFile.{ClassFile}
use Rattle.class_form.specs.WellFormed.{WellFormed}
use Rattle.class_writer.specs.Written.{written}
use Rattle.class_writer.specs.Laws.{FileInRange}
use Rattle.class_reader.specs.Reading.{class_of}

-- what is written for a well-formed file is read as that file
abbrev pub WrittenIsRead : Type 0
WrittenIsRead = (file : ClassFile) → WellFormed file → FileInRange file → class_of (written file) ≡ Ok file

-- a file that is read is written as bytes that are read as the same file, where these may differ in the place of `Code`
abbrev pub ReadIsWritten : Type 0
ReadIsWritten = (bytes : List ℕ) (file : ClassFile) → All (λ byte. byte < 256) bytes → class_of bytes ≡ Ok file → class_of (written file) ≡ Ok file
