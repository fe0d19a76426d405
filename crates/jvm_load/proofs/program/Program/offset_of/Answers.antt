use Rattle.std.proofs.Common.{◌≤◌, [], length, ap, arith}
use Rattle.std.proofs.lemmas.List.{length-map}
use Rattle.jp_store.specs.Classes.{line}
use Rattle.jvm_load.specs.FileClasses.{class_of, classes_of}
use Rattle.jvm_load.proofs.LineLengths.{line_from_length}
use Rattle.jvm_load.proofs.program.Program.offset_of.Goals as goal

pub offset_in-requires-clause-short : goal.offset_in-requires-clause-short
offset_in-requires-clause-short c =
    let files = c.args.self.now in
    let count = length-map files class_of in
    let same = ap length c.files.ensures.files in
    let long = ap length c.line.ensures in
    let most : length (line (classes_of files) c.args.at) ≤ length (classes_of files) = line_from_length (length (classes_of files)) (classes_of files) [] c.args.at in
    omega (arith, count, same, long, most)
