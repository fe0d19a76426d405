use Rattle.std.proofs.Common.{◌≤◌, length, sym, ap, arith}
use Rattle.std.proofs.lemmas.List.{length-map}
use Rattle.jvm_load.specs.FileClasses.{class_of, classes_of}
use Rattle.jvm_load.proofs.Reach.{alone_is}
use Rattle.jvm_load.proofs.program.Program.is_above.Goals as goal

pub returns-then-at-len : goal.returns-then-at-len
returns-then-at-len c =
    let files = c.args.self.now in
    let count = length-map files class_of in
    let seen = ap length c.self.view_is in
    let past : length (classes_of files) ≤ c.args.at = omega (arith, count, seen, c.len.ensures, c.if-at-len.true) in
    sym (alone_is (classes_of files) (length files) c.args.up c.args.at past)
