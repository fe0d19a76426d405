use Rattle.std.proofs.Common.{◌+◌, ◌<◌, ◌≤◌, [], length, sym, ap, arith, rules}
use Rattle.std.specs.Option.{option_map}
use Rattle.std.proofs.lemmas.List.{length-map}
use Rattle.jp_store.specs.Classes.{line}
use Rattle.jvm_load.specs.FileClasses.{class_of, classes_of}
use Rattle.jvm_load.proofs.LineLengths.{line_from_length, no_offset}
use Rattle.jvm_load.proofs.program.Program.slot_below.Goals as goal

pub returns-then-at-files : goal.returns-then-at-files
returns-then-at-files c =
    let files = c.args.self.now in
    let count = length-map files class_of in
    let same = ap length c.files.ensures.files in
    let h : length (classes_of files) ≤ c.args.at = omega (arith, count, same, c.if-at-files.true) in
    let k : c.args.field.class < length (classes_of files) = omega (arith, count, c.requires) in
    ap (option_map (λ n. n + c.args.field.slot)) (sym (no_offset (classes_of files) c.args.field.class c.args.at h k))

pub overflow_add-result : goal.overflow_add-result
overflow_add-result c =
    let files = c.args.self.now in
    let count = length-map files class_of in
    let same = ap length c.files.ensures.files in
    let most : length (line (classes_of files) c.args.at) ≤ length (classes_of files) = line_from_length (length (classes_of files)) (classes_of files) [] c.args.at in
    let small : c.args.field.slot < 4294967296 = search rules in
    omega (arith, count, same, most, c.files.ensures.loadable.count, c.in_ok-offset.ensures.most)
