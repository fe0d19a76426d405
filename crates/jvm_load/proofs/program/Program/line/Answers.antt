use Rattle.std.proofs.Common.{◌<◌, List, length, get_or, ap, ◌∙◌, arith}
use Rattle.class_form.specs.declared.class_file.ClassFile.{ClassFile}
use Rattle.jp_store.specs.Classes.{line}
use Rattle.jvm_load.specs.FileClasses.{classes_of}
use Rattle.jvm_load.proofs.LineLemmas.{line_in, lines_count}
use Rattle.jvm_load.proofs.program.Program.line.Goals as goal

pub index-line-requires : goal.index-line-requires
index-line-requires c =
    let files = c.self.inside.files.items in
    let count = lines_count (classes_of files) (length files) in
    let same = ap length c.self.invariant.1 in
    let seen = ap length c.self.view_is in
    omega (arith, count, same, seen, c.requires)

pub returns : goal.returns
returns c =
    let files = c.self.inside.files.items in
    let d = c.index-line.result.now in
    let seen = ap length c.self.view_is in
    let within : c.args.at < length files = omega (arith, seen, c.requires) in
    c.as_slice.ensures ∙ c.index-line.ensures ∙ ap (λ l. get_or l c.args.at d) c.self.invariant.1
    ∙ line_in (classes_of files) (length files) c.args.at d within ∙ ap (λ (fs : List ClassFile). line (classes_of fs) c.args.at) c.self.view_is
