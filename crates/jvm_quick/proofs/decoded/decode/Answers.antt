use Rattle.std.proofs.Common.{◌≡◌, ◌+◌, ◌<◌, List, Option, Some, length, refl, sym, ap, ◌∙◌, subst, arith}
use Rattle.std.specs.Prelude.{slice_get}
use Rattle.std.proofs.lemmas.Option.{slice_get_read}
use Rattle.class_form.specs.declared.class_file.ClassFile.{ClassFile}
use Rattle.jvm_table.specs.declared.decode.Row.{Row}
use Rattle.jvm_quick.specs.Rows.{AreOfFile, IsOfFile}
use Rattle.jvm_quick.proofs.Filled.{AreFirst, first_none, first_more}
use Rattle.jvm_quick.proofs.decoded.decode.Goals as goal

pub loop-file-init : goal.loop-file-init
loop-file-init c = subst (λ (lists : List (List (List (Option Row)))). AreFirst (IsOfFile c.args.program.now) 0 lists) (sym c.new-lists.ensures.items) (first_none (IsOfFile c.args.program.now))

pub loop-file-preserved : goal.loop-file-preserved
loop-file-preserved c =
    let files = c.args.program.now in
    let l = c.loop-file in
    let i = l.file-index in
    let found = c.in_ok-file_rows in
    let slice = c.files-files.result.now in
    let file = c.file-item.result in
    let within : i < length slice = omega arith in
    let there : slice_get files i ≡ Some file = ap (λ (fs : List ClassFile). slice_get fs i) (sym c.files-files.ensures.files) ∙ slice_get_read slice (length slice) i file refl within c.file-item.is in
    let lists = subst (λ (ms : List (List (Option Row))). AreOfFile file ms) (sym c.new.ensures) found.ensures in
    subst (λ (all : List (List (List (Option Row)))). AreFirst (IsOfFile files) (i + 1) all) (sym c.in_ok-push.ensures.items)
    (first_more (IsOfFile files) i l.lists.items c.new.result l.invariant (file, there, lists))

pub returns : goal.returns
returns c = c.loop-file.invariant.each
