use Rattle.std.proofs.Common.{◌≡◌, ℕ, ◌+◌, ◌<◌, List, length, get_or, sym, ap, subst, ◌∙◌, arith}
use Rattle.jp_store.specs.Classes.{line}
use Rattle.jvm_load.specs.FileClasses.{classes_of}
use Rattle.jvm_load.specs.Places.{AreOffsetLists, AreOffsets}
use Rattle.jvm_load.proofs.LineLemmas.{line_in, lines_count}
use Rattle.jvm_load.proofs.Before.{offsets_none, offsets_more}
use Rattle.jvm_load.proofs.offsets.all_offsets.Goals as goal

pub loop-at-init : goal.loop-at-init
loop-at-init c = subst (λ (l : List (List ℕ)). AreOffsetLists (classes_of c.args.files.now) 0 l) (sym c.new-offsets.ensures.items) (offsets_none (classes_of c.args.files.now))

pub overflow_cast-at : goal.overflow_cast-at
overflow_cast-at c =
    let files = c.args.files.now in
    let count = lines_count (classes_of files) (length files) in
    let same = ap length c.requires.lines in
    omega (arith, count, same, c.loop-at-test.true, c.requires.loadable.count)

pub offsets_of-requires-clause-line : goal.offsets_of-requires-clause-line
offsets_of-requires-clause-line c =
    let classes = classes_of c.args.files.now in
    let n = length c.args.files.now in
    let i = c.loop-at.at in
    let count = lines_count classes n in
    let same = ap length c.requires.lines in
    let within : i < n = omega (arith, count, same, c.loop-at-test.true) in
    c.as_slice.ensures ∙ c.index-lines-at.is ∙ ap (λ l. get_or l i c.index-lines-at.result) c.requires.lines ∙ line_in classes n i c.index-lines-at.result within

pub loop-at-preserved : goal.loop-at-preserved
loop-at-preserved c =
    let classes = classes_of c.args.files.now in
    let i = c.loop-at.at in
    let found = c.in_ok-offsets_of.field-0.items in
    subst (λ (l : List (List ℕ)). AreOffsetLists classes (i + 1) l) (sym c.in_ok-push.ensures.items)
    (offsets_more classes i c.loop-at.offsets.items c.new.result c.loop-at.invariant
    (subst (λ (l : List ℕ). AreOffsets classes (line classes i) l) (sym c.new.ensures) c.in_ok-offsets_of.ensures))

pub returns : goal.returns
returns c =
    let files = c.args.files.now in
    let count = lines_count (classes_of files) (length files) in
    let same = ap length c.requires.lines in
    let all : c.loop-at.at ≡ length files = omega (arith, count, same, c.loop-at-test.false, c.loop-at.auto.at-end) in
    subst (λ (n : ℕ). AreOffsetLists (classes_of files) n c.loop-at.offsets.items) all c.loop-at.invariant
