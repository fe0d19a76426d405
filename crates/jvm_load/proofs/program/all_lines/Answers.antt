use Rattle.std.proofs.Common.{[], ◌∷◌, ◌++◌, sym, ap, ◌∙◌}
use Rattle.jvm_load.specs.FileClasses.{classes_of}
use Rattle.jvm_load.specs.Lines.{lines_of}
use Rattle.jvm_load.proofs.LineLemmas.{lines_none, lines_more}
use Rattle.jvm_load.proofs.program.all_lines.Goals as goal

pub loop-at-init : goal.loop-at-init
loop-at-init c = c.new-lines.ensures.items ∙ sym (lines_none (classes_of c.args.files.now))

pub loop-at-preserved : goal.loop-at-preserved
loop-at-preserved c =
    let classes = classes_of c.args.files.now in
    let at = c.loop-at.at in
    c.in_ok-push.ensures.items ∙ ap (λ l. l ++ c.new.result ∷ []) c.loop-at.invariant
    ∙ ap (λ l. lines_of classes at ++ l ∷ []) (c.new.ensures ∙ c.in_ok-walk_up.ensures) ∙ sym (lines_more classes at)
