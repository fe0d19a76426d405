use Rattle.std.proofs.Common.{◌≡◌, ◌-◌, ◌++◌, length, take, drop, ap, ◌∙◌, append_assoc, take-append-drop}
use Rattle.std.proofs.lemmas.List.{take_rest}
use Rattle.std.specs.Io.KnownBytes.{append_known}
use Rattle.jp_outside.proofs.Known.{append_known-append}
use Rattle.jp_outside.proofs.writing.write_all.Goals as goal

-- src/writing.rt:15:5
pub loop-rest-preserved : goal.loop-rest-preserved
loop-rest-preserved g c =
    let n = c.in_ok-n.n in
    let rest = c.loop-rest.rest.now in
    let before = c.loop-rest.invariant in
    let parts : take n rest ++ take (length rest - n) (drop n rest) ≡ rest = ap (λ l. take n rest ++ l) (take_rest rest n) ∙ take-append-drop n rest in (
      before.0 ++ take n rest,
      append_assoc before.0 (take n rest) _ ∙ ap (λ l. before.0 ++ l) parts ∙ before.1,
      c.in_ok-n.ensures.added ∙ ap (λ k. append_known k (take n rest)) before.2 ∙ append_known-append _ before.0 (take n rest),
      c.in_ok-n.ensures.cause ∙ before.3,
    )
