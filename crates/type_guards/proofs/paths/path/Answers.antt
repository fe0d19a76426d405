use Rattle.std.proofs.Common.{Some, sym, ap, ◌∙◌}
use Rattle.type_rules.specs.GuardPaths.{steps_of}
use Rattle.type_guards.proofs.NodeFaults.{finds_no_root, finds_no_step, finds_no_int, finds}
use Rattle.type_guards.proofs.paths.path.Goals as goal

pub returns-in_default : goal.returns-in_default
returns-in_default c =
    finds_no_root c.args.scope.now c.args.compared c.args.path.now c.args.first.now.fault c.add.new.self.fault (sym c.in_default.is ∙ c.in_ok-root.ensures) c.add.ensures

pub returns-in_default-2 : goal.returns-in_default-2
returns-in_default-2 c =
    finds_no_step c.args.scope.now c.args.compared c.args.path.now c.args.first.now.fault c.add-in_default-2.new.self.fault c.in-Some.root (sym c.in-Some.is ∙ c.in_ok-root.ensures)
    (sym c.in_default-2.is ∙ (c.in_ok-found.ensures ∙ ap (λ ns. steps_of c.args.scope.now (Some c.in-Some.root) ns) c.as_slice.ensures)) c.add-in_default-2.ensures

pub returns-then-not-add_if : goal.returns-then-not-add_if
returns-then-not-add_if c =
    finds_no_int c.args.scope.now c.args.compared c.args.path.now c.args.first.now.fault c.add_if.new.self.fault c.in-Some.root c.in-Some-2.found c.breaks_18.result c.add_if.result (sym c.in-Some.is ∙ c.in_ok-root.ensures)
    (sym c.in-Some-2.is ∙ (c.in_ok-found.ensures ∙ ap (λ ns. steps_of c.args.scope.now (Some c.in-Some.root) ns) c.as_slice.ensures)) c.breaks_18.ensures c.add_if.ensures.first c.add_if.ensures.kept c.if-not-add_if.true

pub returns : goal.returns
returns c =
    finds c.args.scope.now c.args.compared c.args.path.now c.args.first.now.fault c.add_if.new.self.fault c.in-Some.root c.in-Some-2.found c.breaks_18.result c.add_if.result (sym c.in-Some.is ∙ c.in_ok-root.ensures)
    (sym c.in-Some-2.is ∙ (c.in_ok-found.ensures ∙ ap (λ ns. steps_of c.args.scope.now (Some c.in-Some.root) ns) c.as_slice.ensures)) c.breaks_18.ensures c.add_if.ensures.first c.add_if.ensures.kept c.if-not-add_if.false
