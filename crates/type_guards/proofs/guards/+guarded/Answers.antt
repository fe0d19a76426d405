use Rattle.std.proofs.Common.{sym, subst, ◌∙◌}
use Rattle.std.proofs.lemmas.Result.{IfOk-weaker, on_ok_weaker}
use Rattle.jp_ast.specs.declared.guard.GuardKind.TheVariants as test
use Rattle.type_rules.specs.declared.guard_scope.GuardScope.{GuardScope}
use Rattle.type_guards.specs.Walking.{Walks, Keeps}
use Rattle.type_guards.proofs.Walked.{walks_and, walks_or, walks_flag, walks_null_test, walks_alias, walks_test, keeps_or, with_after}
use Rattle.type_guards.proofs.guards.+guarded.Goals as goal

pub returns-in_ok-right-in-And-clause-walks : goal.returns-in_ok-right-in-And-clause-walks
returns-in_ok-right-in-And-clause-walks t c =
    IfOk-weaker c.conjunction.result _ _ (λ made e.
    walks_and c.args.guard.now c.get-in-And.result.now c.get-in-And-2.result.now c.args.scope.now c.guarded-in-And.new.scope c.guarded-in-And-2.new.scope
    c.args.first.now.fault c.guarded-in-And.new.first.fault c.guarded-in-And-2.new.first.fault c.in_ok-left-in-And.left c.in_ok-right-in-And.right made
    (c.in-And.is ∙ (λ i. test.And (sym c.get-in-And.ensures i) (sym c.get-in-And-2.ensures i))) c.in_ok-left-in-And.ensures.walks c.in_ok-right-in-And.ensures.walks e) c.conjunction.ensures

pub returns-in_ok-right-in-Or-clause-walks : goal.returns-in_ok-right-in-Or-clause-walks
returns-in_ok-right-in-Or-clause-walks t c =
    IfOk-weaker c.disjunction.result _ _ (λ made e.
    walks_or c.args.guard.now c.get-in-Or.result.now c.get-in-Or-2.result.now c.args.scope.now c.guarded-in-Or.new.scope c.leave-in-Or.new.scope c.guarded-in-Or-2.new.scope c.leave-in-Or-2.new.scope
    c.enter-mark-in-Or.result.0 c.enter-mark-in-Or.result.1
    c.args.first.now.fault c.guarded-in-Or.new.first.fault c.guarded-in-Or-2.new.first.fault c.in_ok-left-in-Or.left c.in_ok-right-in-Or.right made
    (c.in-Or.is ∙ (λ i. test.Or (sym c.get-in-Or.ensures i) (sym c.get-in-Or-2.ensures i))) c.enter-mark-in-Or.ensures.mark c.enter-mark-in-Or.ensures.outermost
    (subst (λ (z : GuardScope). Walks c.get-in-Or.result.now z c.guarded-in-Or.new.scope c.args.first.now.fault c.guarded-in-Or.new.first.fault c.in_ok-left-in-Or.left) c.enter-mark-in-Or.ensures.inside c.in_ok-left-in-Or.ensures.walks)
    (subst (λ (z : GuardScope). Keeps z c.guarded-in-Or.new.scope) c.enter-mark-in-Or.ensures.inside c.in_ok-left-in-Or.ensures.keeps)
    c.leave-in-Or.ensures c.in_ok-right-in-Or.ensures.walks c.in_ok-right-in-Or.ensures.keeps c.leave-in-Or-2.ensures e) c.disjunction.ensures

pub returns-in_ok-right-in-Or-clause-keeps : goal.returns-in_ok-right-in-Or-clause-keeps
returns-in_ok-right-in-Or-clause-keeps t c =
    on_ok_weaker c.disjunction.result (λ _.
    keeps_or c.args.scope.now c.guarded-in-Or.new.scope c.leave-in-Or.new.scope c.guarded-in-Or-2.new.scope c.leave-in-Or-2.new.scope c.enter-mark-in-Or.result.0 c.enter-mark-in-Or.result.1
    c.enter-mark-in-Or.ensures.mark c.enter-mark-in-Or.ensures.outermost
    (subst (λ (z : GuardScope). Keeps z c.guarded-in-Or.new.scope) c.enter-mark-in-Or.ensures.inside c.in_ok-left-in-Or.ensures.keeps)
    c.leave-in-Or.ensures c.in_ok-right-in-Or.ensures.keeps c.leave-in-Or-2.ensures) (IfOk-weaker c.disjunction.result _ (λ _. Unit {0}) (λ made e. tt) c.disjunction.ensures)

pub returns-in-Is-clause-walks : goal.returns-in-Is-clause-walks
returns-in-Is-clause-walks t c =
    with_after c.test.result _ _ (λ made a e.
    walks_test c.args.guard.now c.args.scope.now c.test.new.scope c.in-Is.path c.in-Is.class c.in-Is.alias c.args.first.now.fault c.test.new.first.fault made c.in-Is.is a e) c.test.ensures.atom c.test.ensures.after

pub returns-in-Alias-clause-walks : goal.returns-in-Alias-clause-walks
returns-in-Alias-clause-walks t c =
    with_after c.alias.result _ _ (λ made a e.
    walks_alias c.args.guard.now c.args.scope.now c.alias.new.scope c.in-Alias.path c.in-Alias.name c.args.first.now.fault c.alias.new.first.fault made c.in-Alias.is a e) c.alias.ensures.atom c.alias.ensures.after

pub returns-in-NullTest-clause-walks : goal.returns-in-NullTest-clause-walks
returns-in-NullTest-clause-walks t c =
    IfOk-weaker c.null_test.result _ _ (λ made a. walks_null_test c.args.guard.now c.args.scope.now c.in-NullTest.path c.in-NullTest.equal c.args.first.now.fault c.null_test.new.first.fault made c.in-NullTest.is a) c.null_test.ensures

pub returns-in-Flag-clause-walks : goal.returns-in-Flag-clause-walks
returns-in-Flag-clause-walks t c =
    IfOk-weaker c.flag.result _ _ (λ made a. walks_flag c.args.guard.now c.args.scope.now c.in-Flag.path c.args.first.now.fault c.flag.new.first.fault made c.in-Flag.is a) c.flag.ensures
