use Rattle.std.proofs.Common.{◌≡◌, ◌+◌, ◌-◌, ◌<◌, length, sym, ◌∙◌, arith}
use Rattle.type_guards.proofs.LastTests.{found_test, other_test}
use Rattle.type_guards.proofs.narrowing.last_class.Goals as goal

pub returns-then-eq : goal.returns-then-eq
returns-then-eq c =
    let k : c.tests.left ≡ c.tests.left - 1 + 1 = omega arith in
    let l : c.tests.left - 1 < length c.args.tests.now = omega arith in
    found_test c.args.tests.now c.tests.left (c.tests.left - 1) c.index-tests-left.result c.args.path.now k l c.index-tests-left.is (sym c.eq.ensures ∙ c.if-eq.true) ∙ c.tests.invariant.last

pub tests-preserved : goal.tests-preserved
tests-preserved c =
    let k : c.tests.left ≡ c.tests.left - 1 + 1 = omega arith in
    let l : c.tests.left - 1 < length c.args.tests.now = omega arith in
    record {
      within = omega arith;
      last = other_test c.args.tests.now c.tests.left (c.tests.left - 1) c.index-tests-left.result c.args.path.now k l c.index-tests-left.is (sym c.eq.ensures ∙ c.if-eq.false) ∙ c.tests.invariant.last;
    }
