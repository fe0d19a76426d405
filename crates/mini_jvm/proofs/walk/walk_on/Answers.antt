use Rattle.std.proofs.Common.{sym, ap, ◌∙◌, arith}
use Rattle.mini_jvm.specs.Steps.{as_turn}
use Rattle.mini_jvm.proofs.Walking.{walked_on, count_before, walked_trap, walked_out, walked_other}
use Rattle.mini_jvm.proofs.walk.walk_on.Goals as goal

pub returns-in-Moved-clause-within : goal.returns-in-Moved-clause-within
returns-in-Moved-clause-within c =
    let s = c.stretch_from-stretch.result in
    count_before c.args.linked.now s.count s.end c.args.state.now c.stretch_from-stretch.new.state c.args.limit c.in-Moved.is c.stretch_from-stretch.ensures.count (omega arith)

pub returns-in-Moved-clause-walk : goal.returns-in-Moved-clause-walk
returns-in-Moved-clause-walk c =
    let s = c.stretch_from-stretch.result in
    walked_on c.args.linked.now s.count s.end c.args.state.now c.stretch_from-stretch.new.state c.args.limit c.in-Moved.is c.stretch_from-stretch.ensures.count (omega arith) (c.stretch_from-stretch.ensures.leads c.args.linked.now c.requires.decoded)

pub returns-in-Trapped-clause-walk : goal.returns-in-Trapped-clause-walk
returns-in-Trapped-clause-walk c =
    let s = c.stretch_from-stretch.result in
    walked_trap c.args.linked.now s.count s.end c.args.state.now c.stretch_from-stretch.new.state c.in-Trapped.kind c.in-Trapped.is (c.stretch_from-stretch.ensures.leads c.args.linked.now c.requires.decoded)

pub returns-in-NoRow-clause-walk : goal.returns-in-NoRow-clause-walk
returns-in-NoRow-clause-walk c =
    let s = c.stretch_from-stretch.result in
    walked_out c.args.linked.now s.count s.end c.args.state.now c.stretch_from-stretch.new.state (as_turn c.no_row_at.result c.stretch_from-stretch.new.state) c.in-NoRow.is (c.stretch_from-stretch.ensures.leads c.args.linked.now c.requires.decoded) (c.no_row_at.ensures c.stretch_from-stretch.new.state)

pub returns-in_ok-step-in-Other-clause-walk : goal.returns-in_ok-step-in-Other-clause-walk
returns-in_ok-step-in-Other-clause-walk c =
    let s = c.stretch_from-stretch.result in
    walked_other c.args.linked.now s.count s.end c.args.state.now c.stretch_from-stretch.new.state (as_turn c.in_ok-step-in-Other.step c.one_step.new.state) c.in-Other.is (c.stretch_from-stretch.ensures.leads c.args.linked.now c.requires.decoded) c.in_ok-step-in-Other.ensures
