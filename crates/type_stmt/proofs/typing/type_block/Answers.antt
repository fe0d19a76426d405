use Rattle.std.proofs.Common.{◌≡◌, List, [], map, true, false, Option, Some, None, sym, ap, ◌∙◌, arith}
use Rattle.std.specs.Prelude.{is_some}
use Rattle.type_rules.specs.declared.fault.TypeFault.{TypeFault}
use Rattle.type_rules.specs.Statements.{count, visits_along, made_along, flow}
use Rattle.type_rules.specs.Table.{faults_of}
use Rattle.type_rules.specs.Typing.{earlier, first_of}
use Rattle.type_rules.proofs.Sentences.{first_is_first, none_is_none}
use Rattle.type_rules.proofs.Firsts.{none_first}
use Rattle.type_rules.proofs.Flows.{block_makes}
use Rattle.type_stmt.proofs.Rooms.{restored_along, most_more}
use Rattle.type_stmt.proofs.typing.type_block.Goals as goal

pub walk_all-requires-clause-variables : goal.walk_all-requires-clause-variables
walk_all-requires-clause-variables c = omega (arith, c.requires, most_more (count c.args.scope.now) c.args.block.now c.args.scope.now)

pub returns-in-Some-clause-answer : goal.returns-in-Some-clause-answer
returns-in-Some-clause-answer c =
    let all = visits_along (map flow c.args.block.now) c.args.scope.now in
    first_is_first all c.in-Some.fault (ap (λ (o : Option TypeFault). earlier o (faults_of all)) (sym c.none-first.ensures) ∙ (sym c.in_ok-made.ensures.walks.first ∙ c.in-Some.is))

pub returns-in-Some-clause-keeps : goal.returns-in-Some-clause-keeps
returns-in-Some-clause-keeps c =
    restored_along c.args.block.now c.args.scope.now c.walk_all.new.scope c.len-mark.result c.cut.new.variables c.in_ok-made.ensures.after c.len-mark.ensures c.cut.ensures

pub unreachable-requires : goal.unreachable-requires
unreachable-requires c =
    let all = visits_along (map flow c.args.block.now) c.args.scope.now in
    let e : first_of all ≡ None = ap (λ (o : Option TypeFault). earlier o (faults_of all)) (sym c.none-first.ensures) ∙ (sym c.in_ok-made.ensures.walks.first ∙ c.in_default.is) in
    let s : is_some (made_along (Some []) (map flow c.args.block.now) c.args.scope.now) ≡ true = block_makes c.args.block.now [] c.args.scope.now (none_first (faults_of all) e) in
    let m : made_along (Some []) (map flow c.args.block.now) c.args.scope.now ≡ None = sym c.in_ok-made.ensures.walks.made_is ∙ c.in-None.is in
    let k : true ≡ false = sym s ∙ ap is_some m in
    cc

pub returns-clause-answer : goal.returns-clause-answer
returns-clause-answer c =
    let all = visits_along (map flow c.args.block.now) c.args.scope.now in
    let e : first_of all ≡ None = ap (λ (o : Option TypeFault). earlier o (faults_of all)) (sym c.none-first.ensures) ∙ (sym c.in_ok-made.ensures.walks.first ∙ c.in_default.is) in
    record { sound = none_is_none all e; resolved = sym c.in_ok-made.ensures.walks.made_is ∙ c.in-Some-made.is }

pub returns-clause-keeps : goal.returns-clause-keeps
returns-clause-keeps c =
    restored_along c.args.block.now c.args.scope.now c.walk_all.new.scope c.len-mark.result c.cut.new.variables c.in_ok-made.ensures.after c.len-mark.ensures c.cut.ensures
