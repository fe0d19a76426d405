use Rattle.std.proofs.Common.{◌≡◌, true, false, Option, Some, None, sym, ap, ◌∙◌}
use Rattle.std.specs.Prelude.{is_some}
use Rattle.type_rules.specs.declared.fault.TypeFault.{TypeFault}
use Rattle.type_rules.specs.Guards.{guarded}
use Rattle.type_rules.specs.Table.{faults_of}
use Rattle.type_rules.specs.Typing.{earlier, first_of}
use Rattle.type_rules.proofs.Sentences.{first_is_first, none_is_none}
use Rattle.type_rules.proofs.GuardTrees.{sound_is_guarded}
use Rattle.type_guards.proofs.typing.type_guard.Goals as goal

pub returns-in-Some-clause-answer : goal.returns-in-Some-clause-answer
returns-in-Some-clause-answer c =
    let all = (guarded c.args.guard.now c.args.scope.now).visits in
    first_is_first all c.in-Some.fault (ap (λ (o : Option TypeFault). earlier o (faults_of all)) (sym c.none-first.ensures) ∙ (sym c.in_ok-made.ensures.walks.first ∙ c.in-Some.is))

pub unreachable-requires : goal.unreachable-requires
unreachable-requires c =
    let all = (guarded c.args.guard.now c.args.scope.now).visits in
    let e : first_of all ≡ None = ap (λ (o : Option TypeFault). earlier o (faults_of all)) (sym c.none-first.ensures) ∙ (sym c.in_ok-made.ensures.walks.first ∙ c.in_default.is) in
    let s : is_some (guarded c.args.guard.now c.args.scope.now).made ≡ true = sound_is_guarded c.args.scope.now c.args.guard.now e in
    let m : (guarded c.args.guard.now c.args.scope.now).made ≡ None = sym c.in_ok-made.ensures.walks.made_is ∙ c.in-None.is in
    let k : true ≡ false = sym s ∙ ap is_some m in
    cc

pub returns-clause-answer : goal.returns-clause-answer
returns-clause-answer c =
    let all = (guarded c.args.guard.now c.args.scope.now).visits in
    let e : first_of all ≡ None = ap (λ (o : Option TypeFault). earlier o (faults_of all)) (sym c.none-first.ensures) ∙ (sym c.in_ok-made.ensures.walks.first ∙ c.in_default.is) in
    record {
      sound = none_is_none all e;
      resolved = sym c.in_ok-made.ensures.walks.made_is ∙ (c.in-Some-made.is ∙ ap Some (sym c.into_inner.ensures));
    }
