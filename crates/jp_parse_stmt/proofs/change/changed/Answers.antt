use Rattle.std.proofs.Common.{◌≡◌, Some, None, refl, sym, ap, ◌∙◌}
use Rattle.jp_grammar.specs.Kinds.{kind_of_token}
use Rattle.jp_parse_stmt.specs.Parts.{assignment_of, bump_of}
use Rattle.jp_parse_stmt.proofs.Changes.{assigned_gets, bumped_gets, ran_gets, assignment_kind, bump_sign, none_of}
use Rattle.jp_parse_stmt.proofs.change.changed.Goals as goal

pub returns-in-Some-clause-gives : goal.returns-in-Some-clause-gives
returns-in-Some-clause-gives c =
    let e : assignment_of (kind_of_token c.front.result.0.now) ≡ Some c.in-Some.sign = ap assignment_of (sym c.kind_of.ensures) ∙ sym c.assignment_of.ensures ∙ c.in-Some.is in
    let h = assignment_kind (kind_of_token c.front.result.0.now) c.in-Some.sign e in
    assigned_gets c.args.place c.args.left c.front.result.0.now c.front.result.1.now c.args.tokens.now c.front.ensures.split c.in-Some.sign c.assigned.result h.0 h.1 c.assigned.ensures.gives

pub returns-in-Some-bump_of-clause-gives : goal.returns-in-Some-bump_of-clause-gives
returns-in-Some-bump_of-clause-gives c =
    let e : bump_of (kind_of_token c.front.result.0.now) ≡ Some c.in-Some-bump_of.up = ap bump_of (sym c.kind_of-2.ensures) ∙ sym c.bump_of.ensures ∙ c.in-Some-bump_of.is in
    bumped_gets c.args.place c.args.left c.front.result.0.now c.front.result.1.now c.args.tokens.now c.front.ensures.split c.in-Some-bump_of.up c.in_ok-node.field-0 c.front.result.1
    (bump_sign c.front.result.0.now c.in-Some-bump_of.up e) c.requires.small refl c.in_ok-node.ensures

pub returns-clause-gives : goal.returns-clause-gives
returns-clause-gives c =
    let a : assignment_of (kind_of_token c.front.result.0.now) ≡ None = ap assignment_of (sym c.kind_of.ensures) ∙ sym c.assignment_of.ensures ∙ none_of c.assignment_of.result (λ x h. c.in_default.not-Some x h) in
    let b : bump_of (kind_of_token c.front.result.0.now) ≡ None = ap bump_of (sym c.kind_of-2.ensures) ∙ sym c.bump_of.ensures ∙ none_of c.bump_of.result (λ x h. c.in_default-bump_of.not-Some x h) in
    ran_gets c.args.place c.args.left c.front.result.0.now c.front.result.1.now c.args.tokens.now c.front.ensures.split c.in_ok-node-2.field-0 c.args.tokens a b c.requires.small refl c.in_ok-node-2.ensures
