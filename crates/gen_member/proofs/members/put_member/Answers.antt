use Rattle.std.proofs.Common.{sym, ap, ◌∙◌, arith}
use Rattle.std.specs.Prelude.{slice_get}
use Rattle.std.specs.Option.{option_copied}
use Rattle.gen_member.proofs.Wholly.{field_member, no_member, member_put, member_constructor, slots_are}
use Rattle.gen_member.proofs.members.put_member.Goals as goal

pub returns-in-Field : goal.returns-in-Field
returns-in-Field c = field_member c.args.hier.now c.args.head.now c.args.m.now _ c.args.code.now c.requires.labels c.in-Field.is

pub returns-in-None : goal.returns-in-None
returns-in-None c = no_member c.args.hier.now c.args.head.now c.args.m.now _ c.args.code.now c.requires.labels c.in-Method.is (ap (slice_get c.args.head.now.methods) (sym c.from.ensures) ∙ (sym c.get.ensures.value ∙ ap option_copied c.in-None.is))

pub returns-in-Some : goal.returns-in-Some
returns-in-Some c = member_put c.args.m.now c.args.code.now _ c.put_method.result c.args.hier.now c.args.head.now _ _ c.in-Method.is (ap (slice_get c.args.head.now.methods) (sym c.from.ensures) ∙ (sym c.get.ensures.value ∙ ap option_copied c.in-Some.is)) c.put_method.ensures

pub returns-in-Constructor : goal.returns-in-Constructor
returns-in-Constructor c = member_constructor c.args.m.now c.args.code.now _ c.put_constructor.result c.args.hier.now c.args.head.now _ c.in-Constructor.is c.put_constructor.ensures

pub put_method-requires-clause-slots : goal.put_method-requires-clause-slots
put_method-requires-clause-slots c =
    let is = slots_are c.args.head.now c.args.m.now.part _ _ c.in-Method.is (ap (slice_get c.args.head.now.methods) (sym c.from.ensures) ∙ (sym c.get.ensures.value ∙ ap option_copied c.in-Some.is)) in
    omega (arith, is, c.requires.slots)
