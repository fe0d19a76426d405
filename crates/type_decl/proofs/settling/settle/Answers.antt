use Rattle.std.proofs.Common.{◌∙◌}
use Rattle.type_decl.specs.Settling.{member_of}
use Rattle.type_decl.proofs.settling.settle.Goals as goal

pub returns : goal.returns
returns c =
    let w = c.args.walked in
    record {
      made_is = c.member_of-made.ensures ∙ (λ i. member_of c.args.part w.locals w.guard (c.in_ok-super_params.ensures i) (c.in_ok-super_args.ensures i) w.block);
      method_is = c.in_ok-method.ensures;
    }
