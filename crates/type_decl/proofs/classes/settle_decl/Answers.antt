use Rattle.std.proofs.lemmas.Result.{IfOk-weaker}
use Rattle.type_decl.proofs.Settles.{decl_settled}
use Rattle.type_decl.proofs.classes.settle_decl.Goals as goal

pub returns : goal.returns
returns c =
    IfOk-weaker c.class_of.result _ _ (λ class e.
    decl_settled c.args.heads.now c.args.before.now c.args.decl.now c.args.first.now.fault c.settle_members.new.first.fault c.judge_decl.new.first.fault c.in_ok-settled.settled.made c.in_ok-settled.settled.methods class
    c.in_ok-settled.ensures c.judge_decl.ensures e) c.class_of.ensures
