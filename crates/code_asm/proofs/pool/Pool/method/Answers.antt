use Rattle.std.proofs.Common.{◌≡◌, Some, refl}
use Rattle.jvm_table.specs.Constants.{member_named, method_in}
use Rattle.class_form.specs.declared.constant.Const.TheVariants.{Methodref}
use Rattle.code_asm.specs.Held.{hold_member}
use Rattle.code_asm.specs.Entries.{consts_of}
use Rattle.code_asm.proofs.Chains.{kept_answers, kept_paired}
use Rattle.code_asm.proofs.Naming.{answers_extend, answers_named, member_held, member_in, member_has, pair_proper}
use Rattle.code_asm.proofs.pool.Pool.method.Goals as goal

pub returns-clause-held : goal.returns-clause-held
returns-clause-held c =
    rw (← c.self.view_is)
    (kept_answers (hold_member Methodref (consts_of c.self.inside.entries.keys) c.args.class.now c.args.name.now c.args.descriptor.now) c.self.inside.entries.keys c.put_member-answer.new.entries.keys c.keep_if_ok.new.entries.keys c.len-len.result c.put_member-answer.result c.len-len.ensures.len c.put_member-answer.ensures.more c.put_member-answer.ensures.put c.keep_if_ok.ensures.entries
    c.keep_if_ok.result c.keep_if_ok.ensures.same)

pub returns-clause-kept : goal.returns-clause-kept
returns-clause-kept c = answers_extend (λ list. hold_member Methodref list c.args.class.now c.args.name.now c.args.descriptor.now) (member_held Methodref pair_proper c.args.class.now c.args.name.now c.args.descriptor.now) c.args.self.now _ c.keep_if_ok.result (returns-clause-held c)

pub returns-clause-named : goal.returns-clause-named
returns-clause-named c =
    answers_named (λ list i file. member_named method_in file i ≡ Some (record { class = c.args.class.now; name = c.args.name.now; descriptor = c.args.descriptor.now })) (hold_member Methodref c.args.self.now c.args.class.now c.args.name.now c.args.descriptor.now)
    (λ file more e. member_in (hold_member Methodref c.args.self.now c.args.class.now c.args.name.now c.args.descriptor.now).constants file more e Methodref method_in (λ a b. refl) (hold_member Methodref c.args.self.now c.args.class.now c.args.name.now c.args.descriptor.now).index (record { class = c.args.class.now; name = c.args.name.now; descriptor = c.args.descriptor.now }) (member_has Methodref pair_proper c.args.self.now c.args.class.now c.args.name.now c.args.descriptor.now))
    c.args.self.now _ c.keep_if_ok.result (returns-clause-held c)

pub invariant_of-self : goal.invariant_of-self
invariant_of-self c =
    kept_paired (hold_member Methodref (consts_of c.self.inside.entries.keys) c.args.class.now c.args.name.now c.args.descriptor.now) c.self.inside.entries.keys c.put_member-answer.new.entries.keys c.keep_if_ok.new.entries.keys c.len-len.result c.put_member-answer.result c.len-len.ensures.len c.put_member-answer.ensures.more c.put_member-answer.ensures.put c.keep_if_ok.ensures.entries
    c.self.invariant
