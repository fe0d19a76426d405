use Rattle.std.proofs.Common.{◌≡◌, Some}
use Rattle.class_form.specs.Constants.{class_name_at}
use Rattle.code_asm.specs.Held.{hold_class}
use Rattle.code_asm.specs.Entries.{consts_of}
use Rattle.code_asm.proofs.Chains.{kept_answers, kept_paired}
use Rattle.code_asm.proofs.Naming.{answers_extend, answers_named, class_held, class_name_in, class_has}
use Rattle.code_asm.proofs.pool.Pool.class.Goals as goal

pub returns-clause-held : goal.returns-clause-held
returns-clause-held c =
    rw (← c.self.view_is)
    (kept_answers (hold_class (consts_of c.self.inside.entries.keys) c.args.name.now) c.self.inside.entries.keys c.put_class-answer.new.entries.keys c.keep_if_ok.new.entries.keys c.len-len.result c.put_class-answer.result c.len-len.ensures.len c.put_class-answer.ensures.more c.put_class-answer.ensures.put c.keep_if_ok.ensures.entries
    c.keep_if_ok.result c.keep_if_ok.ensures.same)

pub returns-clause-kept : goal.returns-clause-kept
returns-clause-kept c = answers_extend (λ list. hold_class list c.args.name.now) (class_held c.args.name.now) c.args.self.now _ c.keep_if_ok.result (returns-clause-held c)

pub returns-clause-named : goal.returns-clause-named
returns-clause-named c =
    answers_named (λ list i file. class_name_at file i ≡ Some c.args.name.now) (hold_class c.args.self.now c.args.name.now)
    (λ file more e. class_name_in (hold_class c.args.self.now c.args.name.now).constants file more e (hold_class c.args.self.now c.args.name.now).index c.args.name.now (class_has c.args.self.now c.args.name.now))
    c.args.self.now _ c.keep_if_ok.result (returns-clause-held c)

pub invariant_of-self : goal.invariant_of-self
invariant_of-self c =
    kept_paired (hold_class (consts_of c.self.inside.entries.keys) c.args.name.now) c.self.inside.entries.keys c.put_class-answer.new.entries.keys c.keep_if_ok.new.entries.keys c.len-len.result c.put_class-answer.result c.len-len.ensures.len c.put_class-answer.ensures.more c.put_class-answer.ensures.put c.keep_if_ok.ensures.entries
    c.self.invariant
