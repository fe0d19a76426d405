use Rattle.std.proofs.Common.{◌≡◌, Some}
use Rattle.class_form.specs.Constants.{utf8_at}
use Rattle.class_form.specs.declared.constant.Const.TheVariants.{Utf8}
use Rattle.code_asm.specs.Held.{hold}
use Rattle.code_asm.specs.Entries.{consts_of}
use Rattle.code_asm.proofs.Chains.{kept_answers, kept_paired}
use Rattle.code_asm.proofs.Naming.{answers_extend, answers_named, one_held, utf8_in, held_has, utf8_proper}
use Rattle.code_asm.proofs.pool.Pool.utf8.Goals as goal

pub returns-clause-held : goal.returns-clause-held
returns-clause-held c =
    rw (← c.self.view_is)
    (kept_answers (hold (consts_of c.self.inside.entries.keys) (Utf8 c.args.bytes.now)) c.self.inside.entries.keys c.put_text-answer.new.entries.keys c.keep_if_ok.new.entries.keys c.len-len.result c.put_text-answer.result c.len-len.ensures.len c.put_text-answer.ensures.more c.put_text-answer.ensures.put c.keep_if_ok.ensures.entries
    c.keep_if_ok.result c.keep_if_ok.ensures.same)

pub returns-clause-kept : goal.returns-clause-kept
returns-clause-kept c = answers_extend (λ list. hold list (Utf8 c.args.bytes.now)) (one_held (Utf8 c.args.bytes.now) (utf8_proper c.args.bytes.now)) c.args.self.now _ c.keep_if_ok.result (returns-clause-held c)

pub returns-clause-named : goal.returns-clause-named
returns-clause-named c =
    answers_named (λ list i file. utf8_at file i ≡ Some c.args.bytes.now) (hold c.args.self.now (Utf8 c.args.bytes.now))
    (λ file more e. utf8_in (hold c.args.self.now (Utf8 c.args.bytes.now)).constants file more e (hold c.args.self.now (Utf8 c.args.bytes.now)).index c.args.bytes.now (held_has c.args.self.now (Utf8 c.args.bytes.now)))
    c.args.self.now _ c.keep_if_ok.result (returns-clause-held c)

pub invariant_of-self : goal.invariant_of-self
invariant_of-self c =
    kept_paired (hold (consts_of c.self.inside.entries.keys) (Utf8 c.args.bytes.now)) c.self.inside.entries.keys c.put_text-answer.new.entries.keys c.keep_if_ok.new.entries.keys c.len-len.result c.put_text-answer.result c.len-len.ensures.len c.put_text-answer.ensures.more c.put_text-answer.ensures.put c.keep_if_ok.ensures.entries
    c.self.invariant
