use Rattle.std.proofs.Common.{◌≡◌, Some}
use Rattle.jvm_table.specs.Constants.{literal_at}
use Rattle.code_asm.specs.Held.{hold_text}
use Rattle.code_asm.specs.Entries.{consts_of}
use Rattle.code_asm.proofs.Chains.{kept_answers, kept_paired}
use Rattle.code_asm.proofs.Naming.{answers_extend, answers_named, text_held, literal_in, text_has}
use Rattle.code_asm.proofs.pool.Pool.text.Goals as goal

pub returns-clause-held : goal.returns-clause-held
returns-clause-held c =
    rw (← c.self.view_is)
    (kept_answers (hold_text (consts_of c.self.inside.entries.keys) c.args.bytes.now) c.self.inside.entries.keys c.put_literal-answer.new.entries.keys c.keep_if_ok.new.entries.keys c.len-len.result c.put_literal-answer.result c.len-len.ensures.len c.put_literal-answer.ensures.more c.put_literal-answer.ensures.put c.keep_if_ok.ensures.entries
    c.keep_if_ok.result c.keep_if_ok.ensures.same)

pub returns-clause-kept : goal.returns-clause-kept
returns-clause-kept c = answers_extend (λ list. hold_text list c.args.bytes.now) (text_held c.args.bytes.now) c.args.self.now _ c.keep_if_ok.result (returns-clause-held c)

pub returns-clause-named : goal.returns-clause-named
returns-clause-named c =
    answers_named (λ list i file. literal_at file i ≡ Some c.args.bytes.now) (hold_text c.args.self.now c.args.bytes.now)
    (λ file more e. literal_in (hold_text c.args.self.now c.args.bytes.now).constants file more e (hold_text c.args.self.now c.args.bytes.now).index c.args.bytes.now (text_has c.args.self.now c.args.bytes.now))
    c.args.self.now _ c.keep_if_ok.result (returns-clause-held c)

pub invariant_of-self : goal.invariant_of-self
invariant_of-self c =
    kept_paired (hold_text (consts_of c.self.inside.entries.keys) c.args.bytes.now) c.self.inside.entries.keys c.put_literal-answer.new.entries.keys c.keep_if_ok.new.entries.keys c.len-len.result c.put_literal-answer.result c.len-len.ensures.len c.put_literal-answer.ensures.more c.put_literal-answer.ensures.put c.keep_if_ok.ensures.entries
    c.self.invariant
