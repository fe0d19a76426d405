use Rattle.std.specs.Prelude.{slice_get}
use Rattle.std.proofs.Common.{◌≡◌, rules, subst, to_z, of_z, w64, Some}
use Rattle.std.proofs.lemmas.Int.{to_z-of_z}
use Rattle.class_form.specs.declared.constant.Const.TheVariants.{Long}
use Rattle.code_asm.specs.Held.{hold}
use Rattle.code_asm.specs.Entries.{consts_of, Puts}
use Rattle.code_asm.proofs.Chains.{kept_answers, kept_paired}
use Rattle.code_asm.proofs.Naming.{answers_extend, answers_named, one_held, constant_in, held_has, int_proper}
use Rattle.code_asm.proofs.pool.Pool.long.Goals as goal

pub returns-clause-held : goal.returns-clause-held
returns-clause-held c =
    let same : to_z w64 (of_z w64 c.args.value) ≡ c.args.value = search (rules, to_z-of_z) in
    rw (← c.self.view_is)
    (kept_answers (hold (consts_of c.self.inside.entries.keys) (Long c.args.value)) c.self.inside.entries.keys c.put_long-answer.new.entries.keys c.keep_if_ok.new.entries.keys c.len-len.result c.put_long-answer.result c.len-len.ensures.len c.put_long-answer.ensures.more (subst (λ n. Puts (hold (consts_of c.self.inside.entries.keys) (Long n)) c.put_long-answer.new.entries.keys c.put_long-answer.result) same c.put_long-answer.ensures.put) c.keep_if_ok.ensures.entries
    c.keep_if_ok.result c.keep_if_ok.ensures.same)

pub returns-clause-kept : goal.returns-clause-kept
returns-clause-kept c = answers_extend (λ list. hold list (Long c.args.value)) (one_held (Long c.args.value) (int_proper c.args.value)) c.args.self.now _ c.keep_if_ok.result (returns-clause-held c)

pub returns-clause-named : goal.returns-clause-named
returns-clause-named c =
    answers_named (λ list i file. slice_get file.constants i ≡ Some (Long c.args.value)) (hold c.args.self.now (Long c.args.value))
    (λ file more e. constant_in (hold c.args.self.now (Long c.args.value)).constants file more e (hold c.args.self.now (Long c.args.value)).index (Long c.args.value) (held_has c.args.self.now (Long c.args.value)))
    c.args.self.now _ c.keep_if_ok.result (returns-clause-held c)

pub invariant_of-self : goal.invariant_of-self
invariant_of-self c =
    let same : to_z w64 (of_z w64 c.args.value) ≡ c.args.value = search (rules, to_z-of_z) in
    kept_paired (hold (consts_of c.self.inside.entries.keys) (Long c.args.value)) c.self.inside.entries.keys c.put_long-answer.new.entries.keys c.keep_if_ok.new.entries.keys c.len-len.result c.put_long-answer.result c.len-len.ensures.len c.put_long-answer.ensures.more (subst (λ n. Puts (hold (consts_of c.self.inside.entries.keys) (Long n)) c.put_long-answer.new.entries.keys c.put_long-answer.result) same c.put_long-answer.ensures.put) c.keep_if_ok.ensures.entries
    c.self.invariant
