use Rattle.std.proofs.Common.{◌≡◌, rules, subst, to_z, of_z, w64, Ok}
use Rattle.std.proofs.lemmas.Int.{to_z-of_z}
use Rattle.std.proofs.lemmas.Result.{err_from_is_err_and}
use Rattle.class_form.specs.declared.constant.Const.TheVariants.{Long}
use Rattle.code_asm.specs.Held.{hold, Fails}
use Rattle.code_asm.specs.Entries.{consts_of, Puts}
use Rattle.code_asm.proofs.Chains.{long_fails, long_fails_behind, long_puts}
use Rattle.code_asm.proofs.pool.put_long.Goals as goal

pub returns-in_err-at-clause-put : goal.returns-in_err-at-clause-put
returns-in_err-at-clause-put c =
    let same : to_z w64 (of_z w64 c.args.value) ≡ c.args.value = search (rules, to_z-of_z) in
    let p = err_from_is_err_and c.from_residual.result c.from_residual.ensures.1 in
    rw (p.1, p.2)
    (subst (λ n. Fails c.in_err-at.field-0.0 (hold (consts_of c.args.entries.now.keys) (Long n)).constants) same
    (long_fails (to_z w64 (of_z w64 c.args.value)) c.args.entries.now.keys c.requires c.in_err-at.field-0.0 c.in_err-at.ensures.put))

pub returns-in_err-put_entry-clause-put : goal.returns-in_err-put_entry-clause-put
returns-in_err-put_entry-clause-put c =
    let same : to_z w64 (of_z w64 c.args.value) ≡ c.args.value = search (rules, to_z-of_z) in
    let p = err_from_is_err_and c.from_residual-in_err-put_entry.result c.from_residual-in_err-put_entry.ensures.1 in
    rw (p.1, p.2)
    (subst (λ n. Fails c.in_err-put_entry.field-0.0 (hold (consts_of c.args.entries.now.keys) (Long n)).constants) same
    (long_fails_behind (to_z w64 (of_z w64 c.args.value)) c.args.entries.now.keys c.requires c.put_entry.new.entries.keys c.put_entry-2.new.entries.keys c.in_ok-at.at c.in_err-put_entry.field-0.0 c.in_ok-at.ensures.put c.in_err-put_entry.ensures.put))

pub returns-clause-put : goal.returns-clause-put
returns-clause-put c =
    let same : to_z w64 (of_z w64 c.args.value) ≡ c.args.value = search (rules, to_z-of_z) in
    let all = long_puts (to_z w64 (of_z w64 c.args.value)) c.args.entries.now.keys c.requires c.put_entry.new.entries.keys c.put_entry-2.new.entries.keys c.in_ok-at.at _ c.in_ok-at.ensures.put c.in_ok-put_entry.ensures.put in
    subst (λ n. Puts (hold (consts_of c.args.entries.now.keys) (Long n)) c.put_entry-2.new.entries.keys (Ok c.in_ok-at.at)) same all
