use Rattle.std.proofs.Common.{rules, ℤ, w32, to_z, of_z, ◌≡◌, sym, ap, ◌∙◌}
use Rattle.jp_store.specs.declared.value.Value.TheVariants.{Int}
use Rattle.std.proofs.lemmas.Int.{to_z-of_z}
use Rattle.jvm_table.specs.declared.instr.Instr.TheVariants.{Increase}
use Rattle.jvm_table.specs.Act as table
use Rattle.jvm_quick.proofs.act.quick.Goals as goal

pub returns-in-PushInt : goal.returns-in-PushInt
returns-in-PushInt c = λ file method.
    let n = c.in-PushInt.n in
    let same : to_z w32 (of_z w32 n) ≡ n = search (rules, to_z-of_z) in
    c.push.ensures ∙ ap (λ (k : ℤ). table.pushed (Int k) c.args.frame.now) same ∙ ap (λ i. table.act file method i c.args.frame.now) (sym c.in-PushInt.is)

pub returns-in-Load : goal.returns-in-Load
returns-in-Load c = λ file method. c.load.ensures file method ∙ ap (λ i. table.act file method i c.args.frame.now) (sym c.in-Load.is)

pub returns-in-Store : goal.returns-in-Store
returns-in-Store c = λ file method. c.store.ensures file method ∙ ap (λ i. table.act file method i c.args.frame.now) (sym c.in-Store.is)

pub returns-in-Increase : goal.returns-in-Increase
returns-in-Increase c = λ file method.
    let n = c.in-Increase.by in
    let same : to_z w32 (of_z w32 n) ≡ n = search (rules, to_z-of_z) in
    c.increase.ensures file method ∙ ap (λ (k : ℤ). table.act file method (Increase c.in-Increase.index k) c.args.frame.now) same ∙ ap (λ i. table.act file method i c.args.frame.now) (sym c.in-Increase.is)

pub returns-in-Binary : goal.returns-in-Binary
returns-in-Binary c = λ file method. c.apply_binary.ensures file method ∙ ap (λ i. table.act file method i c.args.frame.now) (sym c.in-Binary.is)

pub returns-in-JumpTo : goal.returns-in-JumpTo
returns-in-JumpTo c = λ file method. c.jump.ensures file method ∙ ap (λ i. table.act file method i c.args.frame.now) (sym c.in-JumpTo.is)
