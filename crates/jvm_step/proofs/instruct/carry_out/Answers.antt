use Rattle.std.proofs.Common.{rules, ℤ, w32, w64, to_z, of_z, ◌≡◌, sym, ap, ◌∙◌}
use Rattle.jp_store.specs.declared.value.Value.TheVariants.{Int, Long}
use Rattle.std.proofs.lemmas.Int.{to_z-of_z}
use Rattle.jvm_table.specs.declared.instr.Instr.TheVariants.{Increase}
use Rattle.jvm_table.specs.Act as table
use Rattle.jvm_step.proofs.instruct.carry_out.Goals as goal

pub returns-in-PushNull : goal.returns-in-PushNull
returns-in-PushNull c = c.push.ensures c.args.file.now ∙ ap (λ i. table.act c.args.file.now c.args.method.now i c.args.frame.now) (sym c.in-PushNull.is)

pub returns-in-PushInt : goal.returns-in-PushInt
returns-in-PushInt c =
    let n = c.in-PushInt.n in
    let same : to_z w32 (of_z w32 n) ≡ n = search (rules, to_z-of_z) in
    c.push-in-PushInt.ensures c.args.file.now ∙ ap (λ (k : ℤ). table.pushed (Int k) c.args.frame.now) same ∙ ap (λ i. table.act c.args.file.now c.args.method.now i c.args.frame.now) (sym c.in-PushInt.is)

pub returns-in-PushLong : goal.returns-in-PushLong
returns-in-PushLong c =
    let n = c.in-PushLong.n in
    let same : to_z w64 (of_z w64 n) ≡ n = search (rules, to_z-of_z) in
    c.push-in-PushLong.ensures c.args.file.now ∙ ap (λ (k : ℤ). table.pushed (Long k) c.args.frame.now) same ∙ ap (λ i. table.act c.args.file.now c.args.method.now i c.args.frame.now) (sym c.in-PushLong.is)

pub returns-in-Load : goal.returns-in-Load
returns-in-Load c = c.load.ensures c.args.file.now c.args.method.now ∙ ap (λ i. table.act c.args.file.now c.args.method.now i c.args.frame.now) (sym c.in-Load.is)

pub returns-in-Store : goal.returns-in-Store
returns-in-Store c = c.store.ensures c.args.file.now c.args.method.now ∙ ap (λ i. table.act c.args.file.now c.args.method.now i c.args.frame.now) (sym c.in-Store.is)

pub returns-in-Increase : goal.returns-in-Increase
returns-in-Increase c =
    let n = c.in-Increase.by in
    let same : to_z w32 (of_z w32 n) ≡ n = search (rules, to_z-of_z) in
    c.increase.ensures c.args.file.now c.args.method.now ∙ ap (λ (k : ℤ). table.act c.args.file.now c.args.method.now (Increase c.in-Increase.index k) c.args.frame.now) same ∙ ap (λ i. table.act c.args.file.now c.args.method.now i c.args.frame.now) (sym c.in-Increase.is)

pub returns-in-LoadElement : goal.returns-in-LoadElement
returns-in-LoadElement c = c.load_element.ensures c.args.file.now c.args.method.now ∙ ap (λ i. table.act c.args.file.now c.args.method.now i c.args.frame.now) (sym c.in-LoadElement.is)

pub returns-in-StoreElement : goal.returns-in-StoreElement
returns-in-StoreElement c = c.store_element.ensures c.args.file.now c.args.method.now ∙ ap (λ i. table.act c.args.file.now c.args.method.now i c.args.frame.now) (sym c.in-StoreElement.is)

pub returns-in-MakeNumbers : goal.returns-in-MakeNumbers
returns-in-MakeNumbers c = c.make_numbers.ensures c.args.file.now c.args.method.now ∙ ap (λ i. table.act c.args.file.now c.args.method.now i c.args.frame.now) (sym c.in-MakeNumbers.is)

pub returns-in-MakeTruths : goal.returns-in-MakeTruths
returns-in-MakeTruths c = c.make_truths.ensures c.args.file.now c.args.method.now ∙ ap (λ i. table.act c.args.file.now c.args.method.now i c.args.frame.now) (sym c.in-MakeTruths.is)

pub returns-in-ArrayLength : goal.returns-in-ArrayLength
returns-in-ArrayLength c = c.array_length.ensures c.args.file.now c.args.method.now ∙ ap (λ i. table.act c.args.file.now c.args.method.now i c.args.frame.now) (sym c.in-ArrayLength.is)

pub returns-in-PopTop : goal.returns-in-PopTop
returns-in-PopTop c = c.pop_top.ensures c.args.file.now c.args.method.now ∙ ap (λ i. table.act c.args.file.now c.args.method.now i c.args.frame.now) (sym c.in-PopTop.is)

pub returns-in-Dup : goal.returns-in-Dup
returns-in-Dup c = c.dup.ensures c.args.file.now c.args.method.now ∙ ap (λ i. table.act c.args.file.now c.args.method.now i c.args.frame.now) (sym c.in-Dup.is)

pub returns-in-DupBelow : goal.returns-in-DupBelow
returns-in-DupBelow c = c.dup_below.ensures c.args.file.now c.args.method.now ∙ ap (λ i. table.act c.args.file.now c.args.method.now i c.args.frame.now) (sym c.in-DupBelow.is)

pub returns-in-DupTwo : goal.returns-in-DupTwo
returns-in-DupTwo c = c.dup_two.ensures c.args.file.now c.args.method.now ∙ ap (λ i. table.act c.args.file.now c.args.method.now i c.args.frame.now) (sym c.in-DupTwo.is)

pub returns-in-Binary : goal.returns-in-Binary
returns-in-Binary c = c.apply_binary.ensures c.args.file.now c.args.method.now ∙ ap (λ i. table.act c.args.file.now c.args.method.now i c.args.frame.now) (sym c.in-Binary.is)

pub returns-in-Negate : goal.returns-in-Negate
returns-in-Negate c = c.negate.ensures c.args.file.now c.args.method.now ∙ ap (λ i. table.act c.args.file.now c.args.method.now i c.args.frame.now) (sym c.in-Negate.is)

pub returns-in-Widen : goal.returns-in-Widen
returns-in-Widen c = c.widen.ensures c.args.file.now c.args.method.now ∙ ap (λ i. table.act c.args.file.now c.args.method.now i c.args.frame.now) (sym c.in-Widen.is)

pub returns-in-AddLongs : goal.returns-in-AddLongs
returns-in-AddLongs c = c.add_longs.ensures c.args.file.now c.args.method.now ∙ ap (λ i. table.act c.args.file.now c.args.method.now i c.args.frame.now) (sym c.in-AddLongs.is)

pub returns-in-MultiplyLongs : goal.returns-in-MultiplyLongs
returns-in-MultiplyLongs c = c.multiply_longs.ensures c.args.file.now c.args.method.now ∙ ap (λ i. table.act c.args.file.now c.args.method.now i c.args.frame.now) (sym c.in-MultiplyLongs.is)

pub returns-in-CompareLongs : goal.returns-in-CompareLongs
returns-in-CompareLongs c = c.compare_longs.ensures c.args.file.now c.args.method.now ∙ ap (λ i. table.act c.args.file.now c.args.method.now i c.args.frame.now) (sym c.in-CompareLongs.is)

pub returns-in-JumpTo : goal.returns-in-JumpTo
returns-in-JumpTo c = c.jump.ensures c.args.file.now c.args.method.now ∙ ap (λ i. table.act c.args.file.now c.args.method.now i c.args.frame.now) (sym c.in-JumpTo.is)

pub returns-in-ReturnValue : goal.returns-in-ReturnValue
returns-in-ReturnValue c = c.leave_with.ensures c.args.file.now ∙ ap (λ k. table.on_pop c.args.frame.now (λ v g. table.leaves_with k c.in-ReturnValue.kind v)) c.wanted_result.ensures ∙ ap (λ i. table.act c.args.file.now c.args.method.now i c.args.frame.now) (sym c.in-ReturnValue.is)

pub returns-in-ReturnVoid : goal.returns-in-ReturnVoid
returns-in-ReturnVoid c = c.leave_void.ensures c.args.file.now ∙ ap (λ k. table.leaves_void k) c.wanted_result-in-ReturnVoid.ensures ∙ ap (λ i. table.act c.args.file.now c.args.method.now i c.args.frame.now) (sym c.in-ReturnVoid.is)
