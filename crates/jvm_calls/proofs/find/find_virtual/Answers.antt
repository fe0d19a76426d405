use Rattle.std.proofs.Common.{◌≤◌, length, sym, ap, ◌∙◌, option_and_then, arith}
use Rattle.jvm_load.specs.Methods.{find_method}
use Rattle.jvm_calls.proofs.Lookups.{nowhere}
use Rattle.jvm_calls.proofs.find.find_virtual.Goals as goal

pub returns-in_err-class : goal.returns-in_err-class
returns-in_err-class c = λ args.
    c.from_residual.ensures ∙ ap (option_and_then (λ at. find_method c.args.program.now at c.args.member.now.name.now c.args.member.now.descriptor.now)) (c.in_err-class.ensures args)

pub returns-then-class-files : goal.returns-then-class-files
returns-then-class-files c = λ args.
    let short : length c.args.program.now ≤ c.in_ok-class.class = omega (arith, c.if-class-files.true, ap length c.files.ensures.files) in
    sym (nowhere c.args.program.now c.in_ok-class.class c.args.member.now.name.now c.args.member.now.descriptor.now short)
    ∙ ap (option_and_then (λ at. find_method c.args.program.now at c.args.member.now.name.now c.args.member.now.descriptor.now)) (c.in_ok-class.ensures args)

pub returns : goal.returns
returns c = λ args.
    c.find_method.ensures ∙ ap (option_and_then (λ at. find_method c.args.program.now at c.args.member.now.name.now c.args.member.now.descriptor.now)) (c.in_ok-class.ensures args)
