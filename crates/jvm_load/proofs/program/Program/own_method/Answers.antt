use Rattle.std.proofs.Common.{◌<◌, length, refl, sym, ap, arith}
use Rattle.jvm_load.specs.Methods.{own_method}
use Rattle.jvm_load.proofs.Placed.{own_there, own_away, own_none}
use Rattle.jvm_load.proofs.program.Program.own_method.Goals as goal

pub returns-then-file-class : goal.returns-then-file-class
returns-then-file-class c =
    own_there c.args.self.now c.args.name.now c.args.descriptor.now c.args.class c.in-Some.file c.in-Some.method c.if-file-class.true (sym c.in-Some.ensures)

pub returns-else-file-class : goal.returns-else-file-class
returns-else-file-class c =
    let files = c.args.self.now in
    let name = c.args.name.now in
    let descriptor = c.args.descriptor.now in
    let same = ap length c.files.ensures.files in
    let within : c.args.class < length files = omega (arith, same, c.if-class-files.false) in
    own_away files name descriptor c.args.class c.in-Some.file c.in-Some.method within c.if-file-class.false (sym c.in-Some.ensures) (own_method files name descriptor c.args.class) refl

pub returns-in-None : goal.returns-in-None
returns-in-None c =
    let files = c.args.self.now in
    let name = c.args.name.now in
    let descriptor = c.args.descriptor.now in
    let same = ap length c.files.ensures.files in
    let within : c.args.class < length files = omega (arith, same, c.if-class-files.false) in
    own_none files name descriptor c.args.class within (sym c.in-None.ensures) (own_method files name descriptor c.args.class) refl
