use Rattle.std.proofs.Common.{◌≡◌, take}
use Rattle.jp_meaning.specs.Classes.{hier_in}
use Rattle.gen_class.proofs.hier.hier_of.Given as goal

-- the classes so far
abbrev pub invariant-loop-class : goal.invariant-loop-class
invariant-loop-class l = l.seen ≡ (hier_in (take l.class-index l.classes)).classes
