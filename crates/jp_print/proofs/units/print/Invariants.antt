use Rattle.std.proofs.Common.{◌≡◌, take}
use Rattle.std.specs.Prelude.{flat_map}
use Rattle.jp_print.specs.Layout.{laid_out}
use Rattle.jp_print.specs.Declarations.{decl_tokens}
use Rattle.jp_print.proofs.units.print.Given as goal

-- the declarations so far
abbrev pub invariant-loop-decl : goal.invariant-loop-decl
invariant-loop-decl l = l.text.items ≡ laid_out (flat_map decl_tokens (take l.decl-index l.unit.decls))
