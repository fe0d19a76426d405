use Rattle.std.proofs.Common.{List, sym, subst}
use Rattle.jp_meaning.specs.declared.unit.TypedClass.{TypedClass}
use Rattle.jp_meaning.specs.Classes.{hier_in}
use Rattle.unit_build.specs.Files.{AreWritable}
use Rattle.unit_build.proofs.Writable.{writable}
use Rattle.unit_build.proofs.building.build.Goals as goal

pub build_classes-requires : goal.build_classes-requires
build_classes-requires c =
    subst (λ (classes : List TypedClass). AreWritable (hier_in classes) classes) (sym c.as_slice.ensures)
    (writable c.args.text.now c.in_ok-unit.field-0.unit c.in_ok-unit.field-0.tree c.args.main.now c.in_ok-unit.ensures c.in_ok-suits.ensures)
