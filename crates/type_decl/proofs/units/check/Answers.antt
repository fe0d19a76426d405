use Rattle.type_decl.proofs.Declarations.{unit_fault, unit_typed, never_else}
use Rattle.type_decl.proofs.units.check.Goals as goal

pub returns-in-Some : goal.returns-in-Some
returns-in-Some c =
    unit_fault c.args.unit.now c.args.others c.in_ok-heads.heads c.as_slice-decls.result.now c.none-first.result.fault c.check_decls.new.first.fault c.in_ok-classes.classes
    c.in_ok-heads.ensures c.as_slice-decls.ensures c.none-first.ensures c.in_ok-classes.ensures c.in-Some.fault c.in-Some.is

pub returns : goal.returns
returns c =
    unit_typed c.args.unit.now c.args.others c.in_ok-heads.heads c.as_slice-decls.result.now c.none-first.result.fault c.check_decls.new.first.fault c.in_ok-classes.classes
    c.in_ok-heads.ensures c.as_slice-decls.ensures c.none-first.ensures c.in_ok-classes.ensures c.in-Some-classes.classes c.in_default.is c.in-Some-classes.is

pub unreachable-requires : goal.unreachable-requires
unreachable-requires c =
    never_else c.args.unit.now c.args.others c.in_ok-heads.heads c.as_slice-decls.result.now c.none-first.result.fault c.check_decls.new.first.fault c.in_ok-classes.classes
    c.in_ok-heads.ensures c.as_slice-decls.ensures c.none-first.ensures c.in_ok-classes.ensures c.in_default.is c.in-None.is
