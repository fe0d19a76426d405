-- Class files that are compiled class by class from a plain unit that was read do what it means.
use Rattle.typed_fits.proofs.ReadNames.{names_plain}
use Rattle.typed_fits.proofs.UnitFits.{trees_fit}
use Rattle.gen_laws.proofs.Right.{keeps_the_meaning}
use Rattle.unit_laws.specs.Laws.{IsProgramOf}
use Rattle.unit_laws.proofs.OrdinaryNames.{methods_ordinary}
use Rattle.unit_laws.proofs.Running.{no_guards}
use Rattle.unit_laws.proofs.UnitNames.{unit_named}
use Rattle.plain_laws.specs.Laws.{PlainKeepsTheMeaning}
use Rattle.plain_laws.proofs.MainMethod.{has_a_main}
use Rattle.plain_laws.proofs.NearestBody.{nearest}

pub plain_keeps : PlainKeepsTheMeaning
plain_keeps text tokens unit tree p l r typed form has classes selects files b compiled =
    let plain = names_plain text tokens unit l r in
    let main = has_a_main unit tree p typed plain classes has in
    let of : IsProgramOf unit tree p = record { typed = typed; classes = classes; main = main.0; main_there = main.1 } in
    keeps_the_meaning p files b (trees_fit unit tree p typed plain classes) (unit_named unit tree p of plain (methods_ordinary text tokens unit l r)) (nearest p (no_guards unit tree p of) selects) compiled
