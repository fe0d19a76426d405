-- The lines of the members of a unit within the limits can be laid out.
use Rattle.std.proofs.Common.{◌≤◌, [], arith}
use Rattle.typed_code.proofs.UnitTold.{laid}
use Rattle.limit_laws.specs.Laws.{TypedIsWithin}
use Rattle.limit_laws.proofs.Params.{few_params}
use Rattle.limit_laws.proofs.Units.{few_locals}

pub within_laid : TypedIsWithin
within_laid unit tree typed within hier c m ic im =
    let few = few_locals unit tree typed within c m ic im in
    let enough : m.locals ≤ 256 = omega arith in
    laid unit [] tree typed (few_params unit within) hier c m ic im enough
