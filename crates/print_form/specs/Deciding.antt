-- What is answered of a tree that may be a program or a part of one.
use Rattle.std.specs.Prelude.{◌≡◌, ℤ, List, map, Result, Ok, Err}
use Rattle.std.proofs.Common.{Vec, Global}
use Rattle.print_form.specs.declared.literal.Literal.{Literal}
use Rattle.print_form.specs.declared.fault.NoProgram.{NoProgram}
use Rattle.print_form.specs.declared.fault.NoProgram.TheVariants.{NotYet, OutOfMemory}
use Rattle.print_form.specs.Form.{value_of}

-- the numbers of literals of which this holds, or that it holds of none; nothing is said where memory is wanting
abbrev pub Decides : (List Literal → Type 0) → Result (Vec ℤ Global) NoProgram → Type 0
Decides P (Ok numbers) = (literals : List Literal) × P literals × (numbers.items ≡ map value_of literals)
Decides P (Err (NotYet place)) = (literals : List Literal) → P literals → ⊥
Decides P (Err OutOfMemory) = Unit {0}
