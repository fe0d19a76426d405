-- The groups of signs, as the rules name them.
use Rattle.type_rules.specs.Signs.{Group as Named, Arithmetic, Order, Bits, Logic, Equality}
use Rattle.type_expr.specs.declared.signs.Group.{Group}
use Rattle.type_expr.specs.declared.signs.Group.TheVariants as group

abbrev pub as_group : Group → Named
as_group group.Arithmetic = Arithmetic
as_group group.Order = Order
as_group group.Bits = Bits
as_group group.Logic = Logic
as_group group.Equality = Equality
