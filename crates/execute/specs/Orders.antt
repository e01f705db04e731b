-- What ST1, STP and DEP order; no other code is asked.
use Rattle.creating.specs.declared.Order.{Order}
use Rattle.creating.specs.declared.Order.TheVariants.{Start, Stop, Delete}
use Rattle.model.specs.declared.instructions.Code.{Code}
use Rattle.model.specs.declared.instructions.Code.TheVariants.{St1, Stp}

abbrev pub order_of : Code → Order
order_of St1 = Start
order_of Stp = Stop
order_of _ = Delete
