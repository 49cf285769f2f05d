-- The levels of an order.
use Rattle.std.specs.Prelude.{List}
use Rattle.records.specs.declared.level.Level.{Level}
use Rattle.frames.specs.declared.frame.Frame.{Ghosts}
use Rattle.orders.specs.declared.order.Order.{Order}
use Rattle.orders.specs.Loads.{raised}
use Rattle.orders.specs.Tables.{booked}

-- those of the frame that it holds, each with the loads that stand on it
abbrev pub order_list : {F S : Type 0} {g : Ghosts F} → (F → List Level) → Order F S g → List Level
order_list list o = raised (booked o.lines) (list o.frame)
