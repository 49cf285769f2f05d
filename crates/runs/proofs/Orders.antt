-- The levels of an order in whichever state it is.
use Rattle.frames.specs.Levels.{Sound}
use Rattle.frames.specs.declared.frame.Frame.{Ghosts}
use Rattle.orders.specs.Loads.{raised}
use Rattle.orders.specs.Sound.{order_sound}
use Rattle.runs.specs.declared.any_order.AnyOrder.{AnyOrder}
use Rattle.runs.specs.declared.any_order.AnyOrder.TheVariants.{Open, OnTrial, Issued}
use Rattle.runs.specs.States.{frame_of, tally_of}

-- they keep a frame's limits
pub any_sound : {F : Type 0} {g : Ghosts F} (o : AnyOrder F g) → Sound (raised (tally_of o).lines (g.list (frame_of o)))
any_sound (Open o) = order_sound o
any_sound (OnTrial o) = order_sound o
any_sound (Issued o) = order_sound o
