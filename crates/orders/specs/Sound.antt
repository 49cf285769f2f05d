-- An order keeps a frame's limits.
use Rattle.std.specs.Prelude.{List, length, take}
use Rattle.std.proofs.Common.{subst, take_all, arith}
use Rattle.records.specs.declared.level.Level.{Level}
use Rattle.records.specs.declared.line.Line.{Line}
use Rattle.frames.specs.declared.frame.Frame.{Ghosts}
use Rattle.frames.specs.Levels.{Sound}
use Rattle.orders.specs.declared.order.Order.{Order}
use Rattle.orders.specs.Loads.{raised}
use Rattle.orders.specs.Orders.{order_list}
use Rattle.orders.specs.Tables.{booked}

all_sound : (lines : List Line) (ls : List Level) → Sound (raised (take (length lines) lines) ls) → Sound (raised lines ls)
all_sound lines ls s = subst (λ (xs : List Line). Sound (raised xs ls)) (take_all (length lines) lines (omega arith)) s

pub order_sound : {F S : Type 0} {g : Ghosts F} (o : Order F S g) → Sound (order_list g.list o)
order_sound {F} {S} {g} o = all_sound (booked o.lines) (g.list o.frame) (o.bears (length (booked o.lines)))
