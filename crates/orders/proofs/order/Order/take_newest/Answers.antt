use Rattle.std.proofs.Common.{[], ◌∷◌}
use Rattle.orders.specs.Tables.{booked}
use Rattle.orders.proofs.Bearing.{bears_front}
use Rattle.orders.proofs.order.Order.take_newest.Goals as goal

pub invariant_of-self : goal.invariant_of-self
invariant_of-self g c = record { bears = bears_front (g.F.Frame.list c.args.self.now.frame) (booked c.args.self.now.lines) (booked c.take_newest.new.self) (c.take_newest.result ∷ []) c.args.self.now.bears c.take_newest.ensures }
