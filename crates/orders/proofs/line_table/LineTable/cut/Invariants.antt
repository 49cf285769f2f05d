use Rattle.std.proofs.Common.{◌≡◌, length, take}
use Rattle.orders.specs.Tables.{booked}
use Rattle.orders.proofs.line_table.LineTable.cut.Given as goal

-- the oldest n are those that stood
abbrev pub invariant-loop-self : goal.invariant-loop-self
invariant-loop-self l = take l.n (booked l.self) ≡ take l.n (booked l.initial.self)

abbrev pub decreases-loop-self : goal.decreases-loop-self
decreases-loop-self l = length (booked l.self)
