use Rattle.std.proofs.Common.{◌≡◌, drop, length}
use Rattle.order_file.specs.File.{filed}
use Rattle.orders.specs.Tables.{booked}
use Rattle.report.proofs.Booking.{Going}
use Rattle.report.proofs.sheeting.book_all.Given as goal

abbrev pub invariant-loop-before : goal.invariant-loop-before
invariant-loop-before g l = record {
  frame : l.order.frame ≡ l.fn.order.frame;
  count : length (booked l.order.lines) ≡ l.before;
  going : Going (filed l.file) (booked l.order.lines) (drop l.before l.load-items);
}
