use Rattle.std.proofs.Common.{◌++◌}
use Rattle.std.specs.Fmt.{HasWritten, IsPlainFormatter}
use Rattle.std.specs.Iterator.Adapters.{enumerate_count}
use Rattle.listing.specs.Listings.{heading, lines_to}
use Rattle.frames.proofs.Counted.{Walked}
use Rattle.listing.proofs.listed.ListedDisplay.fmt.Given as goal

abbrev pub invariant-loop-below : goal.invariant-loop-below
invariant-loop-below g l =
    (goal.iterator-loop-below g).can_next l.below-iterator ×
    (goal.iterator-loop-below g).is_finite l.below-iterator ×
    Walked g.F.Frame.list (g.F.Frame.list l.self.frame.now) l.height.0 l.below-iterator ×
    (IsPlainFormatter l.fn.f →
    HasWritten g.W.Write.write_str_gives l.fn.f (heading (g.F.Frame.list l.self.frame.now) ++ lines_to (g.F.Frame.list l.self.frame.now) (enumerate_count l.below-iterator)) l.f)
