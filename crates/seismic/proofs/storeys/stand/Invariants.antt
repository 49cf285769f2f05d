use Rattle.std.specs.Iterator.Adapters.{enumerate_count}
use Rattle.frames.proofs.Counted.{Walked}
use Rattle.seismic.proofs.Standing.{StoodTo}
use Rattle.seismic.proofs.storeys.stand.Given as goal

abbrev pub invariant-loop-below : goal.invariant-loop-below
invariant-loop-below g l =
    (goal.iterator-loop-below g).can_next l.below-iterator ×
    (goal.iterator-loop-below g).is_finite l.below-iterator ×
    Walked g.F.Frame.list (g.F.Frame.list l.fn.frame) l.height.0 l.below-iterator ×
    StoodTo (g.F.Frame.list l.fn.frame) (enumerate_count l.below-iterator) l.sums.weight l.sums.products l.out
