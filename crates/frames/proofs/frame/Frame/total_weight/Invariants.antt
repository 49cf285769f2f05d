use Rattle.frames.proofs.Passes.{Passed}
use Rattle.frames.proofs.frame.Frame.total_weight.Given as goal

abbrev pub invariant-loop-k : goal.invariant-loop-k
invariant-loop-k g l = Passed (λ l. l.weight) (g.Self.Frame.list l.self) l.k l.sum
