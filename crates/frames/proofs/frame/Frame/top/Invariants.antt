use Rattle.frames.proofs.Passes.{Passed}
use Rattle.frames.proofs.frame.Frame.top.Given as goal

abbrev pub invariant-loop-k : goal.invariant-loop-k
invariant-loop-k g l = Passed (λ l. l.height.0) (g.Self.Frame.list l.self) l.k l.top.0
