use Rattle.frames.specs.OwnStoreys.{own_storeys}
use Rattle.frames.proofs.Standing.{Left}
use Rattle.frames.proofs.stack.Stack.with_standing.Given as goal

abbrev pub invariant-loop-storey : goal.invariant-loop-storey
invariant-loop-storey l = Left (own_storeys l.storeys) l.initial.stack.levels l.initial.stack.top.0 l.storey-index l.stack.levels l.stack.top.0
