use Rattle.std.proofs.Common.{length, vec_items}
use Rattle.call_lines.specs.Steps.{place}
use Rattle.call_lines.proofs.Steps.{Going}
use Rattle.call_lines.proofs.reader.Reader.call_lines.Given as goal

abbrev pub invariant-loop-self : goal.invariant-loop-self
invariant-loop-self l = Going (place l.initial.self) (vec_items l.lines) (place l.self)

abbrev pub decreases-loop-self : goal.decreases-loop-self
decreases-loop-self l = length l.self.rest.now
