use Rattle.std.proofs.Common.{map}
use Rattle.std.specs.Vec.Iter.{into_iter_items}
use Rattle.call_lines.specs.Asked.{entry}
use Rattle.transcript.proofs.Scripts.{SaysAs}
use Rattle.transcript.proofs.script.Script.add_lines.Given as goal

abbrev pub invariant-loop-line : goal.invariant-loop-line
invariant-loop-line l = record {
  can : (goal.iterator-loop-line).can_next l.line-iterator;
  finite : (goal.iterator-loop-line).is_finite l.line-iterator;
  same : SaysAs l.self (map entry (into_iter_items l.line-iterator)) l.fn.self (map entry l.fn.lines.items);
}
