use Rattle.std.proofs.Common.{drop, map}
use Rattle.records.specs.declared.line.Line.{Line}
use Rattle.call_lines.specs.Asked.{call, load}
use Rattle.transcript.proofs.Scripts.{SaysAs}
use Rattle.transcript.proofs.script.Script.add_loads.Given as goal

abbrev pub invariant-loop-line : goal.invariant-loop-line
invariant-loop-line l = SaysAs l.self (map (λ (x : Line). call (load x)) (drop l.line-index l.loads)) l.fn.self (map (λ (x : Line). call (load x)) l.loads)
