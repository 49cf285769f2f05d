use Rattle.std.proofs.Common.{◌≡◌, vec_items}
use Rattle.tokens.specs.TextLines.{left, numbered}
use Rattle.call_lines.proofs.Axes.{Going}
use Rattle.call_lines.proofs.line.axes.Given as goal

abbrev pub invariant-loop : goal.invariant-loop
invariant-loop l = Going l.most (left l.initial.line) l.counter (vec_items l.axes) (left l.line) × (numbered l.line ≡ numbered l.initial.line)
