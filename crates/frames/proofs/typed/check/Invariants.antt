use Rattle.std.proofs.Common.{◌≡◌, drop}
use Rattle.frames.specs.Tables.{denial_from}
use Rattle.frames.proofs.typed.check.Given as goal

abbrev pub invariant-loop-level : goal.invariant-loop-level
invariant-loop-level l = record {
  count : l.stack.levels ≡ l.level-index;
  rest : denial_from l.stack.levels l.stack.top.0 (drop l.level-index l.table) ≡ denial_from 0 0 l.table;
}
