use Rattle.std.proofs.Common.{◌≡◌, ◌≤◌, vec_len, vec_capacity}
use Rattle.std.specs.Vec.Iter.{into_iter_items}
use Rattle.runs.specs.States.{frame_of, tally_of}
use Rattle.runs.proofs.Progress.{Progress}
use Rattle.runs.proofs.make_all.Given as goal

abbrev pub invariant-loop-call : goal.invariant-loop-call
invariant-loop-call g l = record {
  can : (goal.iterator-loop-call g).can_next l.call-iterator;
  finite : (goal.iterator-loop-call g).is_finite l.call-iterator;
  frame : frame_of l.order ≡ l.fn.new.frame;
  progress : Progress (g.F.Frame.list l.fn.new.frame) l.fn.calls.items (into_iter_items l.call-iterator) l.answers.items (tally_of l.order);
  room : vec_len l.fn.calls ≤ vec_capacity l.answers;
}
