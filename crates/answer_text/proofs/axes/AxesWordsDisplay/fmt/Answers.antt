use Rattle.std.proofs.Output.{has_written_of_eq}
use Rattle.answer_text.proofs.AxesWritten.{all_written}
use Rattle.answer_text.proofs.axes.AxesWordsDisplay.fmt.Goals as goal

pub returns-clause-writes : goal.returns-clause-writes
returns-clause-writes g c = λ plain ok. has_written_of_eq _ _ _ _ _ (all_written _ _ _ c.loop-axis-test.false) (c.loop-axis.invariant plain)
