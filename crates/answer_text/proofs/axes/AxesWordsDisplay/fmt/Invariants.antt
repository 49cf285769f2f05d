use Rattle.std.proofs.Common.{[], ◌++◌, flat_map, take}
use Rattle.std.specs.Fmt.{HasWritten, IsPlainFormatter}
use Rattle.tokens.specs.Text.{joined}
use Rattle.answer_text.specs.Answers.{axes_words}
use Rattle.answer_text.proofs.AxesWritten.{spaced}
use Rattle.answer_text.proofs.axes.AxesWordsDisplay.fmt.Given as goal

abbrev pub invariant-loop-axis : goal.invariant-loop-axis
invariant-loop-axis g l =
    IsPlainFormatter l.fn.f →
    HasWritten g.W.Write.write_str_gives l.fn.f (joined (axes_words l.self.shear []) ++ flat_map spaced (take l.axis-index l.axis-items)) l.f
