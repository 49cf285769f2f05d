use Rattle.std.proofs.Common.{sym, ◌∙◌}
use Rattle.std.proofs.Output.{has_written_of_eq}
use Rattle.tokens.specs.Text.{joined}
use Rattle.order_frame.specs.Refusals.{refusal_words}
use Rattle.order_frame.proofs.Ended.{one_less}
use Rattle.order_frame.proofs.refusal.RefusedWordsDisplay.fmt.Goals as goal

pub returns-in-Ok-clause-writes : goal.returns-in-Ok-clause-writes
returns-in-Ok-clause-writes g c = λ plain ok.
    let denial = c.args.self.now.denial.now in
    let words = joined (refusal_words (g.D.Denial.numbered denial) c.args.self.now.line (g.D.Denial.placed denial)) in
    let line = sym c.in-Some.ensures.cases.0 ∙ c.bytes.ensures ∙ c.words-line.ensures in
    has_written_of_eq _ _ _ _ _ (c.in-Ok.ensures.cases.0 ∙ one_less _ words _ _ line) (c.write_str.ensures.writes plain ok)
