use Rattle.std.proofs.Common.{[], ap, length, arith}
use Rattle.pen.proofs.Copies.{copied_whole}
use Rattle.tokens.specs.Text.{line_of}
use Rattle.report.specs.Refusals.{refused_words}
use Rattle.report.specs.Reports.{text_of}
use Rattle.report.proofs.Lengths.{report_short}
use Rattle.report.proofs.write_report.Goals as goal

pub unwrap-requires : goal.unwrap-requires
unwrap-requires c =
    let denied = rw c.in-Err-Denied.field-0-is at c.in-Err-Denied.ensures in
    let text = line_of (refused_words c.in-Err-Denied.refusal) [] in
    let short = report_short c.args.file.now in
    copied_whole text _ _ _ c.write.ensures (omega (arith, short, ap (λ o. length (text_of o)) denied.0, ap length denied.1))
