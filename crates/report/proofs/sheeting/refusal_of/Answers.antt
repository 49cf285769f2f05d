use Rattle.std.proofs.Common.{◌∙◌, Some, ap}
use Rattle.order_file.specs.File.{filed}
use Rattle.report.proofs.Sheets.{refused, rows_suffice}
use Rattle.report.proofs.sheeting.refusal_of.Goals as goal

pub unreachable-requires : goal.unreachable-requires
unreachable-requires c =
    rows_suffice _ _ _ (filed c.args.file.now).card c.requires.few (c.requires.denied ∙ ap Some c.in-TooFewRows.is)

pub returns : goal.returns
returns c =
    let denied = c.requires.denied ∙ ap Some c.in-NoShears.is in
    refused (filed c.args.file.now) _ _ _ c.requires.few denied c.shear_line-line.ensures
