use Rattle.call_lines.proofs.Rows.{zeros}
use Rattle.call_lines.proofs.line.blank_row.Goals as goal

pub returns : goal.returns
returns c = zeros c.default.result c.default.ensures
