use Rattle.std.proofs.Common.{◌≡◌, ◌+◌, ◌*◌, ◌≤◌, ◌++◌, length, take, drop}
use Rattle.sheet_text.specs.Room.{heading_size, row_size}
use Rattle.sheet_text.specs.Sheets.{text_of}
use Rattle.sheet_text.proofs.write_lines.Given as goal

abbrev pub invariant-loop-row : goal.invariant-loop-row
invariant-loop-row l = record {
  written : l.out ≡ text_of l.sheet (take l.row-index l.rows) ++ drop l.at l.fn.out;
  count : l.at ≡ length (text_of l.sheet (take l.row-index l.rows));
  few : l.at ≤ heading_size + l.row-index * row_size;
}
