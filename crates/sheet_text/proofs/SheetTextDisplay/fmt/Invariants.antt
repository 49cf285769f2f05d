use Rattle.std.proofs.Common.{[], ◌++◌, flat_map, take}
use Rattle.std.specs.Fmt.{HasWritten, IsPlainFormatter}
use Rattle.tokens.specs.Text.{line_of}
use Rattle.sheet_text.specs.Sheets.{sheet_words, row_line}
use Rattle.sheet_text.proofs.SheetTextDisplay.fmt.Given as goal

abbrev pub invariant-loop-row : goal.invariant-loop-row
invariant-loop-row g l =
    IsPlainFormatter l.fn.f →
    HasWritten g.W.Write.write_str_gives l.fn.f (line_of (sheet_words l.self.sheet.now) [] ++ flat_map row_line (take l.row-index l.row-items)) l.f
