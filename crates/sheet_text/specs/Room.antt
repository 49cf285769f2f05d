-- The room that the lines of a sheet need.
use Rattle.std.specs.Prelude.{◌≡◌, ℕ, ◌+◌, ◌*◌, ◌<◌, ◌≤◌, List, ◌++◌, length, drop, take, Some, None, Option}
use Rattle.seismic.specs.declared.row.Row.{Row}
use Rattle.seismic.specs.declared.sheet.Sheet.{Sheet}
use Rattle.sheet_text.specs.Sheets.{sheet_text}

-- no verdict is longer, which ends a heading
abbrev pub verdict_size : ℕ
verdict_size = 27

-- no heading is longer
abbrev pub heading_size : ℕ
heading_size = 66

-- no end of a row's line is longer that tells how the storey moves
abbrev pub movement_size : ℕ
movement_size = 105

-- no row's line is longer
abbrev pub row_size : ℕ
row_size = 160

-- room for a heading and a line a row that the sheet wrote, by the widths of their numbers' types
abbrev pub room : Sheet → List Row → ℕ
room s rows = heading_size + length (take s.levels rows) * row_size

-- the sheet's text stands at the front of a buffer that has that room, and further bytes are as they were; else all are
abbrev pub Written : Sheet → List Row → List ℕ → Option ℕ → List ℕ → Type 0
Written s rows before (Some n) after =
    (room s rows ≤ length before) × (n ≡ length (sheet_text s rows)) × (after ≡ sheet_text s rows ++ drop n before)
Written s rows before None after = (length before < room s rows) × (after ≡ before)
