-- What a sheet answers, and what it leaves in the caller's rows.
use Rattle.std.specs.Prelude.{◌≡◌, List, ◌++◌, length, drop, Some, None, Ok, Err, Result}
use Rattle.records.specs.declared.card.Card.{Card}
use Rattle.records.specs.declared.level.Level.{Level}
use Rattle.frames.specs.Levels.{weight_of}
use Rattle.seismic.specs.declared.denial.SheetDenial.{SheetDenial}
use Rattle.seismic.specs.declared.row.Row.{Row}
use Rattle.seismic.specs.declared.sheet.Sheet.{Sheet}
use Rattle.seismic.specs.declared.storey.Storey.{Storey}
use Rattle.seismic.specs.Refusals.{sheet_denial}
use Rattle.seismic.specs.Rows.{rows_of}
use Rattle.seismic.specs.Storeys.{base_of, sheared}
use Rattle.seismic.specs.Verdicts.{verdict_of}

-- the storeys of the levels, with V0 spread over them
abbrev pub sheet_storeys : Card → List Level → List Storey
sheet_storeys card ls = sheared (base_of card ls) ls

-- a row a level, from below
abbrev pub sheet_rows : Card → List Level → List Row
sheet_rows card ls = rows_of card (sheet_storeys card ls)

abbrev pub sheet_of : Card → List Level → Sheet
sheet_of card ls = record {
  levels = length ls;
  weight = weight_of ls;
  base_shear = base_of card ls;
  verdict = verdict_of card (sheet_storeys card ls);
}

-- the sheet, with its rows written and the others as they were; or a denial, with all as they were
abbrev pub Sheeted : Card → List Level → List Row → Result Sheet SheetDenial → List Row → Type 0
Sheeted card ls before (Ok sheet) after =
    (sheet_denial (length ls) card (length before) ≡ None) × (sheet ≡ sheet_of card ls) × (after ≡ sheet_rows card ls ++ drop (length ls) before)
Sheeted card ls before (Err d) after = (sheet_denial (length ls) card (length before) ≡ Some d) × (after ≡ before)
