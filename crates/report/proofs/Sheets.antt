-- The sheet of a file's levels with its loads on them, in rows enough.
use Rattle.std.proofs.Common.{◌≡◌, ◌≢◌, ℕ, ◌≤◌, nat_lt, List, [], ◌++◌, length, drop, flat_map, Some, None, Ok, Err, Option, option_map, sym, refl, ap, ap₂, ◌∙◌, subst, arith}
use Rattle.std.proofs.lemmas.Bool.{cond-false, le-ltb}
use Rattle.std.proofs.lemmas.List.{take-append-le}
use Rattle.records.specs.declared.card.Card.{Card}
use Rattle.records.specs.declared.level.Level.{Level}
use Rattle.tokens.specs.Text.{line_of}
use Rattle.seismic.specs.declared.denial.ShearDenial.{ShearDenial}
use Rattle.seismic.specs.declared.denial.SheetDenial.{SheetDenial}
use Rattle.seismic.specs.declared.denial.SheetDenial.TheVariants.{NoShears, TooFewRows}
use Rattle.seismic.specs.declared.row.Row.{Row}
use Rattle.seismic.specs.declared.sheet.Sheet.{Sheet}
use Rattle.seismic.specs.Refusals.{rows_denial, shear_denial, sheet_denial}
use Rattle.seismic.specs.Sheets.{Sheeted, sheet_of, sheet_rows}
use Rattle.seismic.specs.Storeys.{base_of}
use Rattle.seismic.proofs.RowPlaces.{row_a_level}
use Rattle.order_file.specs.File.{Filed}
use Rattle.sheet_text.specs.Sheets.{row_line, sheet_text, sheet_words}
use Rattle.report.specs.Reports.{levels_of, on_card, shear_line, sheeted, text_of}
use Rattle.report.specs.Sheetings.{shears_judged}
use Rattle.report.specs.declared.refusal.Refusal.TheVariants.{NoSheet}

-- further rows that were lent do not show in the text of a sheet
only_written : (s : Sheet) (rows more : List Row) → length rows ≡ s.levels → sheet_text s (rows ++ more) ≡ sheet_text s rows
only_written s rows more len =
    ap (λ (shown : List Row). line_of (sheet_words s) [] ++ flat_map row_line shown)
    (take-append-le s.levels rows more (omega (arith, len)))

-- a sheet that is made has the text of the file's sheet
pub made :
    (f : Filed) (before after : List Row) (sheet : Sheet) → Sheeted f.card (levels_of f) before (Ok sheet) after
    → sheet_text sheet after ≡ text_of (Ok f)
made f before after sheet h =
    let ls = levels_of f in
    ap₂ sheet_text h.1 h.2
    ∙ only_written (sheet_of f.card ls) (sheet_rows f.card ls) (drop (length ls) before)
    (row_a_level f.card (base_of f.card ls) ls)

-- in rows enough there is a sheet wherever there are shears
by_shears : (o : Option ShearDenial) (levels room : ℕ) → levels ≤ room → rows_denial o levels room ≡ option_map NoShears o
by_shears None levels room enough = cond-false (nat_lt room levels) _ None (le-ltb room levels enough)
by_shears (Some d) levels room enough = refl

-- so that alone stands against it
pub against :
    (card : Card) (levels room : ℕ) (o : Option ShearDenial) (p : Option SheetDenial) → levels ≤ room
    → shear_denial levels card ≡ o → sheet_denial levels card room ≡ p → option_map NoShears o ≡ p
against card levels room o p enough e h =
    sym (by_shears o levels room enough) ∙ ap (λ (s : Option ShearDenial). rows_denial s levels room) (sym e) ∙ h

-- where nothing stands against the sheet, nothing does against the shears
none_against : (o : Option ShearDenial) → option_map NoShears o ≡ None → o ≡ None
none_against None e = refl
none_against (Some d) e = cc

-- a denial of the shears is that of the sheet
one_against : (o : Option ShearDenial) (d : ShearDenial) → option_map NoShears o ≡ Some (NoShears d) → o ≡ Some d
one_against None d e = cc
one_against (Some c) d e = cc

-- it is never one of too few rows
none_too_few : (o : Option ShearDenial) (needed : ℕ) → option_map NoShears o ≢ Some (TooFewRows needed)
none_too_few None needed e = cc
none_too_few (Some d) needed e = cc

-- an order whose levels are the file's: the text of its sheet
pub shown :
    (f : Filed) (ls : List Level) (before after : List Row) (sheet : Sheet) → ls ≡ levels_of f → length ls ≤ length before
    → Sheeted f.card ls before (Ok sheet) after → sheet_text sheet after ≡ text_of (shears_judged f)
shown f ls before after sheet same enough h =
    let n = length ls in
    let none = none_against (shear_denial n f.card) (against f.card n (length before) _ None enough refl h.0) in
    let shears : shear_denial (length (levels_of f)) f.card ≡ None =
    ap (λ (xs : List Level). shear_denial (length xs) f.card) (sym same) ∙ none in
    made f before after sheet (subst (λ (xs : List Level). Sheeted f.card xs before (Ok sheet) after) same h)
    ∙ sym (ap (λ (o : Option ShearDenial). text_of (sheeted f (on_card f o))) shears)

-- the refusal of a sheet in rows enough
pub refused :
    (f : Filed) (room line : ℕ) (d : ShearDenial) → length (levels_of f) ≤ room
    → sheet_denial (length (levels_of f)) f.card room ≡ Some (NoShears d) → line ≡ shear_line f d
    → shears_judged f ≡ Err (NoSheet d line)
refused f room line d enough h on =
    let n = length (levels_of f) in
    let alone = one_against (shear_denial n f.card) d (against f.card n room _ _ enough refl h) in
    ap (λ (o : Option ShearDenial). sheeted f (on_card f o)) alone
    ∙ ap (λ (l : ℕ). Err (NoSheet d l)) (sym on)

-- which is never one of too few rows
pub rows_suffice :
    (levels room needed : ℕ) (card : Card) → levels ≤ room → sheet_denial levels card room ≢ Some (TooFewRows needed)
rows_suffice levels room needed card enough h =
    none_too_few (shear_denial levels card) needed (against card levels room _ _ enough refl h)
