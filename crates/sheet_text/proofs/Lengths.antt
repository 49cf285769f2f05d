-- How long the text of a sheet is.
use Rattle.std.proofs.Common.{ℕ, ◌*◌, ◌≤◌, List, [], length, take, sum_by, flat_map, arith, length-append, length-take}
use Rattle.std.proofs.lemmas.List.Concat.{length-flat_map}
use Rattle.std.proofs.lemmas.List.Elements.{All-take, All-weaker}
use Rattle.std.proofs.lemmas.List.Sums.{sum_by-le}
use Rattle.std.specs.List.{All}
use Rattle.tokens.specs.Text.{line_of}
use Rattle.tokens.proofs.Lengths.{WordsShort, line_short, number_short, signed_short}
use Rattle.seismic.specs.Limits.{limit_number}
use Rattle.seismic.specs.declared.row.Row.{Row}
use Rattle.seismic.specs.declared.sheet.Sheet.{Sheet}
use Rattle.seismic.specs.declared.verdict.Limit.{Limit}
use Rattle.seismic.specs.declared.verdict.Limit.TheVariants.{Drift, Eccentricity, SecondOrder, Gap}
use Rattle.seismic.specs.declared.verdict.Verdict.{Verdict}
use Rattle.seismic.specs.declared.verdict.Verdict.TheVariants.{Pass, Fail}
use Rattle.seismic.proofs.SheetBounds.{IsRowBounded, IsSheetBounded, IsVerdictBounded}
use Rattle.sheet_text.specs.Sheets.{row_line, row_words, sheet_text, sheet_words, verdict_words}

-- no word of a row is long
row_words_short : (r : Row) → IsRowBounded r → WordsShort (row_words r)
row_words_short r b =
    let level = number_short r.level (omega (arith, b.level)) in
    let weight = number_short r.weight (omega (arith, b.weight)) in
    let height = number_short r.height.0 (omega (arith, b.height)) in
    let force = number_short r.force (omega (arith, b.force)) in
    let shear = number_short r.shear (omega (arith, b.shear)) in
    let drift = number_short r.drift (omega (arith, b.drift)) in
    let displacement = number_short r.displacement (omega (arith, b.displacement)) in
    let ma = number_short r.ma (omega (arith, b.ma)) in
    let mb = signed_short r.mb (omega (arith, b.mb)) in
    let separation = number_short r.separation (omega (arith, b.separation)) in
    (level, (weight, (height, (force, (shear, (drift, (displacement, (ma, (mb, (separation, tt))))))))))

-- 151 bytes hold the line of a row
row_short : (r : Row) → IsRowBounded r → length (row_line r) ≤ 151
row_short r b = omega (arith, line_short (row_words r) (row_words_short r b))

-- there are four limits
limit_few : (limit : Limit) → limit_number limit ≤ 4
limit_few Drift = omega arith
limit_few Eccentricity = omega arith
limit_few SecondOrder = omega arith
limit_few Gap = omega arith

-- a verdict has at most three words
verdict_few : (v : Verdict) → length (verdict_words v) ≤ 3
verdict_few Pass = omega arith
verdict_few (Fail storey limit) = omega arith

-- none of them is long
verdict_words_short : (v : Verdict) → IsVerdictBounded v → WordsShort (verdict_words v)
verdict_words_short Pass b = (omega arith, tt)
verdict_words_short (Fail storey limit) b =
    let broken = number_short (limit_number limit) (omega (arith, limit_few limit)) in
    (omega arith, (number_short storey (omega (arith, b)), (broken, tt)))

-- nor is any of the heading
heading_words_short : (s : Sheet) → IsSheetBounded s → WordsShort (sheet_words s)
heading_words_short s b =
    let levels = number_short s.levels (omega (arith, b.levels)) in
    let weight = number_short s.weight (omega (arith, b.weight)) in
    let base_shear = number_short s.base_shear (omega (arith, b.base_shear)) in
    (omega arith, (levels, (weight, (base_shear, verdict_words_short s.verdict b.verdict))))

-- 106 bytes hold the heading
heading_short : (s : Sheet) → IsSheetBounded s → length (line_of (sheet_words s) []) ≤ 106
heading_short s b = omega (arith, line_short (sheet_words s) (heading_words_short s b), verdict_few s.verdict)

-- 3,730 bytes hold a sheet
pub sheet_short :
    (s : Sheet) (rows : List Row) → IsSheetBounded s → All IsRowBounded rows → length (sheet_text s rows) ≤ 3730
sheet_short s rows b each =
    let written = take s.levels rows in
    let size : Row → ℕ = λ (r : Row). length (row_line r) in
    let few : length written ≤ 24 = omega (arith, b.levels, length-take s.levels rows) in
    let heading = heading_short s b in
    let short = All-weaker IsRowBounded (λ (r : Row). size r ≤ 151) row_short written (All-take IsRowBounded s.levels rows each) in
    let lines : sum_by size written ≤ length written * 151 = sum_by-le size 151 written short in
    let whole = length-append (line_of (sheet_words s) []) (flat_map row_line written) in
    omega (arith, few, lines, heading, length-flat_map row_line written, whole)
