-- The text of a sheet.
use Rattle.std.specs.Prelude.{ℕ, List, [], ◌∷◌, ◌++◌, codes, decimal, flat_map, take}
use Rattle.std.specs.Fmt.{signed_decimal}
use Rattle.tokens.specs.Text.{line_of}
use Rattle.seismic.specs.declared.row.Row.{Row}
use Rattle.seismic.specs.declared.sheet.Sheet.{Sheet}
use Rattle.seismic.specs.declared.verdict.Verdict.{Verdict}
use Rattle.seismic.specs.declared.verdict.Verdict.TheVariants.{Pass, Fail}
use Rattle.seismic.specs.Limits.{limit_number}

-- PASS, or FAIL with the storey and the number of the limit that it breaks
abbrev pub verdict_words : Verdict → List (List ℕ)
verdict_words Pass = codes "PASS" ∷ []
verdict_words (Fail storey limit) = codes "FAIL" ∷ decimal storey ∷ decimal (limit_number limit) ∷ []

-- SHEET, how many levels, the total weight, the base shear V0, the verdict
abbrev pub sheet_words : Sheet → List (List ℕ)
sheet_words s = codes "SHEET" ∷ decimal s.levels ∷ decimal s.weight ∷ decimal s.base_shear ∷ verdict_words s.verdict

-- the storey's u, the level's x, Ma, Mb, s
abbrev pub movement_words : Row → List (List ℕ)
movement_words r =
    decimal r.drift ∷ decimal r.displacement ∷ decimal r.ma ∷ signed_decimal r.mb ∷ decimal r.separation ∷ []

-- level, weight, H, F, V, and those
abbrev pub row_words : Row → List (List ℕ)
row_words r =
    decimal r.level ∷ decimal r.weight ∷ decimal r.height.0 ∷ decimal r.force ∷ decimal r.shear ∷ movement_words r

-- a level's line
abbrev pub row_line : Row → List ℕ
row_line r = line_of (row_words r) []

-- the heading, and a line a row
abbrev pub text_of : Sheet → List Row → List ℕ
text_of s rows = line_of (sheet_words s) [] ++ flat_map row_line rows

-- the heading, and a line a level, from below; further rows were lent and not written
abbrev pub sheet_text : Sheet → List Row → List ℕ
sheet_text s rows = text_of s (take s.levels rows)
