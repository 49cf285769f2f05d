-- The text of an answer.
use Rattle.std.specs.Prelude.{ℕ, List, [], ◌∷◌, Ok, Err, codes, decimal, map, vec_items}
use Rattle.std.specs.Fmt.{signed_decimal}
use Rattle.records.specs.declared.line.Line.{Line}
use Rattle.tokens.specs.Text.{line_of}
use Rattle.seismic.specs.declared.axis.Axis.{Axis}
use Rattle.seismic.specs.Denials.{axes_number, axes_place, sheet_number, sheet_place}
use Rattle.orders.specs.Denials.{denial_number, denial_place}
use Rattle.runs.specs.declared.answer.Answer.{Answer}
use Rattle.runs.specs.declared.answer.Answer.TheVariants.{Loaded, Struck, Standing, OnTrial, Kept, Abandoned, Issued, Reopened, Released, Sheet, Axes, Denied, OutOfState}
use Rattle.sheet_text.specs.Sheets.{sheet_text}

-- the word for what became of a line, then its level and its load
abbrev pub booking_words : List ℕ → Line → List (List ℕ)
booking_words word x = word ∷ decimal x.level ∷ signed_decimal x.load ∷ []

-- what falls to an axis of its storey's shear
abbrev pub axis_word : Axis → List ℕ
axis_word a = decimal a.direct_shear

-- AXES, the storey's shear V, the direct shear of each axis
abbrev pub axes_words : ℕ → List Axis → List (List ℕ)
axes_words shear axes = codes "AXES" ∷ decimal shear ∷ map axis_word axes

-- DENIED, the denial's number, its place
abbrev pub denied_words : ℕ → ℕ → List (List ℕ)
denied_words number place = codes "DENIED" ∷ decimal number ∷ decimal place ∷ []

-- one line, or the text of a sheet
abbrev pub answer_text : Answer → List ℕ
answer_text (Loaded x) = line_of (booking_words (codes "LOADED") x) []
answer_text (Struck x) = line_of (booking_words (codes "STRUCK") x) []
answer_text (Standing level sum) = line_of (codes "STANDING" ∷ decimal level ∷ signed_decimal sum ∷ []) []
answer_text OnTrial = line_of (codes "ON" ∷ codes "TRIAL" ∷ []) []
answer_text Kept = line_of (codes "KEPT" ∷ []) []
answer_text Abandoned = line_of (codes "ABANDONED" ∷ []) []
answer_text Issued = line_of (codes "ISSUED" ∷ []) []
answer_text Reopened = line_of (codes "REOPENED" ∷ []) []
answer_text (Released levels lines weight) = line_of (codes "RELEASED" ∷ decimal levels ∷ decimal lines ∷ decimal weight ∷ []) []
answer_text (Sheet (Ok sheet) rows) = sheet_text sheet (vec_items rows)
answer_text (Sheet (Err d) rows) = line_of (denied_words (sheet_number d) (sheet_place d)) []
answer_text (Axes (Ok shear) axes) = line_of (axes_words shear (vec_items axes)) []
answer_text (Axes (Err d) axes) = line_of (denied_words (axes_number d) (axes_place d)) []
answer_text (Denied d) = line_of (denied_words (denial_number d) (denial_place d)) []
answer_text OutOfState = line_of (codes "OUT" ∷ codes "OF" ∷ codes "STATE" ∷ []) []
