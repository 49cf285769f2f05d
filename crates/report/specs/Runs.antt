-- A report beside a run of the same calls.
use Rattle.std.specs.Prelude.{◌≡◌, ℕ, ◌+◌, ◌≤◌, List, [], ◌∷◌, ◌++◌, length, map, Ok, Err, vec_items, Vec}
use Rattle.std.specs.Global.{Global}
use Rattle.tokens.specs.Text.{line_of}
use Rattle.order_file.specs.File.{Filed}
use Rattle.order_file.specs.Lines.{load_line}
use Rattle.seismic.specs.declared.row.Row.{Row}
use Rattle.seismic.specs.declared.denial.SheetDenial.TheVariants.{NoShears, TooFewRows}
use Rattle.runs.specs.declared.answer.Answer.{Answer}
use Rattle.runs.specs.declared.answer.Answer.TheVariants.{Loaded, Sheet as Sheets, Denied}
use Rattle.runs.specs.declared.call.Call.{Call}
use Rattle.runs.specs.declared.call.Call.TheVariants.{Load, Sheet}
use Rattle.sheet_text.specs.Sheets.{sheet_text}
use Rattle.report.specs.Refusals.{refused_words}
use Rattle.report.specs.Reports.{frame_of, shear_line}
use Rattle.report.specs.declared.refusal.Refusal.TheVariants.{NoLoad, NoSheet}

-- the file's loads in turn, and then a sheet under its card, in rows enough
pub record Asks (f : Filed) (calls : List Call) : Type 0 where
  pub rows : Vec Row Global
  pub enough : length (frame_of f) ≤ length (vec_items rows)
  pub made : calls ≡ map Load f.loads ++ Sheet f.card rows ∷ []

-- what is told of the answers to these calls, in order, from the one over n accepted loads on: the first denial, or the sheet;
-- what a run of these calls never answers tells nothing
abbrev pub told_of : Filed → ℕ → List Answer → List ℕ
told_of f n [] = []
told_of f n (Denied d ∷ later) = line_of (refused_words (NoLoad d (load_line f (n + 1)))) []
told_of f n (Sheets (Ok sheet) rows ∷ later) = sheet_text sheet (vec_items rows)
told_of f n (Sheets (Err (NoShears d)) rows ∷ later) = line_of (refused_words (NoSheet d (shear_line f d))) []
told_of f n (Sheets (Err (TooFewRows needed)) rows ∷ later) = []
told_of f n (Loaded x ∷ later) = told_of f (n + 1) later
told_of f n (_ ∷ later) = []
