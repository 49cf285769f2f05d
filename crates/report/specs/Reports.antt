-- What a report tells of an order file: its sheet, or the first refusal.
use Rattle.std.specs.Prelude.{ℕ, ◌+◌, List, [], ◌∷◌, ◌++◌, length, Some, None, Ok, Err, Option, Result}
use Rattle.records.specs.declared.level.Level.{Level}
use Rattle.records.specs.declared.line.Line.{Line}
use Rattle.tokens.specs.Text.{line_of}
use Rattle.order_file.specs.File.{Filed}
use Rattle.order_file.specs.Lines.{load_line, card_line}
use Rattle.order_frame.specs.declared.refusal.Refusal.{Refusal as FrameRefusal}
use Rattle.order_frame.specs.Frames.{frame_levels}
use Rattle.order_frame.specs.Outcomes.{outcome}
use Rattle.seismic.specs.declared.denial.ShearDenial.{ShearDenial}
use Rattle.seismic.specs.declared.denial.ShearDenial.TheVariants.{NoLevels, BadCard}
use Rattle.seismic.specs.Refusals.{shear_denial}
use Rattle.seismic.specs.Sheets.{sheet_of, sheet_rows}
use Rattle.orders.specs.declared.denial.OrderDenial.{OrderDenial}
use Rattle.orders.specs.Calls.{load_denial}
use Rattle.orders.specs.Loads.{raised}
use Rattle.sheet_text.specs.Sheets.{sheet_text}
use Rattle.report.specs.declared.refusal.Refusal.{Refusal}
use Rattle.report.specs.declared.refusal.Refusal.TheVariants.{NoFrame, NoLoad, NoSheet}
use Rattle.report.specs.Refusals.{refused_words}

-- the levels of the file's frame
abbrev pub frame_of : Filed → List Level
frame_of f = frame_levels f.kit f.levels

-- with the file's loads on them
abbrev pub levels_of : Filed → List Level
levels_of f = raised f.loads (frame_of f)

-- the first refusal, and only then the second
abbrev pub or_else : Option Refusal → Option Refusal → Option Refusal
or_else (Some r) later = Some r
or_else None later = later

-- a load is refused on this line
abbrev pub on_line : ℕ → Option OrderDenial → Option Refusal
on_line line None = None
on_line line (Some d) = Some (NoLoad d line)

-- the first load that is denied, where those before it stand: the loads are booked in turn
abbrev pub load_refusal : Filed → List Line → List Line → Option Refusal
load_refusal f lines [] = None
load_refusal f lines (x ∷ xs) =
    or_else (on_line (load_line f (length lines + 1)) (load_denial (frame_of f) lines x))
    (load_refusal f (lines ++ x ∷ []) xs)

-- no line is to blame where a file has no levels
abbrev pub shear_line : Filed → ShearDenial → ℕ
shear_line f NoLevels = 0
shear_line f (BadCard d) = card_line f

-- a sheet is refused on the line at fault
abbrev pub on_card : Filed → Option ShearDenial → Option Refusal
on_card f None = None
on_card f (Some d) = Some (NoSheet d (shear_line f d))

-- why there is no sheet of a file whose frame stands: the loads go before the sheet
abbrev pub sheet_refusal : Filed → Option Refusal
sheet_refusal f = or_else (load_refusal f [] f.loads) (on_card f (shear_denial (length (levels_of f)) f.card))

-- the records of a file that has a sheet, or its refusal
abbrev pub sheeted : Filed → Option Refusal → Result Filed Refusal
sheeted f None = Ok f
sheeted f (Some r) = Err r

-- the refusal of the file or its frame, or what comes of its records
abbrev pub after_frame : Result Filed FrameRefusal → Result Filed Refusal
after_frame (Ok f) = sheeted f (sheet_refusal f)
after_frame (Err r) = Err (NoFrame r)

-- what the bytes of a file come to: the file and the frame are judged first
abbrev pub judged : List ℕ → Result Filed Refusal
judged bytes = after_frame (outcome bytes)

-- the sheet of the frame's levels with the file's loads on them, or the line of the refusal
abbrev pub text_of : Result Filed Refusal → List ℕ
text_of (Ok f) = sheet_text (sheet_of f.card (levels_of f)) (sheet_rows f.card (levels_of f))
text_of (Err r) = line_of (refused_words r) []

-- what is reported of the bytes of a file
abbrev pub report_text : List ℕ → List ℕ
report_text bytes = text_of (judged bytes)
