-- What every report keeps, by the bytes of the file and its text alone.
use Rattle.std.specs.Prelude.{◌≡◌, ℕ, ◌+◌, ◌<◌, ◌≤◌, true, List, [], length, take, slice_get, Some, Ok, Err}
use Rattle.records.specs.declared.kit_numbers.KitNumbers.{KitNumbers}
use Rattle.records.specs.declared.line.Line.{Line}
use Rattle.tokens.specs.Text.{joined, line_of}
use Rattle.frames.specs.Kits.{kit_in_range}
use Rattle.frames.specs.Levels.{Sound}
use Rattle.cards.specs.Fits.{CheckedWhen, GoodCard}
use Rattle.cards.specs.declared.denial.CardDenial.{CardDenial}
use Rattle.seismic.specs.declared.denial.ShearDenial.TheVariants.{NoLevels, BadCard}
use Rattle.seismic.specs.declared.row.Row.{Row}
use Rattle.seismic.specs.declared.sheet.Sheet.{Sheet}
use Rattle.seismic.specs.Laws.{Lawful}
use Rattle.order_file.specs.Exact.{Accepted, Refused}
use Rattle.order_file.specs.File.{Filed}
use Rattle.order_file.specs.Lines.{line_at, load_line, card_line}
use Rattle.order_file.specs.Render.{load_words, card_words}
use Rattle.order_frame.specs.declared.refusal.Refusal.TheVariants.{Faulty, Unframed}
use Rattle.order_frame.specs.Blame.{HoldsRecord}
use Rattle.order_frame.specs.Reasons.{Reason}
use Rattle.order_frame.specs.Refusals.{blamed_line}
use Rattle.orders.specs.declared.denial.OrderDenial.{OrderDenial}
use Rattle.orders.specs.Calls.{LoadsWhen, LoadDeniedWhen}
use Rattle.runs.specs.declared.answer.Answer.{Answer}
use Rattle.runs.specs.declared.call.Call.{Call}
use Rattle.runs.specs.Runs.{Answered, Weighed}
use Rattle.sheet_text.specs.Sheets.{sheet_text}
use Rattle.report.specs.Buffers.{buffer_size}
use Rattle.report.specs.Refusals.{refused_words}
use Rattle.report.specs.Reports.{frame_of, levels_of}
use Rattle.report.specs.Runs.{Asks, told_of}
use Rattle.report.specs.declared.refusal.Refusal.{Refusal}
use Rattle.report.specs.declared.refusal.Refusal.TheVariants.{NoFrame, NoLoad, NoSheet}

-- the bytes are an order file with these records, whose frame is taken: the kit's numbers lie within their ranges, and the
-- levels keep a frame's limits
pub record Stands (f : Filed) (bytes : List ℕ) : Type 0 where
  pub laid_out : Accepted f bytes
  pub kit : (n : KitNumbers) → f.kit ≡ Some n → kit_in_range n ≡ true
  pub levels : Sound (frame_of f)

-- each of the first n loads is taken, on the frame's levels with the loads before it
abbrev pub Takes : Filed → ℕ → Type 0
Takes f n = (k : ℕ) (x : Line) → k < n → slice_get f.loads k ≡ Some x → LoadsWhen (frame_of f) (take k f.loads) x (Ok tt)

-- the file is laid out rightly, its frame and its loads are taken, there are levels, and the card is good
pub record Good (f : Filed) (bytes : List ℕ) : Type 0 where
  pub stands : Stands f bytes
  pub loads : Takes f (length f.loads)
  pub levels : 1 ≤ length (frame_of f)
  pub card : GoodCard f.card

-- the text is that of a sheet of the frame's levels with the file's loads on them
pub record ShowsSheet (f : Filed) (text : List ℕ) : Type 0 where
  pub sheet : Sheet
  pub rows : List Row
  pub shown : text ≡ sheet_text sheet rows
  -- a level weighs what the frame gives and the file's loads on it together
  pub weighed : Weighed (frame_of f) f.loads (levels_of f)
  -- the law of every sheet: its base shear, its forces, shears and rows, its verdict
  pub lawful : Lawful f.card (levels_of f) sheet rows

-- the load at fault stands on its line; those before it are taken, and it is denied for a reason
pub record LoadBlamed (d : OrderDenial) (line : ℕ) (f : Filed) (bytes : List ℕ) : Type 0 where
  pub before : ℕ
  pub load : Line
  pub listed : slice_get f.loads before ≡ Some load
  pub line_is : line ≡ load_line f (before + 1)
  pub held : line_at line bytes ≡ Some (joined (load_words load))
  pub taken : Takes f before
  pub denied : LoadDeniedWhen (frame_of f) (take before f.loads) load d

-- the card is at fault, and stands on its line
pub record CardBlamed (d : CardDenial) (line : ℕ) (f : Filed) (bytes : List ℕ) : Type 0 where
  pub line_is : line ≡ card_line f
  pub held : line_at line bytes ≡ Some (joined (card_words f.card))
  pub levels : 1 ≤ length (frame_of f)
  pub denied : CheckedWhen f.card (Err d)

-- what a refusal says of the file: a fault, that this line is the first at fault; any other, that all that is judged before it
-- is good, and that it comes for a reason, on the line at fault
abbrev pub Blames : Refusal → List ℕ → Type 0
Blames (NoFrame (Faulty e)) bytes = Refused e bytes
Blames (NoFrame (Unframed d line)) bytes =
    (f : Filed) × Accepted f bytes × Reason f.kit f.levels d × (line ≡ blamed_line f d) × HoldsRecord f d line bytes
Blames (NoLoad d line) bytes = (f : Filed) × Stands f bytes × LoadBlamed d line f bytes
Blames (NoSheet NoLevels line) bytes =
    (f : Filed) × Stands f bytes × Takes f (length f.loads) × (line ≡ 0) × (frame_of f ≡ [])
Blames (NoSheet (BadCard d) line) bytes = (f : Filed) × Stands f bytes × Takes f (length f.loads) × CardBlamed d line f bytes

pub record ReportLaw (bytes text : List ℕ) : Type 0 where
  -- a good file's report is a sheet
  pub good_file_shows_sheet : (f : Filed) → Good f bytes → ShowsSheet f text
  -- and no other file's is
  pub sheet_comes_of_good_file : (sheet : Sheet) (rows : List Row) → text ≡ sheet_text sheet rows → (f : Filed) × Good f bytes
  -- every other file is refused
  pub other_file_is_refused :
      ((f : Filed) → ¬ Good f bytes)
      → (r : Refusal) × (text ≡ line_of (refused_words r) []) × Blames r bytes
  -- where the frame is taken, a report tells what every run of the file's calls on it answers
  pub as_run :
      (f : Filed) (calls : List Call) (answers : List Answer) → Stands f bytes → Asks f calls
      → Answered (frame_of f) calls answers → text ≡ told_of f 0 answers
  -- no report is longer than the buffer that it asks for
  pub short : length text ≤ buffer_size
