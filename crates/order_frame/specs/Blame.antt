-- A refused frame is blamed on the line that holds the record at fault.
use Rattle.std.specs.Prelude.{◌≡◌, ℕ, List, Some, Ok, Err, Result}
use Rattle.records.specs.declared.kit_numbers.KitNumbers.{KitNumbers}
use Rattle.records.specs.declared.level.Level.{Level}
use Rattle.records.specs.declared.failure.Failure.{Failure}
use Rattle.records.specs.declared.failure.Failure.TheVariants.{Denied, NoMemory}
use Rattle.tokens.specs.declared.fault.Fault.{Fault}
use Rattle.tokens.specs.Text.{joined}
use Rattle.frames.specs.declared.denial.FrameDenial.{FrameDenial}
use Rattle.frames.specs.declared.denial.FrameDenial.TheVariants.{TooManyLevels, OutOfRange, TooHigh, KitOutOfRange, KitTooHigh}
use Rattle.frames.specs.Levels.{level_at}
use Rattle.order_file.specs.File.{Filed, order_file_of}
use Rattle.order_file.specs.Lines.{line_at}
use Rattle.order_file.specs.Render.{kit_words, level_words}
use Rattle.order_frame.specs.declared.frame.OrderFrame.{OrderFrame}
use Rattle.order_frame.specs.declared.opened.Opened.{Opened}
use Rattle.order_frame.specs.declared.refusal.Refusal.{Refusal}
use Rattle.order_frame.specs.Frames.{frame_levels}
use Rattle.order_frame.specs.Reasons.{Reason}
use Rattle.order_frame.specs.Refusals.{refusal_line, frame_refusal}

-- the line holds the kit's record
abbrev pub HoldsKit : Filed → ℕ → List ℕ → Type 0
HoldsKit f line bytes = (n : KitNumbers) × (f.kit ≡ Some n) × (line_at line bytes ≡ Some (joined (kit_words n)))

-- the line holds the record of level k of the frame
abbrev pub HoldsLevel : Filed → ℕ → ℕ → List ℕ → Type 0
HoldsLevel f k line bytes = (l : Level) × (level_at (frame_levels f.kit f.levels) k ≡ Some l) × (line_at line bytes ≡ Some (joined (level_words l)))

-- the line holds the record that a denial is about
abbrev pub HoldsRecord : Filed → FrameDenial → ℕ → List ℕ → Type 0
HoldsRecord f (TooManyLevels k) line bytes = HoldsLevel f k line bytes
HoldsRecord f (OutOfRange k) line bytes = HoldsLevel f k line bytes
HoldsRecord f (TooHigh k) line bytes = HoldsLevel f k line bytes
HoldsRecord f KitOutOfRange line bytes = HoldsKit f line bytes
HoldsRecord f KitTooHigh line bytes = HoldsKit f line bytes

-- what a refusal says of the file: a faulty one is the reader's to blame; else its frame is denied, for a reason, and the
-- refusal tells the line of the record at fault
abbrev pub Blames : Refusal → Result Filed Fault → List ℕ → Type 0
Blames r (Err e) bytes = Unit {0}
Blames r (Ok f) bytes = (d : FrameDenial) × (r ≡ frame_refusal f d) × Reason f.kit f.levels d × HoldsRecord f d (refusal_line r) bytes

abbrev pub Blamed : Result Opened (Failure Refusal) → List ℕ → Type 0
Blamed (Ok o) bytes = Unit {0}
Blamed (Err (Denied r)) bytes = Blames r (order_file_of bytes) bytes
Blamed (Err NoMemory) bytes = Unit {0}

-- the same of a frame that is made from records, in whatever bytes hold them on their lines
abbrev pub BlamedOn : List ℕ → Result OrderFrame (Failure Refusal) → Filed → Type 0
BlamedOn bytes (Ok frame) f = Unit {0}
BlamedOn bytes (Err (Denied r)) f = Blames r (Ok f) bytes
BlamedOn bytes (Err NoMemory) f = Unit {0}
