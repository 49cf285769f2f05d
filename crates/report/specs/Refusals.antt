-- What is refused, and the line that is to blame.
use Rattle.std.specs.Prelude.{ℕ, List}
use Rattle.order_frame.specs.Refusals.{refusal_words, refusal_number as frame_number, refusal_line as frame_line, refusal_place as frame_place}
use Rattle.orders.specs.Denials.{denial_number, denial_place}
use Rattle.seismic.specs.Denials.{shear_number, shear_place}
use Rattle.report.specs.declared.refusal.Refusal.{Refusal}
use Rattle.report.specs.declared.refusal.Refusal.TheVariants.{NoFrame, NoLoad, NoSheet}

-- the number that a refusal is told by
abbrev pub refusal_number : Refusal → ℕ
refusal_number (NoFrame r) = frame_number r
refusal_number (NoLoad d line) = denial_number d
refusal_number (NoSheet d line) = shear_number d

-- the line of the file that is to blame
abbrev pub refusal_line : Refusal → ℕ
refusal_line (NoFrame r) = frame_line r
refusal_line (NoLoad d line) = line
refusal_line (NoSheet d line) = line

-- the place that it is about
abbrev pub refusal_place : Refusal → ℕ
refusal_place (NoFrame r) = frame_place r
refusal_place (NoLoad d line) = denial_place d
refusal_place (NoSheet d line) = shear_place d

-- the words that it is printed with
abbrev pub refused_words : Refusal → List (List ℕ)
refused_words r = refusal_words (refusal_number r) (refusal_line r) (refusal_place r)
