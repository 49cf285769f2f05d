-- What each step on the way to the sheet comes to.
use Rattle.std.specs.Prelude.{◌≡◌, ℕ, ◌+◌, List, [], ◌∷◌, ◌++◌, length, drop, Some, None, Ok, Err, Result}
use Rattle.records.specs.declared.failure.Failure.{Failure}
use Rattle.records.specs.declared.failure.Failure.TheVariants.{Denied, NoMemory}
use Rattle.records.specs.declared.line.Line.{Line}
use Rattle.order_file.specs.File.{Filed}
use Rattle.order_file.specs.Lines.{load_line}
use Rattle.orders.specs.Calls.{load_denial}
use Rattle.seismic.specs.Refusals.{shear_denial}
use Rattle.report.specs.declared.refusal.Refusal.{Refusal}
use Rattle.report.specs.Reports.{frame_of, levels_of, load_refusal, on_card, on_line, sheeted, text_of}

-- a text stands at the front of a buffer, and further bytes are as they were
abbrev pub Put : List ℕ → List ℕ → ℕ → List ℕ → Type 0
Put text before n after = (n ≡ length text) × (after ≡ text ++ drop n before)

-- the text of the sheet, or the refusal
abbrev pub Shown : List ℕ → Result ℕ Refusal → List ℕ → Result Filed Refusal → Type 0
Shown before (Ok n) after want = Put (text_of want) before n after
Shown before (Err r) after want = (want ≡ Err r) × (after ≡ before)

-- the same where memory may be wanting, of which nothing is said
abbrev pub Told : List ℕ → Result ℕ (Failure Refusal) → List ℕ → Result Filed Refusal → Type 0
Told before (Ok n) after want = Shown before (Ok n) after want
Told before (Err (Denied r)) after want = Shown before (Err r) after want
Told before (Err NoMemory) after want = after ≡ before

-- a load is booked after those that stand, or refused on its line
abbrev pub Booked : Filed → List Line → Line → Result (Unit {0}) Refusal → List Line → Type 0
Booked f before x (Ok _) after = (load_denial (frame_of f) before x ≡ None) × (after ≡ before ++ x ∷ [])
Booked f before x (Err r) after = on_line (load_line f (length before + 1)) (load_denial (frame_of f) before x) ≡ Some r

-- all loads are booked, or the first that is denied is refused
abbrev pub AllBooked : Filed → Result (Unit {0}) Refusal → List Line → Type 0
AllBooked f (Ok _) after = (load_refusal f [] f.loads ≡ None) × (after ≡ f.loads)
AllBooked f (Err r) after = load_refusal f [] f.loads ≡ Some r

-- what the sheet comes to once the loads are booked
abbrev pub shears_judged : Filed → Result Filed Refusal
shears_judged f = sheeted f (on_card f (shear_denial (length (levels_of f)) f.card))
