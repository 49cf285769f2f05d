-- What the bytes of a file come to says what they are: a good file's, or those that the refusal blames.
use Rattle.std.proofs.Common.{◌≡◌, ℕ, ◌≤◌, true, List, [], length, Some, None, Ok, Err, Option, Result, sym, refl, ap, subst, arith}
use Rattle.std.proofs.lemmas.Option.{same_Some}
use Rattle.records.specs.declared.failure.Failure.TheVariants.{Denied}
use Rattle.records.specs.declared.kit_numbers.KitNumbers.{KitNumbers}
use Rattle.records.specs.declared.level.Level.{Level}
use Rattle.tokens.specs.declared.fault.Fault.{Fault}
use Rattle.frames.specs.declared.denial.FrameDenial.{FrameDenial}
use Rattle.frames.specs.declared.denial.FrameDenial.TheVariants.{KitOutOfRange, KitTooHigh}
use Rattle.frames.specs.Cases.{two_none}
use Rattle.frames.specs.Kits.{kit_in_range}
use Rattle.seismic.specs.declared.denial.ShearDenial.{ShearDenial}
use Rattle.seismic.specs.declared.denial.ShearDenial.TheVariants.{NoLevels, BadCard}
use Rattle.seismic.specs.Refusals.{shear_denial}
use Rattle.order_file.specs.Exact.{Accepted}
use Rattle.order_file.specs.File.{Filed, order_file_of}
use Rattle.order_file.specs.Lines.{LinedUp}
use Rattle.order_file.proofs.Laws.{exactly}
use Rattle.order_file.proofs.Standing.{lined_up}
use Rattle.order_file.proofs.Whole.{file_back, most_few}
use Rattle.order_frame.specs.declared.refusal.Refusal.{Refusal as FrameRefusal}
use Rattle.order_frame.specs.Blame.{Blames as FrameBlames, HoldsRecord}
use Rattle.order_frame.specs.Frames.{frame_denial}
use Rattle.order_frame.specs.Outcomes.{framed, judged as frame_judged}
use Rattle.order_frame.specs.Refusals.{frame_refusal, refusal_line}
use Rattle.order_frame.proofs.Blame.{blamed_on}
use Rattle.order_frame.proofs.Reasons.{good_sound}
use Rattle.report.specs.declared.refusal.Refusal.{Refusal}
use Rattle.report.specs.declared.refusal.Refusal.TheVariants.{NoFrame}
use Rattle.report.specs.Laws.{Blames, Good, Stands}
use Rattle.report.specs.Reports.{after_frame, judged, levels_of, load_refusal, on_card, or_else, sheeted}
use Rattle.report.proofs.Carding.{ShearsSay, shears_say}
use Rattle.report.proofs.Loading.{LoadsSay, loads_say}

-- what is judged of the bytes says that a file is good, or what a refusal blames
abbrev pub Says : List ℕ → Result Filed Refusal → Type 0
Says bytes (Ok f) = Good f bytes
Says bytes (Err r) = Blames r bytes

-- the records of a file that is laid out rightly stand on their lines
pub lined : (f : Filed) (bytes : List ℕ) → Accepted f bytes → LinedUp f bytes
lined f bytes accepted = subst (LinedUp f) (sym accepted.written) (lined_up f accepted.fits [])

-- of a file whose frame stands: its loads, its levels and its card
say_sheet :
    (f : Filed) (bytes : List ℕ) (o : Option Refusal) (p : Option ShearDenial) → Stands f bytes → LoadsSay f bytes o
    → ShearsSay f bytes p → Says bytes (sheeted f (or_else o (on_card f p)))
say_sheet f bytes (Some r) p stands (d, line, is, blamed) shears =
    subst (λ (x : Refusal). Blames x bytes) (sym is) (f, stands, blamed)
say_sheet f bytes None None stands taken (some, good) = record { stands = stands; loads = taken; levels = some; card = good }
say_sheet f bytes None (Some NoLevels) stands taken none = (f, stands, taken, refl, none)
say_sheet f bytes None (Some (BadCard d)) stands taken blamed = (f, stands, taken, blamed)

-- a kit whose frame is not denied is within its ranges
kit_taken :
    (kit : Option KitNumbers) (levels : List Level) (n : KitNumbers) → frame_denial kit levels ≡ None → kit ≡ Some n
    → kit_in_range n ≡ true
kit_taken None levels n e is = cc
kit_taken (Some m) levels n e is =
    let p = two_none (kit_in_range m) _ KitOutOfRange KitTooHigh _ e in
    subst (λ (x : KitNumbers). kit_in_range x ≡ true) (same_Some m n is) p.0

-- a frame is blamed as its own law says
blame_frame :
    (f : Filed) (bytes : List ℕ) (r : FrameRefusal) → Accepted f bytes → FrameBlames r (Ok f) bytes
    → Blames (NoFrame r) bytes
blame_frame f bytes r accepted (d, told, reason, held) =
    subst (λ (x : FrameRefusal). Blames (NoFrame x) bytes) (sym told)
    (f, accepted, reason, refl, subst (λ (x : FrameRefusal). HoldsRecord f d (refusal_line x) bytes) told held)

-- of a file that is laid out rightly
say_frame :
    (f : Filed) (bytes : List ℕ) (o : Option FrameDenial) → Accepted f bytes → frame_denial f.kit f.levels ≡ o
    → Says bytes (after_frame (framed f o))
say_frame f bytes None accepted e =
    let lines = lined f bytes accepted in
    let stands : Stands f bytes = record {
      laid_out = accepted;
      kit = λ n is. kit_taken f.kit f.levels n e is;
      levels = good_sound f.kit f.levels e;
    } in
    say_sheet f bytes (load_refusal f [] f.loads) (shear_denial (length (levels_of f)) f.card) stands
    (loads_say f bytes lines) (shears_say f bytes lines)
say_frame f bytes (Some d) accepted e =
    let few : length f.levels ≤ 24 = omega (arith, accepted.fits.level_count, most_few f.kit) in
    let r = frame_refusal f d in
    blame_frame f bytes r accepted (blamed_on f bytes (Err (Denied r)) (lined f bytes accepted) few (ap (framed f) e))

-- of whatever is read
say_file : (bytes : List ℕ) (o : Result Filed Fault) → order_file_of bytes ≡ o → Says bytes (after_frame (frame_judged o))
say_file bytes (Ok f) e =
    let q = file_back bytes f e in
    let accepted : Accepted f bytes = record { written = q.0; fits = q.1 } in
    say_frame f bytes (frame_denial f.kit f.levels) accepted refl
say_file bytes (Err e) h = exactly (Err (Denied e)) bytes h

-- so of every file
pub judged_says : (bytes : List ℕ) → Says bytes (judged bytes)
judged_says bytes = say_file bytes (order_file_of bytes) refl
