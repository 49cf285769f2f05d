-- A report is a sheet exactly where the file is good; of every other file it is a refusal, and what that says is so.
use Rattle.std.proofs.Common.{◌≡◌, ℕ, ◌<◌, List, [], length, get_or, is_some, None, Ok, Err, Option, Result, sym, refl, ap, ◌∙◌, subst, arith}
use Rattle.tokens.specs.Text.{line_of}
use Rattle.seismic.specs.declared.row.Row.{Row}
use Rattle.seismic.specs.declared.sheet.Sheet.{Sheet}
use Rattle.seismic.specs.Refusals.{shear_denial}
use Rattle.seismic.specs.Sheets.{sheet_of, sheet_rows}
use Rattle.seismic.proofs.Laws.{lawful}
use Rattle.frames.specs.Levels.{Sound}
use Rattle.order_file.specs.File.{Filed}
use Rattle.order_frame.specs.Refusals.{refusal_words}
use Rattle.orders.proofs.Raising.{raised_length}
use Rattle.runs.proofs.Weighing.{weighed}
use Rattle.sheet_text.specs.Sheets.{sheet_text}
use Rattle.report.specs.declared.refusal.Refusal.{Refusal}
use Rattle.report.specs.Laws.{Blames, Good, ShowsSheet}
use Rattle.report.specs.Refusals.{refusal_line, refusal_number, refusal_place, refused_words}
use Rattle.report.specs.Reports.{after_frame, frame_of, judged, levels_of, load_refusal, on_card, or_else, report_text, sheet_refusal, sheeted, text_of}
use Rattle.report.proofs.Carding.{good_card, shears_stand}
use Rattle.report.proofs.Judging.{Says, judged_says, lined}
use Rattle.report.proofs.Loading.{levels_sound, loads_stand}
use Rattle.report.proofs.Taken.{taken}

-- the loads of a good file are not refused
good_stands : (f : Filed) (bytes : List ℕ) → Good f bytes → load_refusal f [] f.loads ≡ None
good_stands f bytes good = loads_stand f bytes (lined f bytes good.stands.laid_out) good.loads

-- nor is its sheet
none_refused : (f : Filed) (bytes : List ℕ) → Good f bytes → sheet_refusal f ≡ None
none_refused f bytes good =
    let card = on_card f (shear_denial (length (levels_of f)) f.card) in
    ap (λ (o : Option Refusal). or_else o card) (good_stands f bytes good)
    ∙ ap (on_card f) (shears_stand f good.levels good.card)

-- so its bytes come to its records
good_judged : (f : Filed) (bytes : List ℕ) → Good f bytes → judged bytes ≡ Ok f
good_judged f bytes good = ap after_frame (taken bytes f good.stands) ∙ ap (sheeted f) (none_refused f bytes good)

-- the sheet of a good file
sheet_shown : (f : Filed) (bytes : List ℕ) → Good f bytes → ShowsSheet f (text_of (Ok f))
sheet_shown f bytes good =
    let sound : Sound (levels_of f) = levels_sound f good.stands.levels (good_stands f bytes good) in
    let some : 0 < length (levels_of f) = omega (arith, good.levels, raised_length f.loads (frame_of f)) in
    record {
      sheet = sheet_of f.card (levels_of f);
      rows = sheet_rows f.card (levels_of f);
      shown = refl;
      weighed = weighed (frame_of f) f.loads sound;
      lawful = lawful f.card (levels_of f) (ap is_some (good_card f.card good.card)) sound some;
    }

-- a good file's report is a sheet
pub good_shows_sheet : (bytes : List ℕ) (f : Filed) → Good f bytes → ShowsSheet f (report_text bytes)
good_shows_sheet bytes f good =
    subst (λ (o : Result Filed Refusal). ShowsSheet f (text_of o)) (sym (good_judged f bytes good)) (sheet_shown f bytes good)

-- the line of a refusal does not begin as a sheet does
apart :
    (number line place : ℕ) (sheet : Sheet) (rows : List Row)
    → line_of (refusal_words number line place) [] ≡ sheet_text sheet rows → ⊥
apart number line place sheet rows e =
    let first : ◌≡◌ {A = ℕ} 82 83 = ap (λ (bs : List ℕ). get_or bs 0 0) e in
    absurd (omega arith)

-- only a good file comes to a sheet
of_sheet :
    (bytes : List ℕ) (o : Result Filed Refusal) (sheet : Sheet) (rows : List Row) → Says bytes o
    → text_of o ≡ sheet_text sheet rows → (f : Filed) × Good f bytes
of_sheet bytes (Ok f) sheet rows good e = (f, good)
of_sheet bytes (Err r) sheet rows blames e =
    absurd (apart (refusal_number r) (refusal_line r) (refusal_place r) sheet rows e)

-- so only a good file's report is a sheet
pub sheet_of_good :
    (bytes : List ℕ) (sheet : Sheet) (rows : List Row)
    → report_text bytes ≡ sheet_text sheet rows → (f : Filed) × Good f bytes
sheet_of_good bytes sheet rows e = of_sheet bytes (judged bytes) sheet rows (judged_says bytes) e

-- what is not good comes to a refusal
of_other :
    (bytes : List ℕ) (o : Result Filed Refusal) → Says bytes o → ((f : Filed) → ¬ Good f bytes)
    → (r : Refusal) × (text_of o ≡ line_of (refused_words r) []) × Blames r bytes
of_other bytes (Ok f) good none = absurd (none f good)
of_other bytes (Err r) blames none = (r, refl, blames)

-- so every other file is refused, with what the refusal says
pub other_refused :
    (bytes : List ℕ) → ((f : Filed) → ¬ Good f bytes)
    → (r : Refusal) × (report_text bytes ≡ line_of (refused_words r) []) × Blames r bytes
other_refused bytes none = of_other bytes (judged bytes) (judged_says bytes) none
