-- No report is longer than the buffer that it asks for.
use Rattle.std.proofs.Common.{◌≡◌, ℕ, ◌<◌, ◌≤◌, ◌==◌, false, is_some, List, [], length, Some, None, Ok, Err, Option, Result, refl, arith}
use Rattle.std.proofs.lemmas.Bool.{eqb-false}
use Rattle.records.specs.declared.card.Card.{Card}
use Rattle.records.specs.declared.level.Level.{Level}
use Rattle.tokens.specs.declared.fault.Fault.{Fault}
use Rattle.frames.specs.declared.denial.FrameDenial.{FrameDenial}
use Rattle.frames.specs.Cases.{one_none}
use Rattle.frames.specs.Levels.{Sound}
use Rattle.cards.specs.Denials.{card_denial}
use Rattle.cards.specs.declared.denial.CardDenial.{CardDenial}
use Rattle.seismic.specs.declared.denial.ShearDenial.{ShearDenial}
use Rattle.seismic.specs.declared.denial.ShearDenial.TheVariants.{NoLevels}
use Rattle.seismic.specs.Refusals.{by_card, shear_denial}
use Rattle.seismic.specs.Sheets.{sheet_of, sheet_rows}
use Rattle.seismic.proofs.SheetBounds.{sheet_bounded, sheet_rows_bounded}
use Rattle.order_file.specs.File.{Filed, order_file_of}
use Rattle.order_file.specs.Limits.{Fits}
use Rattle.order_file.proofs.Whole.{file_back}
use Rattle.order_frame.specs.declared.refusal.Refusal.{Refusal as FrameRefusal}
use Rattle.order_frame.specs.Frames.{frame_denial}
use Rattle.order_frame.specs.Outcomes.{framed, judged as framed_or_refused, outcome}
use Rattle.order_frame.proofs.Blame.{located}
use Rattle.order_frame.proofs.Reasons.{good_sound}
use Rattle.sheet_text.specs.Sheets.{sheet_text}
use Rattle.sheet_text.proofs.Lengths.{sheet_short}
use Rattle.report.specs.Buffers.{buffer_size}
use Rattle.report.specs.Reports.{after_frame, frame_of, levels_of, load_refusal, on_card, or_else, report_text, sheet_refusal, sheeted, text_of}
use Rattle.report.specs.declared.refusal.Refusal.{Refusal}
use Rattle.report.specs.declared.refusal.Refusal.TheVariants.{NoFrame}
use Rattle.report.proofs.Loading.{levels_sound}
use Rattle.report.proofs.ShortRefusals.{IsBrief, faulty_brief, few_levels, frame_brief, loads_brief, refused_short, shears_brief}

-- levels that are a frame have a sheet under a good card, and it is short
sheet_fits :
    (card : Card) (ls : List Level) → Sound ls → shear_denial (length ls) card ≡ None
    → length (sheet_text (sheet_of card ls) (sheet_rows card ls)) ≤ buffer_size
sheet_fits card ls sound e =
    let p = one_none (length ls == 0) NoLevels (by_card (card_denial card)) e in
    let some : 0 < length ls = let ne = eqb-false (length ls) 0 p.0 in omega arith in
    let ok = good (card_denial card) p.1 in
    let bounded = sheet_bounded card ls ok sound some in
    let rows_bounded = sheet_rows_bounded card ls ok sound some in
    omega (arith, sheet_short (sheet_of card ls) (sheet_rows card ls) bounded rows_bounded)
  where
    good : (o : Option CardDenial) → by_card o ≡ None → is_some o ≡ false
    good None h = refl
    good (Some d) h = cc

-- where there is no refusal, there is neither the first nor the second
neither : (o later : Option Refusal) → or_else o later ≡ None → (o ≡ None) × (later ≡ None)
neither None later e = (refl, e)
neither (Some r) later e = cc

-- the text of a file whose frame stands
module _ (f : Filed) (fits : Fits f) (sound : Sound (frame_of f)) where
  -- why it has no sheet is told in brief numbers
  refusal_brief : (r : Refusal) → sheet_refusal f ≡ Some r → IsBrief r
  refusal_brief r e = cases (load_refusal f [] f.loads) refl e
    where
      cases :
          (o : Option Refusal) → load_refusal f [] f.loads ≡ o
          → or_else o (on_card f (shear_denial (length (levels_of f)) f.card)) ≡ Some r → IsBrief r
      cases None is h = shears_brief f fits (length (levels_of f)) r h
      cases (Some q) is h =
          let same : q ≡ r = cc in
          loads_brief f fits [] f.loads r (omega (arith, fits.load_count)) fits.loads cc

  -- its sheet is short, and so is its refusal
  stood : (o : Option Refusal) → sheet_refusal f ≡ o → length (text_of (sheeted f o)) ≤ buffer_size
  stood (Some r) e = omega (arith, refused_short r (refusal_brief r e))
  stood None e =
      let p = neither (load_refusal f [] f.loads) _ e in
      sheet_fits f.card (levels_of f) (levels_sound f sound p.0) (none (shear_denial (length (levels_of f)) f.card) p.1)
    where
      none : (o : Option ShearDenial) → on_card f o ≡ None → o ≡ None
      none None h = refl
      none (Some d) h = cc

-- what is known of a file once its frame is judged
abbrev Known : Result Filed FrameRefusal → Type 0
Known (Ok f) = Fits f × Sound (frame_of f)
Known (Err r) = IsBrief (NoFrame r)

-- what is known of a file that is read
frame_known : (f : Filed) → Fits f → Known (framed f (frame_denial f.kit f.levels))
frame_known f fits = cases (frame_denial f.kit f.levels) refl
  where
    cases : (o : Option FrameDenial) → frame_denial f.kit f.levels ≡ o → Known (framed f o)
    cases None e = (fits, good_sound f.kit f.levels e)
    cases (Some d) e = frame_brief f fits d (located f d (few_levels f fits) e)

-- and of any bytes
known : (bytes : List ℕ) → Known (outcome bytes)
known bytes = cases (order_file_of bytes) refl
  where
    cases : (o : Result Filed Fault) → order_file_of bytes ≡ o → Known (framed_or_refused o)
    cases (Ok f) e = frame_known f (file_back bytes f e).1
    cases (Err e) bad = faulty_brief bytes e bad

-- whatever the frame comes to, the text is short
text_short : (o : Result Filed FrameRefusal) → Known o → length (text_of (after_frame o)) ≤ buffer_size
text_short (Ok f) k = stood f k.0 k.1 (sheet_refusal f) refl
text_short (Err r) k = omega (arith, refused_short (NoFrame r) k)

-- so the buffer holds every report
pub report_short : (bytes : List ℕ) → length (report_text bytes) ≤ buffer_size
report_short bytes = text_short (outcome bytes) (known bytes)
