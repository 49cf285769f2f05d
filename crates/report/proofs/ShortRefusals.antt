-- Every refusal is a short line.
use Rattle.std.proofs.Common.{◌≡◌, ℕ, ◌+◌, ◌-◌, ◌^◌, ◌<◌, ◌≤◌, Bool, true, false, nat_le, ◌==◌, cond, List, [], ◌∷◌, ◌++◌, length, Some, None, Err, Option, inl, inr, refl, subst, arith, length-append}
use Rattle.std.specs.List.{AllByRecursion}
use Rattle.std.specs.Option.{option_to_list}
use Rattle.std.proofs.lemmas.Bool.{leb-true}
use Rattle.records.specs.declared.card.Card.{Card}
use Rattle.records.specs.declared.kit_numbers.KitNumbers.{KitNumbers}
use Rattle.records.specs.declared.line.Line.{Line}
use Rattle.tokens.specs.Faults.{fault_number}
use Rattle.tokens.specs.Text.{line_of}
use Rattle.tokens.specs.declared.fault.Fault.{Fault}
use Rattle.tokens.specs.declared.fault.Fault.TheVariants.{Layout, Count, Surplus}
use Rattle.tokens.proofs.Lengths.{line_short, number_short}
use Rattle.frames.specs.declared.denial.FrameDenial.{FrameDenial}
use Rattle.frames.specs.declared.denial.FrameDenial.TheVariants.{TooManyLevels, OutOfRange, TooHigh, KitOutOfRange, KitTooHigh}
use Rattle.frames.specs.Cases.{one_some}
use Rattle.cards.specs.Cards.{fields}
use Rattle.cards.specs.Denials.{card_denial, denial_number as card_number, denial_place as card_place, first_outside, is_above, out_of_range}
use Rattle.cards.specs.declared.denial.CardDenial.{CardDenial}
use Rattle.cards.specs.declared.denial.CardDenial.TheVariants.{OutOfRange as FieldOutOfRange, PeriodAboveTb}
use Rattle.seismic.specs.Refusals.{by_card, shear_denial}
use Rattle.seismic.specs.declared.denial.ShearDenial.{ShearDenial}
use Rattle.seismic.specs.declared.denial.ShearDenial.TheVariants.{NoLevels, BadCard}
use Rattle.orders.specs.Calls.{LoadDeniedWhen, load_denial}
use Rattle.orders.specs.Denials.{denial_number, denial_place}
use Rattle.orders.specs.declared.denial.OrderDenial.{OrderDenial}
use Rattle.orders.specs.declared.denial.OrderDenial.TheVariants.{NoSuchLevel, LoadOutOfRange, WeightOutOfRange, NoRoom, NothingToStrike}
use Rattle.orders.proofs.Judging.{loads_when}
use Rattle.order_file.specs.File.{Filed, order_file_of}
use Rattle.order_file.specs.Limits.{Fits, KitShort, LoadShort}
use Rattle.order_file.specs.Lines.{card_line, kits, level_line, load_line}
use Rattle.order_file.proofs.Lengths.{faulty_line_most}
use Rattle.order_file.proofs.Whole.{most_few, one_kit}
use Rattle.order_frame.specs.Refusals.{frame_refusal, kit_count}
use Rattle.order_frame.specs.declared.refusal.Refusal.TheVariants.{Faulty}
use Rattle.order_frame.proofs.Blame.{Located}
use Rattle.report.specs.Refusals.{refused_words, refusal_line, refusal_number, refusal_place}
use Rattle.report.specs.Reports.{frame_of, load_refusal, on_card, on_line, or_else, shear_line}
use Rattle.report.specs.declared.refusal.Refusal.{Refusal}
use Rattle.report.specs.declared.refusal.Refusal.TheVariants.{NoFrame, NoLoad, NoSheet}

-- none of its three numbers has more than 13 digits
pub record IsBrief (r : Refusal) : Type 0 where
  pub number : refusal_number r < 10 ^ 13
  pub line : refusal_line r < 10 ^ 13
  pub place : refusal_place r < 10 ^ 13

-- 61 bytes hold its line
pub refused_short : (r : Refusal) → IsBrief r → length (line_of (refused_words r) []) ≤ 61
refused_short r b =
    let number = number_short (refusal_number r) b.number in
    let line = number_short (refusal_line r) b.line in
    let place = number_short (refusal_place r) b.place in
    omega (arith, line_short (refused_words r) (omega arith, (number, (line, (place, tt)))))

-- of a faulty file
pub faulty_brief : (bs : List ℕ) (e : Fault) → order_file_of bs ≡ Err e → IsBrief (NoFrame (Faulty e))
faulty_brief bs e bad = record { number = few e; line = omega (arith, faulty_line_most bs e bad); place = omega arith }
  where
    few : (e : Fault) → fault_number e < 10 ^ 13
    few (Layout n) = omega arith
    few (Count n) = omega arith
    few (Surplus n) = omega arith

-- a card's denial names one of its twelve fields
module _ (card : Card) where
  -- the first of some fields that are among the twelve
  field_few :
      (fs : List (ℕ × Bool)) (k : ℕ) → AllByRecursion (λ (x : ℕ × Bool). x.0 ≤ 12) fs → first_outside fs ≡ Some k → k ≤ 12
  field_few [] k few e = cc
  field_few ((n, true) ∷ fs) k few e = field_few fs k few.1 e
  field_few ((n, false) ∷ fs) k few e = let same : n ≡ k = cc in omega (arith, same, few.0)

  -- those that are tested are among them
  twelve : AllByRecursion (λ (x : ℕ × Bool). x.0 ≤ 12) (fields card)
  twelve =
      let few : (k : ℕ) → nat_le k 12 ≡ true → k ≤ 12 = λ k e. leb-true k 12 e in
      (few 3 refl, (few 4 refl, (few 5 refl, (few 6 refl, (few 7 refl, (few 8 refl, (few 9 refl, (few 11 refl, (few 12 refl, tt)))))))))

  -- by the first field outside its range, and whether the period is above Tb
  placed :
      (o : Option ℕ) (above : Bool) (d : CardDenial) → ((k : ℕ) → o ≡ Some k → k ≤ 12)
      → out_of_range o (cond above (Some PeriodAboveTb) None) ≡ Some d → card_place d ≤ 12
  placed None true d few e = let same : PeriodAboveTb ≡ d = cc in subst (λ (x : CardDenial). card_place x ≤ 12) same (omega arith)
  placed None false d few e = cc
  placed (Some k) above d few e =
      let same : FieldOutOfRange k ≡ d = cc in
      subst (λ (x : CardDenial). card_place x ≤ 12) same (few k refl)

  -- so is the field that a denial names
  card_placed : (d : CardDenial) → card_denial card ≡ Some d → card_place d ≤ 12
  card_placed d e =
      placed (first_outside (fields card)) (is_above card.tb card.period) d (λ k h. field_few (fields card) k twelve h) e

-- the refusals of a file whose records fit
module _ (f : Filed) (fits : Fits f) where
  -- at most one kit
  few_kits : kits f ≤ 1
  few_kits = one_kit f.kit

  -- at most 24 levels
  pub few_levels : length f.levels ≤ 24
  few_levels = omega (arith, fits.level_count, most_few f.kit)

  -- a kit counts at most so many levels as nine digits tell
  few_below : kit_count f.kit < 10 ^ 9
  few_below = counted f.kit fits.kit
    where
      counted : (o : Option KitNumbers) → AllByRecursion KitShort (option_to_list o) → kit_count o < 10 ^ 9
      counted None h = omega arith
      counted (Some n) h = omega (arith, h.0.0)

  -- a level of the file's frame, and the line that lists it
  level_few : (k : ℕ) → k ≤ kit_count f.kit + length f.levels → k < 10 ^ 13
  level_few k within = omega (arith, few_below, few_levels)

  level_line_few : (k : ℕ) → k ≤ kit_count f.kit + length f.levels → level_line f (k - kit_count f.kit) < 10 ^ 13
  level_line_few k within = omega (arith, few_kits, few_levels)

  -- of a frame's denial
  pub frame_brief : (d : FrameDenial) → Located f d → IsBrief (NoFrame (frame_refusal f d))
  frame_brief (TooManyLevels k) p = record { number = omega arith; line = level_line_few k p.within; place = level_few k p.within }
  frame_brief (OutOfRange k) p = record { number = omega arith; line = level_line_few k p.within; place = level_few k p.within }
  frame_brief (TooHigh k) p = record { number = omega arith; line = level_line_few k p.within; place = level_few k p.within }
  frame_brief KitOutOfRange p = record { number = omega arith; line = omega arith; place = omega arith }
  frame_brief KitTooHigh p = record { number = omega arith; line = omega arith; place = omega arith }

  -- of a load of the file, which names a level of at most nine digits
  load_brief :
      (n : ℕ) (lines : List Line) (x : Line) (d : OrderDenial) → n ≤ 64 → LoadShort x
      → load_denial (frame_of f) lines x ≡ Some d → IsBrief (NoLoad d (load_line f n))
  load_brief n lines x d few short e = record {
    number = numbered d;
    line = omega (arith, few_kits, few_levels, few);
    place = placed d (loads_when (frame_of f) lines x (Err d) e);
  }
    where
      numbered : (d : OrderDenial) → denial_number d < 10 ^ 13
      numbered (NoSuchLevel k) = omega arith
      numbered (LoadOutOfRange k) = omega arith
      numbered (WeightOutOfRange k) = omega arith
      numbered (NoRoom k) = omega arith
      numbered NothingToStrike = omega arith

      placed : (d : OrderDenial) → LoadDeniedWhen (frame_of f) lines x d → denial_place d < 10 ^ 13
      placed (NoSuchLevel k) h = omega (arith, short.0, h.0)
      placed (LoadOutOfRange k) h = omega (arith, short.0, h.0)
      placed (WeightOutOfRange k) h = omega (arith, short.0, h.0)
      placed (NoRoom k) h = omega (arith, short.0, h.0)
      placed NothingToStrike h = omega arith

  -- of the first load that is denied
  pub loads_brief :
      (lines left : List Line) (r : Refusal) → length lines + length left ≤ 64 → AllByRecursion LoadShort left
      → load_refusal f lines left ≡ Some r → IsBrief r
  loads_brief lines [] r few short e = cc
  loads_brief lines (x ∷ left) r few short e =
      let later = loads_brief (lines ++ x ∷ []) left r (omega (arith, few, length-append lines (x ∷ []))) short.1 in
      cases (load_denial (frame_of f) lines x) refl later e
    where
      cases :
          (o : Option OrderDenial) → load_denial (frame_of f) lines x ≡ o
          → (load_refusal f (lines ++ x ∷ []) left ≡ Some r → IsBrief r)
          → or_else (on_line (load_line f (length lines + 1)) o) (load_refusal f (lines ++ x ∷ []) left) ≡ Some r → IsBrief r
      cases None is later h = later h
      cases (Some d) is later h =
          let same : NoLoad d (load_line f (length lines + 1)) ≡ r = cc in
          subst IsBrief same (load_brief (length lines + 1) lines x d (omega (arith, few)) short.0 is)

  -- of a card's denial
  card_brief : (d : CardDenial) → card_denial f.card ≡ Some d → IsBrief (NoSheet (BadCard d) (card_line f))
  card_brief d e = record {
    number = numbered d;
    line = omega (arith, few_kits, few_levels, fits.load_count);
    place = omega (arith, card_placed f.card d e);
  }
    where
      numbered : (d : CardDenial) → card_number d < 10 ^ 13
      numbered (FieldOutOfRange k) = omega arith
      numbered PeriodAboveTb = omega arith

  -- a denial as it is told of the file
  abbrev Told : ShearDenial → Type 0
  Told d = IsBrief (NoSheet d (shear_line f d))

  -- of a card's denial, or for want of levels
  shears_denied : (n : ℕ) (d : ShearDenial) → shear_denial n f.card ≡ Some d → Told d
  shears_denied n d e =
      elim (one_some (n == 0) NoLevels d (by_card (card_denial f.card)) e) [
        | inl (t, same) ↦
            let none : IsBrief (NoSheet NoLevels 0) = record { number = omega arith; line = omega arith; place = omega arith } in
            subst Told same none
        | inr (t, later) ↦ cases (card_denial f.card) refl later
      ]
    where
      cases : (o : Option CardDenial) → card_denial f.card ≡ o → by_card o ≡ Some d → Told d
      cases None is h = cc
      cases (Some c) is h = let same : BadCard c ≡ d = cc in subst Told same (card_brief c is)

  -- of whatever stands against the shears
  pub shears_brief : (n : ℕ) (r : Refusal) → on_card f (shear_denial n f.card) ≡ Some r → IsBrief r
  shears_brief n r e = cases (shear_denial n f.card) refl e
    where
      cases : (o : Option ShearDenial) → shear_denial n f.card ≡ o → on_card f o ≡ Some r → IsBrief r
      cases None is h = cc
      cases (Some d) is h = let same : NoSheet d (shear_line f d) ≡ r = cc in subst IsBrief same (shears_denied n d is)
