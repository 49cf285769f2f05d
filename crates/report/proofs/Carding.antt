-- What the check of a file's card says, and of its levels.
use Rattle.std.proofs.Common.{◌≡◌, ℕ, zero, suc, ◌≤◌, true, false, cond, ◌==◌, List, [], ◌∷◌, length, Some, None, Err, Option, sym, refl, ap, ◌∙◌, arith}
use Rattle.std.proofs.lemmas.Bool.{cond_both, eqb-true, ltb-true, ltb-false}
use Rattle.records.specs.declared.card.Card.{Card}
use Rattle.records.specs.declared.level.Level.{Level}
use Rattle.cards.specs.declared.denial.CardDenial.{CardDenial}
use Rattle.cards.specs.declared.denial.CardDenial.TheVariants.{OutOfRange, PeriodAboveTb}
use Rattle.cards.specs.Cards.{fields}
use Rattle.cards.specs.Denials.{card_denial, first_outside, is_above, out_of_range}
use Rattle.cards.specs.Fits.{CheckedWhen, FirstUnfit, GoodCard, IsAbove}
use Rattle.cards.proofs.Fits.{field_law}
use Rattle.seismic.specs.declared.denial.ShearDenial.{ShearDenial}
use Rattle.seismic.specs.declared.denial.ShearDenial.TheVariants.{NoLevels, BadCard}
use Rattle.seismic.specs.Refusals.{by_card, shear_denial}
use Rattle.order_file.specs.File.{Filed}
use Rattle.order_file.specs.Lines.{LinedUp, card_line}
use Rattle.orders.proofs.Raising.{raised_length}
use Rattle.report.specs.Laws.{CardBlamed}
use Rattle.report.specs.Reports.{frame_of, levels_of}

-- a period that is found above Tb is above it
found_above : (tb : ℕ) (o : Option ℕ) → is_above tb o ≡ true → IsAbove tb o
found_above tb None e = cc
found_above tb (Some t) e = ltb-true tb t e

-- one that is not found so is not
not_above : (tb : ℕ) (o : Option ℕ) → is_above tb o ≡ false → ¬ IsAbove tb o
not_above tb None e = λ h. h
not_above tb (Some t) e = λ h. absurd (omega (arith, ltb-false tb t e))

-- what the check of a card says: it is good, or this denial comes for its reason
abbrev CardSays : Card → Option CardDenial → Type 0
CardSays card None = GoodCard card
CardSays card (Some d) = CheckedWhen card (Err d)

-- by the first field that does not fit
by_first :
    (card : Card) (o : Option ℕ) → FirstUnfit card o
    → CardSays card (out_of_range o (cond (is_above card.tb card.period) (Some PeriodAboveTb) None))
by_first card (Some k) first = first
by_first card None all =
    cond_both (is_above card.tb card.period) (Some PeriodAboveTb) None (CardSays card)
    (λ t. (all, found_above card.tb card.period t)) (λ f. (all, not_above card.tb card.period f))

-- so whatever the check answers says so
card_says : (card : Card) → CardSays card (card_denial card)
card_says card = by_first card (first_outside (fields card)) (field_law card (first_outside (fields card)) refl)

-- no good card is denied
good_undenied : (card : Card) (d : CardDenial) → GoodCard card → ¬ CheckedWhen card (Err d)
good_undenied card (OutOfRange k) good denied = denied.0 (good.0 k)
good_undenied card PeriodAboveTb good denied = good.1 denied.1

-- so nothing is denied of a good one
none_denied : (card : Card) (o : Option CardDenial) → GoodCard card → CardSays card o → o ≡ None
none_denied card None good says = refl
none_denied card (Some d) good says = absurd (good_undenied card d good says)

-- and its check finds nothing
pub good_card : (card : Card) → GoodCard card → card_denial card ≡ None
good_card card good = none_denied card (card_denial card) good (card_says card)

-- what the judgement of the levels and the card says: there are levels, and the card is good; or one of the two is not so
abbrev pub ShearsSay : Filed → List ℕ → Option ShearDenial → Type 0
ShearsSay f bytes None = (1 ≤ length (frame_of f)) × GoodCard f.card
ShearsSay f bytes (Some NoLevels) = frame_of f ≡ []
ShearsSay f bytes (Some (BadCard d)) = CardBlamed d (card_line f) f bytes

-- by the card, where there are levels
say_card :
    (f : Filed) (bytes : List ℕ) (o : Option CardDenial) → LinedUp f bytes → 1 ≤ length (frame_of f) → CardSays f.card o
    → ShearsSay f bytes (by_card o)
say_card f bytes None lined some says = (some, says)
say_card f bytes (Some d) lined some says = record { line_is = refl; held = lined.card; levels = some; denied = says }

-- a list without elements
empty : (ls : List Level) → length ls ≡ 0 → ls ≡ []
empty [] e = refl
empty (l ∷ ls) e = absurd (omega (arith, e))

-- and one that has some
filled : (n : ℕ) → (n == 0) ≡ false → 1 ≤ n
filled zero e = cc
filled (suc n) e = omega arith

-- of so many levels as the frame has
say_shears :
    (f : Filed) (bytes : List ℕ) (n : ℕ) → LinedUp f bytes → n ≡ length (frame_of f)
    → ShearsSay f bytes (shear_denial n f.card)
say_shears f bytes n lined is =
    cond_both (n == 0) (Some NoLevels) (by_card (card_denial f.card)) (ShearsSay f bytes)
    (λ t. empty (frame_of f) (sym is ∙ eqb-true n 0 t))
    (λ h. say_card f bytes (card_denial f.card) lined (omega (arith, is, filled n h)) (card_says f.card))

-- which are as many with the loads on them
pub shears_say :
    (f : Filed) (bytes : List ℕ) → LinedUp f bytes → ShearsSay f bytes (shear_denial (length (levels_of f)) f.card)
shears_say f bytes lined = say_shears f bytes (length (levels_of f)) lined (raised_length f.loads (frame_of f))

-- where there are levels and a good card, nothing stands against shears
no_denial : (n : ℕ) (card : Card) → 1 ≤ n → card_denial card ≡ None → shear_denial n card ≡ None
no_denial n card some e =
    cond_both (n == 0) (Some NoLevels) (by_card (card_denial card)) (λ (o : Option ShearDenial). o ≡ None)
    (λ t. absurd (omega (arith, some, eqb-true n 0 t))) (λ h. ap by_card e)

-- nor against those of a file with both
pub shears_stand : (f : Filed) → 1 ≤ length (frame_of f) → GoodCard f.card → shear_denial (length (levels_of f)) f.card ≡ None
shears_stand f some good =
    let raised_too : 1 ≤ length (levels_of f) = omega (arith, some, raised_length f.loads (frame_of f)) in
    no_denial (length (levels_of f)) f.card raised_too (good_card f.card good)
