-- What the check of a card says of it.
use Rattle.std.proofs.Common.{◌≡◌, true, false, cond, is_some, Some, None, Err, Option, ℕ, refl, arith}
use Rattle.std.proofs.lemmas.Bool.{cond_both, ltb-true, ltb-false}
use Rattle.records.specs.declared.card.Card.{Card}
use Rattle.cards.specs.declared.denial.CardDenial.{CardDenial}
use Rattle.cards.specs.declared.denial.CardDenial.TheVariants.{PeriodAboveTb}
use Rattle.cards.specs.Cards.{fields}
use Rattle.cards.specs.Denials.{card_denial, first_outside, is_above, out_of_range}
use Rattle.cards.specs.Fits.{CheckedWhen, FirstUnfit, GoodCard, IsAbove}
use Rattle.cards.proofs.Fits.{field_law}

-- a period that is found above Tb is above it
found_above : (tb : ℕ) (o : Option ℕ) → is_above tb o ≡ true → IsAbove tb o
found_above tb None e = cc
found_above tb (Some t) e = ltb-true tb t e

-- one that is not found so is not
not_above : (tb : ℕ) (o : Option ℕ) → is_above tb o ≡ false → ¬ IsAbove tb o
not_above tb None e = λ h. h
not_above tb (Some t) e = λ h. absurd (omega (arith, ltb-false tb t e))

-- what the check of a card says: it is good, or this denial comes for its reason
abbrev pub CardSays : Card → Option CardDenial → Type 0
CardSays card None = GoodCard card
CardSays card (Some d) = CheckedWhen card (Err d)

-- by the first field that does not fit
by_first :
    (card : Card) (o : Option ℕ) → FirstUnfit card o
    → CardSays card (out_of_range o (cond (is_above card.tb card.period) (Some PeriodAboveTb) None))
by_first card (Some k) first = first
by_first card None all =
    cond_both (is_above card.tb card.period) (Some PeriodAboveTb) None (CardSays card)
    (λ t. (all, found_above card.tb card.period t)) (λ f. (all, not_above card.tb card.period f))

-- so whatever the check answers says so
pub card_says : (card : Card) → CardSays card (card_denial card)
card_says card = by_first card (first_outside (fields card)) (field_law card (first_outside (fields card)) refl)

-- a card that is not denied is good, by what its check says
good_where_none : (card : Card) (o : Option CardDenial) → CardSays card o → is_some o ≡ false → GoodCard card
good_where_none card None good e = good
good_where_none card (Some d) denied e = cc

pub good_card : (card : Card) → is_some (card_denial card) ≡ false → GoodCard card
good_card card ok = good_where_none card (card_denial card) (card_says card) ok
