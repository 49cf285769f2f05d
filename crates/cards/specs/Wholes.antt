-- The terms of the base shear in whole numbers, each in a unit in which it is one.
use Rattle.std.specs.Prelude.{ℕ, ◌+◌, ◌-◌, ◌*◌, min, max, Some, None, Option}
use Rattle.records.specs.declared.card.Card.{Card}
use Rattle.records.specs.declared.card.Group.{Group}
use Rattle.records.specs.declared.card.Group.TheVariants.{B, A, AA}
use Rattle.cards.specs.Shears.{factor}

-- the period as far as it counts: a period that is unknown or beyond Ta counts as Ta
abbrev pub counted : ℕ → Option ℕ → ℕ
counted ta None = ta
counted ta (Some t) = min t ta

-- quarters by which the group multiplies the ordinate
abbrev pub quarters : Group → ℕ
quarters B = 4
quarters A = 6
quarters AA = 7

-- the ordinate of the spectrum, in units of 1 / (1000 × Ta)
abbrev pub whole_ordinate : Card → ℕ
whole_ordinate card = card.a0 * card.ta + (card.c - card.a0) * counted card.ta card.period

-- Q', corrected and at least 1, in units of 1 / (1000 × Ta)
abbrev pub whole_reduction : Card → ℕ
whole_reduction card = max ((10 * card.ta + (factor card - 10) * counted card.ta card.period) * card.correction) (1000 * card.ta)
