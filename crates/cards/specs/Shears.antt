-- The base shear: the ordinate of the spectrum, by the weight, over Q'.
use Rattle.std.specs.Prelude.{ℕ, ◌-◌, ◌*◌, cond, Some, None, Option, nat_lt}
use Rattle.std.specs.Int.{div_ceil}
use Rattle.records.specs.declared.card.Card.{Card}
use Rattle.records.specs.declared.card.Group.{Group}
use Rattle.records.specs.declared.card.Group.TheVariants.{B, A, AA}
use Rattle.spreading.specs.Ceilings.{IsCeiling}
use Rattle.cards.specs.Fractions.{Fraction, over, plus, times, divided_by, at_least_one}

-- the period, where it is known and below Ta
abbrev pub early : ℕ → Option ℕ → Option ℕ
early ta None = None
early ta (Some t) = cond (nat_lt t ta) (Some t) None

-- the ordinate of the spectrum: c, or a0 + (c − a0) × T / Ta at an early T
abbrev pub spectrum : Card → Option ℕ → Fraction
spectrum card None = over card.c 1000
spectrum card (Some t) = plus (over card.a0 1000) (times (over (card.c - card.a0) 1000) (over t card.ta))

abbrev pub importance : Group → Fraction
importance B = over 1 1
importance A = over 3 2
importance AA = over 7 4

-- a, the ordinate as the group takes it
abbrev pub ordinate : Card → Fraction
ordinate card = times (spectrum card (early card.ta card.period)) (importance card.group)

-- Q in tenths, of a group and the card's Q: it is 1 in group AA
abbrev pub factor_in : Group → ℕ → ℕ
factor_in B q = q
factor_in A q = q
factor_in AA q = 10

-- Q in tenths
abbrev pub factor : Card → ℕ
factor card = factor_in card.group card.q

-- Q' before its correction: Q, or 1 + (T / Ta) × (Q − 1) at an early T
abbrev pub softening : Card → Option ℕ → Fraction
softening card None = over (factor card) 10
softening card (Some t) = plus (over 1 1) (times (over t card.ta) (over (factor card - 10) 10))

-- Q', corrected, and then at least 1. In group AA, where Q is 1, it is 1
abbrev pub reduction : Card → Fraction
reduction card = at_least_one (times (softening card (early card.ta card.period)) (over card.correction 100))

-- W0 in kgf, of a weight in tenths of a tonne
abbrev pub kgf : ℕ → Fraction
kgf weight = over (100 * weight) 1

-- a × W0 / Q'
abbrev pub exact_shear : Card → ℕ → Fraction
exact_shear card weight = divided_by (times (ordinate card) (kgf weight)) (reduction card)

-- V0: v is the smallest whole number of kgf that is not below a × W0 / Q'
abbrev pub IsBaseShear : Card → ℕ → ℕ → Type 0
IsBaseShear card weight v = IsCeiling (exact_shear card weight).num (exact_shear card weight).den v

-- that number
abbrev pub base_shear : Card → ℕ → ℕ
base_shear card weight = div_ceil (exact_shear card weight).num (exact_shear card weight).den
