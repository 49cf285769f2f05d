-- The ranges of a card's fields.
use Rattle.std.specs.Prelude.{ℕ, Bool, true, ◌==◌, ◌||◌, List, [], ◌∷◌, Some, None, Option}
use Rattle.records.specs.declared.card.Card.{Card}
use Rattle.records.specs.Ranges.{from_to}

-- hundredths of a second, or unknown
abbrev pub period_fits : Option ℕ → Bool
period_fits None = true
period_fits (Some t) = from_to 1 1000 t

-- the behaviour factors that there are, in tenths
abbrev pub is_factor : ℕ → Bool
is_factor q = q == 10 || (q == 15 || (q == 20 || (q == 30 || q == 40)))

-- each field with whether it lies within its range; fields 1, 2 and 10 are marks, which cannot be wrong
abbrev pub fields : Card → List (ℕ × Bool)
fields card =
    (3, from_to 1 570 card.c) ∷ (4, from_to 1 card.c card.a0) ∷ (5, from_to 1 1000 card.ta) ∷ (6, from_to card.ta 1000 card.tb)
    ∷ (7, period_fits card.period) ∷ (8, is_factor card.q) ∷ (9, from_to 50 100 card.correction)
    ∷ (11, from_to 100 200 card.load_factor) ∷ (12, from_to 0 10000 card.gap) ∷ []
