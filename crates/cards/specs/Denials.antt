-- When a card is denied, and the number and place of each denial.
use Rattle.std.specs.Prelude.{ℕ, Bool, false, cond, List, [], ◌∷◌, Some, None, Option, nat_lt}
use Rattle.records.specs.declared.card.Card.{Card}
use Rattle.cards.specs.declared.denial.CardDenial.{CardDenial}
use Rattle.cards.specs.declared.denial.CardDenial.TheVariants.{OutOfRange, PeriodAboveTb}
use Rattle.cards.specs.Cards.{fields}

-- the first field outside its range, of fields with whether they lie within it
abbrev pub first_outside : List (ℕ × Bool) → Option ℕ
first_outside [] = None
first_outside (f ∷ fs) = cond f.1 (first_outside fs) (Some f.0)

-- whether a period is known and above Tb
abbrev pub is_above : ℕ → Option ℕ → Bool
is_above tb None = false
is_above tb (Some t) = nat_lt tb t

abbrev pub out_of_range : Option ℕ → Option CardDenial → Option CardDenial
out_of_range None later = later
out_of_range (Some field) later = Some (OutOfRange field)

-- a field outside its range goes before a period above Tb
abbrev pub card_denial : Card → Option CardDenial
card_denial card = out_of_range (first_outside (fields card)) (cond (is_above card.tb card.period) (Some PeriodAboveTb) None)

abbrev pub denial_number : CardDenial → ℕ
denial_number (OutOfRange field) = 32
denial_number PeriodAboveTb = 33

-- the field: the period is field 7
abbrev pub denial_place : CardDenial → ℕ
denial_place (OutOfRange field) = field
denial_place PeriodAboveTb = 7
