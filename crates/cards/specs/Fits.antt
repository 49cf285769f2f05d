-- What each answer of a card's check says of its fields, in plain inequalities.
use Rattle.std.specs.Prelude.{◌≡◌, ℕ, ◌<◌, ◌≤◌, ◌⊎◌, Some, None, Option, Ok, Err, Result}
use Rattle.records.specs.declared.card.Card.{Card}
use Rattle.cards.specs.declared.denial.CardDenial.{CardDenial}
use Rattle.cards.specs.declared.denial.CardDenial.TheVariants.{OutOfRange, PeriodAboveTb}
use Rattle.cards.specs.declared.sound_card.SoundCard.{SoundCard}

-- a period is unknown, or within its range
abbrev pub IsPeriod : Option ℕ → Type 0
IsPeriod None = Unit {0}
IsPeriod (Some t) = (1 ≤ t) × (t ≤ 1000)

-- field k of a card lies within its range; the marks, fields 1, 2 and 10, always do
pub record FieldFits (card : Card) (k : ℕ) : Type 0 where
  pub c : k ≡ 3 → (1 ≤ card.c) × (card.c ≤ 570)
  pub a0 : k ≡ 4 → (1 ≤ card.a0) × (card.a0 ≤ card.c)
  pub ta : k ≡ 5 → (1 ≤ card.ta) × (card.ta ≤ 1000)
  pub tb : k ≡ 6 → (card.ta ≤ card.tb) × (card.tb ≤ 1000)
  pub period : k ≡ 7 → IsPeriod card.period
  pub q : k ≡ 8 → (card.q ≡ 10) ⊎ (card.q ≡ 15) ⊎ (card.q ≡ 20) ⊎ (card.q ≡ 30) ⊎ (card.q ≡ 40)
  pub correction : k ≡ 9 → (50 ≤ card.correction) × (card.correction ≤ 100)
  pub load_factor : k ≡ 11 → (100 ≤ card.load_factor) × (card.load_factor ≤ 200)
  pub gap : k ≡ 12 → card.gap ≤ 10000

-- each field fits
abbrev pub AllFit : Card → Type 0
AllFit card = (k : ℕ) → FieldFits card k

-- field k does not fit, and each field before it does
abbrev pub IsFirstUnfit : Card → ℕ → Type 0
IsFirstUnfit card k = (¬ FieldFits card k) × ((j : ℕ) → j < k → FieldFits card j)

-- this field is the first that does not fit; where there is none, each fits
abbrev pub FirstUnfit : Card → Option ℕ → Type 0
FirstUnfit card None = AllFit card
FirstUnfit card (Some k) = IsFirstUnfit card k

-- a period is known, and above Tb
abbrev pub IsAbove : ℕ → Option ℕ → Type 0
IsAbove tb None = ⊥
IsAbove tb (Some t) = tb < t

-- nothing is wrong with a card: each field fits, and no known period is above Tb
abbrev pub GoodCard : Card → Type 0
GoodCard card = AllFit card × ¬ IsAbove card.tb card.period

-- what each answer says of the card
abbrev pub CheckedWhen : Card → Result SoundCard CardDenial → Type 0
CheckedWhen card (Ok sound) = GoodCard card
CheckedWhen card (Err (OutOfRange k)) = IsFirstUnfit card k
CheckedWhen card (Err PeriodAboveTb) = AllFit card × IsAbove card.tb card.period
