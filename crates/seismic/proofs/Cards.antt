-- What a sheet needs to know of a sound card.
use Rattle.std.proofs.Common.{◌≡◌, ℕ, ◌*◌, ◌^◌, ◌<◌, ◌≤◌, true, false, is_some, arith}
use Rattle.std.proofs.Math.Nat.{mul-le-mul}
use Rattle.std.proofs.lemmas.Bool.{leb-true, and_parts}
use Rattle.records.specs.declared.card.Card.{Card}
use Rattle.records.specs.declared.level.Level.{Level}
use Rattle.records.specs.Ranges.{level_fits}
use Rattle.cards.specs.Denials.{card_denial}
use Rattle.cards.proofs.Fields.{field_bounds}

-- a storey's height
short : (l : Level) → level_fits l ≡ true → l.height.0 ≤ 60
short l fits = leb-true l.height.0 60 (and_parts _ _ (and_parts _ _ (and_parts _ _ fits).1).0).1

-- what a storey resists fits 64 bits
pub resistance_fits :
    (card : Card) (l : Level) (shear : ℕ) → is_some (card_denial card) ≡ false → level_fits l ≡ true → shear ≤ 12000000
    → 8 * (card.load_factor * (shear * l.height.0)) < 2 ^ 64
resistance_fits card l shear ok fits low = omega (arith, mul-le-mul (field_bounds card ok).load_factor_most (mul-le-mul low (short l fits)))
