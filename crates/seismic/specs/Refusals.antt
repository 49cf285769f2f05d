-- When there are no shears and no sheet.
use Rattle.std.specs.Prelude.{ℕ, ◌==◌, cond, Some, None, Option, nat_lt}
use Rattle.records.specs.declared.card.Card.{Card}
use Rattle.cards.specs.declared.denial.CardDenial.{CardDenial}
use Rattle.cards.specs.Denials.{card_denial}
use Rattle.seismic.specs.declared.denial.ShearDenial.{ShearDenial}
use Rattle.seismic.specs.declared.denial.ShearDenial.TheVariants.{NoLevels, BadCard}
use Rattle.seismic.specs.declared.denial.SheetDenial.{SheetDenial}
use Rattle.seismic.specs.declared.denial.SheetDenial.TheVariants.{NoShears, TooFewRows}

abbrev pub by_card : Option CardDenial → Option ShearDenial
by_card None = None
by_card (Some d) = Some (BadCard d)

-- why the storeys of so many levels have no shears: no levels goes before the card
abbrev pub shear_denial : ℕ → Card → Option ShearDenial
shear_denial levels card = cond (levels == 0) (Some NoLevels) (by_card (card_denial card))

-- why there is no sheet, with rows for so many levels
abbrev pub rows_denial : Option ShearDenial → ℕ → ℕ → Option SheetDenial
rows_denial (Some d) levels room = Some (NoShears d)
rows_denial None levels room = cond (nat_lt room levels) (Some (TooFewRows levels)) None

abbrev pub sheet_denial : ℕ → Card → ℕ → Option SheetDenial
sheet_denial levels card room = rows_denial (shear_denial levels card) levels room
