-- What a denial says of the levels, the card and the rows.
use Rattle.std.proofs.Common.{◌≡◌, ℕ, ◌≤◌, ◌==◌, nat_lt, Some, None, Option, refl, subst, arith}
use Rattle.std.proofs.lemmas.Bool.{cond_both, eqb-true, ltb-true}
use Rattle.std.proofs.lemmas.Bool.Decides.{nat_tests}
use Rattle.records.specs.declared.card.Card.{Card}
use Rattle.cards.specs.declared.denial.CardDenial.{CardDenial}
use Rattle.cards.specs.Denials.{card_denial}
use Rattle.cards.proofs.Says.{card_says, CardSays}
use Rattle.seismic.specs.declared.denial.ShearDenial.{ShearDenial}
use Rattle.seismic.specs.declared.denial.ShearDenial.TheVariants.{NoLevels, BadCard}
use Rattle.seismic.specs.declared.denial.SheetDenial.{SheetDenial}
use Rattle.seismic.specs.declared.denial.SheetDenial.TheVariants.{NoShears, TooFewRows}
use Rattle.seismic.specs.Laws.{DeniedWhen}
use Rattle.seismic.specs.Refusals.{by_card, rows_denial, sheet_denial}

-- where there are levels: the card, or too few rows
card_denied :
    (card : Card) (levels room : ℕ) (d : SheetDenial) → 1 ≤ levels → (o : Option CardDenial) → CardSays card o
    → rows_denial (by_card o) levels room ≡ Some d → DeniedWhen card levels room d
card_denied card levels room d some (Some bad) says e =
    let same : NoShears (BadCard bad) ≡ d = cc in subst (DeniedWhen card levels room) same (some, says)
card_denied card levels room d some None good e =
    cond_both (nat_lt room levels) (Some (TooFewRows levels)) None
    (λ (o : Option SheetDenial). o ≡ Some d → DeniedWhen card levels room d)
    (λ short h. let same : TooFewRows levels ≡ d = cc in subst (DeniedWhen card levels room) same (some, good, refl, ltb-true room levels short))
    (λ long h. cc) e

-- whatever stands against a sheet, what its denial says is so
pub denied_when : (levels : ℕ) (card : Card) (room : ℕ) (d : SheetDenial) → sheet_denial levels card room ≡ Some d → DeniedWhen card levels room d
denied_when levels card room d e =
    cond_both (levels == 0) (Some NoLevels) (by_card (card_denial card))
    (λ (o : Option ShearDenial). rows_denial o levels room ≡ Some d → DeniedWhen card levels room d)
    (λ none h. let same : NoShears NoLevels ≡ d = cc in subst (DeniedWhen card levels room) same (eqb-true levels 0 none))
    (λ some h. card_denied card levels room d (grind (arith, nat_tests, some)) (card_denial card) (card_says card) h) e
