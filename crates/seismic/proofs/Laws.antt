-- The sheet of a sound card and a sound list of levels is lawful.
use Rattle.std.proofs.Common.{◌≡◌, ◌<◌, false, List, length, is_some, refl, ◌∙◌, subst}
use Rattle.records.specs.declared.card.Card.{Card}
use Rattle.records.specs.declared.level.Level.{Level}
use Rattle.cards.specs.Denials.{card_denial}
use Rattle.cards.specs.Shears.{IsBaseShear}
use Rattle.cards.proofs.Says.{good_card}
use Rattle.cards.proofs.Shears.{shear_exact, shear_value}
use Rattle.frames.specs.Levels.{Sound, weight_of}
use Rattle.frames.specs.Lists.{limits}
use Rattle.seismic.specs.Laws.{Lawful}
use Rattle.seismic.specs.Sheets.{sheet_of, sheet_rows}
use Rattle.seismic.specs.Storeys.{base_of, sheared}
use Rattle.seismic.specs.Verdicts.{verdict_of}
use Rattle.seismic.proofs.Judgements.{well_judged}
use Rattle.seismic.proofs.RowLaws.{row_stands, shear_near}
use Rattle.seismic.proofs.RowPlaces.{forces_from, row_a_level}
use Rattle.seismic.proofs.StoreyShears.{sheared_spread}

pub lawful :
    (card : Card) (ls : List Level) → is_some (card_denial card) ≡ false → Sound ls → 0 < length ls
    → Lawful card ls (sheet_of card ls) (sheet_rows card ls)
lawful card ls ok sound some =
    let v = base_of card ls in
    let fit = (limits ls sound).each in
    let spread = sheared_spread v ls some fit in
    record {
      levels = refl;
      some = some;
      good = good_card card ok;
      weight = refl;
      base_shear = subst (IsBaseShear card (weight_of ls)) (shear_value card (weight_of ls) ok) (shear_exact card (weight_of ls) ok);
      row_a_level = row_a_level card v ls;
      forces_add_up = forces_from card (sheared v ls) 0 ∙ spread.parts_add_up;
      shears_near_exact_share = shear_near card v ls some fit;
      rows_stand = row_stands card v ls some fit;
      judged = well_judged card v ls (verdict_of card (sheared v ls)) refl;
    }
