use Rattle.cards.proofs.Says.{good_card}
use Rattle.seismic.proofs.OnAxes.{as_in_row, near_share, stiffness_stays}
use Rattle.seismic.proofs.axes.give.Goals as goal

pub returns-clause-law : goal.returns-clause-law
returns-clause-law g c =
    let card = c.args.card.now in
    let ls = g.F.Frame.list c.args.frame.now in
    let v = c.shear_of-shear.result in
    let is = c.shear_of-shear.ensures in
    record {
      good = good_card card.card card.ok;
      storey_from = c.requires.from;
      storey_to = c.requires.to;
      axes_from = c.requires.count.0;
      axes_to = c.requires.count.1;
      axes_fit = c.requires.each;
      as_in_the_sheet = as_in_row card.card ls c.args.storey v is;
      near_exact_share = near_share card.card ls c.args.storey v card.ok (g.met.F.Frame.sound c.args.frame.now) c.requires.from c.requires.to is;
      spread = c.spread_out.ensures.law;
      stiffness_stays = stiffness_stays v c.args.axes.now c.spread_out.new.records c.spread_out.ensures.answer;
    }
