use Rattle.std.proofs.Common.{sym, subst}
use Rattle.seismic.specs.Laws.{Lawful}
use Rattle.seismic.proofs.Laws.{lawful}
use Rattle.seismic.proofs.sheet.Sheet.filled.Goals as goal

pub returns-clause-law : goal.returns-clause-law
returns-clause-law g c =
    let card = c.args.card.now in
    let ls = g.F.Frame.list c.args.frame.now in
    subst (λ s. Lawful card.card ls s c.worked_out.new.rows) (sym c.worked_out.ensures.sheet)
    (subst (Lawful card.card ls _) (sym c.worked_out.ensures.rows) (lawful card.card ls card.ok (g.met.F.Frame.sound c.args.frame.now) c.requires.some))
