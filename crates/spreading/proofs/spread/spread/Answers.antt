use Rattle.std.proofs.Common.{◌<◌, rules, sum_by, refl}
use Rattle.spreading.proofs.Laws.{is_spread}
use Rattle.spreading.proofs.spread.spread.Goals as goal

-- spreading was not refused, so there are shares; and `spread_by` makes what the law speaks of
pub returns-clause-law : goal.returns-clause-law
returns-clause-law g c =
    let some : 0 < sum_by g.R.Share.share_of c.args.records.now = search rules in
    is_spread _ _ _ g.met.R.Share.keeps_part c.args.amount _ some c.args.records.now _ refl c.spread_by.ensures
