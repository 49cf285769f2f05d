use Rattle.std.proofs.Common.{◌≡◌, ◌*◌, sum_by, take, drop}
use Rattle.std.specs.Int.{div_ceil}
use Rattle.spreading.specs.Spreads.{spread_from}
use Rattle.spreading.proofs.spread.spread_by.Given as goal

abbrev pub invariant-loop-i : goal.invariant-loop-i
invariant-loop-i g l = record {
  summed : l.shares ≡ sum_by g.R.Share.share_of (drop l.i l.initial.records);
  last : l.above ≡ div_ceil (l.amount * l.shares) l.total;
  before : take l.i l.records ≡ take l.i l.initial.records;
  after : drop l.i l.records ≡ spread_from g.R.Share.share_of g.R.Share.taken l.amount l.total (drop l.i l.initial.records);
}
