use Rattle.std.proofs.Common.{◌≡◌, ◌^◌, ◌<◌, sum_by, take}
use Rattle.spreading.proofs.spread.total.Given as goal

abbrev pub invariant-loop-record : goal.invariant-loop-record
invariant-loop-record g l = (l.sum < 2 ^ 64) × (l.sum ≡ sum_by g.R.Share.share_of (take l.record-index l.records))
