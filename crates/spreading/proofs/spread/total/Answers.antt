use Rattle.std.proofs.Common.{◌≡◌, ◌+◌, ◌^◌, ◌<◌, ◌≤◌, sum_by, Some, None, sym, ap, ◌∙◌, take_all, arith}
use Rattle.std.proofs.lemmas.Bool.{cond-true, cond-false, lt-ltb, le-ltb}
use Rattle.std.proofs.lemmas.List.Sums.{sum_by_more, sum_by-take-le}
use Rattle.spreading.specs.Refusals.{fits}
use Rattle.spreading.proofs.spread.total.Goals as goal

-- the loop has added all shares, and their sum fits
pub returns : goal.returns
returns g c =
    let share = g.R.Share.share_of in
    let xs = c.args.records.now in
    let all : c.loop-record.sum ≡ sum_by share xs =
    c.loop-record.invariant.1 ∙ ap (sum_by share) (take_all _ xs c.loop-record-test.false) in
    let narrow : sum_by share xs < 2 ^ 64 = omega (arith, all, c.loop-record.invariant.0) in
    ap Some all ∙ sym (cond-true (fits (sum_by share xs)) _ None (lt-ltb _ _ narrow))

-- where one more share does not fit, neither does the total
pub returns-in_err-sum : goal.returns-in_err-sum
returns-in_err-sum g c =
    let share = g.R.Share.share_of in
    let xs = c.args.records.now in
    let i = c.loop-record.record-index in
    let more = sum_by_more share xs i c.record-item.result c.loop-record-test.true in
    let read = c.share.ensures ∙ ap share c.record-item.is in
    let within = sum_by-take-le share xs (i + 1) in
    let wide : 2 ^ 64 ≤ sum_by share xs =
    omega (arith, c.loop-record.invariant.1, more, read, within, c.in_err-sum.ensures) in
    c.from_residual.ensures ∙ sym (cond-false (fits (sum_by share xs)) (Some (sum_by share xs)) None (le-ltb _ _ wide))
