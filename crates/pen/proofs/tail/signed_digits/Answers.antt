use Rattle.std.proofs.Common.{length, ap, arith, to_z-of_z}
use Rattle.pen.proofs.Digits.{absolute_digits, minus_before}
use Rattle.itoa.proofs.Decimal.{minus_first}
use Rattle.pen.proofs.tail.signed_digits.Goals as goal

pub digits-start-requires-clause-room : goal.digits-start-requires-clause-room
digits-start-requires-clause-room c = omega (arith, absolute_digits c.unsigned_abs.result c.unsigned_abs.ensures.bound)

pub overflow_sub-bytes : goal.overflow_sub-bytes
overflow_sub-bytes c = omega (arith, absolute_digits c.unsigned_abs.result c.unsigned_abs.ensures.bound)

pub overflow_sub-result : goal.overflow_sub-result
overflow_sub-result c = omega (arith, absolute_digits c.unsigned_abs.result c.unsigned_abs.ensures.bound)

pub returns-clause-start : goal.returns-clause-start
returns-clause-start c =
    let short = absolute_digits c.unsigned_abs.result c.unsigned_abs.ensures.bound in
    let back = to_z-of_z c.ranges.n in
    let text = minus_first c.args.n (rw back at c.if-n-ge0.false) in
    let start = rw (c.unsigned_abs.ensures.value, back) at c.digits-start.ensures.start in
    let short = rw (c.unsigned_abs.ensures.value, back) at short in
    omega (arith, ap length text, start, short)

pub returns-clause-written : goal.returns-clause-written
returns-clause-written c =
    let short = absolute_digits c.unsigned_abs.result c.unsigned_abs.ensures.bound in
    let back = to_z-of_z c.ranges.n in
    minus_before c.args.n c.digits-start.result c.digits-start.new.bytes _ (rw back at c.if-n-ge0.false) (omega arith) (omega arith)
    (rw (c.unsigned_abs.ensures.value, back) at c.digits-start.ensures.written)
