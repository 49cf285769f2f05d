use Rattle.std.proofs.Common.{◌+◌, vec_items, sym, subst, arith}
use Rattle.order_file.specs.Reading.{place}
use Rattle.order_file.proofs.Exits.{at_fault}
use Rattle.order_file.proofs.Many.{Going, faulty, one_more}
use Rattle.order_file.proofs.reader.Reader.records.Goals as goal

pub returns-in_err-record-clause-read : goal.returns-in_err-record-clause-read
returns-in_err-record-clause-read g c = at_fault vec_items c.from_residual-in_err-record.result _ _ c.from_residual-in_err-record.ensures.1 (faulty c.loop.invariant.0 _ c.loop-test.true c.in_err-record.ensures)

pub loop-preserved : goal.loop-preserved
loop-preserved g c = (
  subst (λ xs. Going g.R.Record.layout c.args.count (place c.args.self.now) (c.loop.counter + 1) xs (place c.record.new.self))
      (sym c.in_ok-push.ensures.items)
      (one_more c.loop.invariant.0 c.in_ok-record.field-0 (place c.record.new.self) c.loop-test.true c.in_ok-record.ensures),
  omega (arith, c.in_ok-push.ensures.len, c.loop.invariant.1),
)
