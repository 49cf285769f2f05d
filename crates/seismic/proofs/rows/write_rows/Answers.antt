use Rattle.std.proofs.Common.{arith}
use Rattle.seismic.proofs.Walks.{meets, walked_more, all_rows, all_judged}
use Rattle.seismic.proofs.rows.write_rows.Goals as goal

pub pass-response-requires : goal.pass-response-requires
pass-response-requires c = meets c.loop-i.invariant c.requires.bounded (omega arith) _

pub loop-i-preserved : goal.loop-i-preserved
loop-i-preserved c =
    walked_more c.loop-i.invariant (omega arith) (omega arith) _ c.pass-response.result c.pass-response.ensures.response c.pass-response.ensures.bounded
    c.pass-response.new.self c.pass-response.ensures.walk c.row.result c.row.ensures c.first_broken.result c.first_broken.ensures c.or_at-verdict.result c.or_at-verdict.ensures

pub returns-clause-rows : goal.returns-clause-rows
returns-clause-rows c = all_rows c.loop-i.invariant (omega arith) (omega arith)

pub returns-clause-verdict : goal.returns-clause-verdict
returns-clause-verdict c = all_judged c.loop-i.invariant (omega arith)
