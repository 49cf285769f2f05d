use Rattle.case_table.proofs.Cuts.{after_colon}
use Rattle.case_table.proofs.case_of.Goals as goal

pub returns : goal.returns
returns c = after_colon c.args.line.now c.in_ok-_name._name.now c.in_ok-_name.case.now c.cut-2.result c.in_ok-_name.ensures c.cut-2.ensures
