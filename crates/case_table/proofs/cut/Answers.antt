use Rattle.case_table.proofs.Cuts.{cut_at}
use Rattle.case_table.proofs.cut.Goals as goal

pub returns : goal.returns
returns c = cut_at c.args.mark.now c.args.text.now c.split_once.result c.split_once.ensures.cases
