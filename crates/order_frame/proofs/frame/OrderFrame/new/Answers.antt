use Rattle.order_frame.proofs.Reasons.{reasoned}
use Rattle.order_frame.proofs.Told.{told}
use Rattle.order_frame.proofs.frame.OrderFrame.new.Goals as goal

pub returns-clause-reason : goal.returns-clause-reason
returns-clause-reason c = reasoned c.args.kit c.args.levels.now c.make.result c.make.ensures

pub returns-clause-only : goal.returns-clause-only
returns-clause-only c = told c.args.kit c.args.levels.now c.make.result c.make.ensures
