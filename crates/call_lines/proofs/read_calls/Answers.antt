use Rattle.call_lines.specs.Entries.{counted}
use Rattle.call_lines.proofs.Texts.{exactly}
use Rattle.call_lines.proofs.read_calls.Goals as goal

pub returns-clause-exact : goal.returns-clause-exact
returns-clause-exact c = exactly c.args.card c.args.first c.read_text.result (counted c.args.text.now) c.read_text.ensures
