use Rattle.std.proofs.Common.{◌∙◌}
use Rattle.frames.specs.Places.{at_found}
use Rattle.frames.proofs.listed.level_of.Goals as goal

pub returns : goal.returns
returns c =
    let s = c.in_ok-checked_sub.ensures in
    c.copied.ensures ∙ at_found c.args.levels.now c.args.k c.in_ok-checked_sub.field-0 c.get.result s.0 s.1 c.get.ensures.lookup
