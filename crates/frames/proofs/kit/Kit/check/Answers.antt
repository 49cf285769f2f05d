use Rattle.std.proofs.Common.{sym}
use Rattle.frames.specs.KitLists.{ranged, kit_alike}
use Rattle.frames.proofs.kit.Kit.check.Goals as goal

pub returns-clause-law : goal.returns-clause-law
returns-clause-law c = kit_alike c.args.numbers.now (ranged c.args.numbers.now (sym c.if-not-is_in_range.ensures)).some
