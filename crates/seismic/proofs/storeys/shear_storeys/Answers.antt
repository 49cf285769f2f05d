use Rattle.std.proofs.Common.{rules, subst}
use Rattle.seismic.specs.Bounds.{AreBounded}
use Rattle.seismic.proofs.Bounded.{sheared_bounded}
use Rattle.seismic.proofs.storeys.shear_storeys.Goals as goal

pub returns-clause-bounded : goal.returns-clause-bounded
returns-clause-bounded g c =
    let ls = g.F.Frame.list c.args.frame.now in
    subst AreBounded (search rules) (sheared_bounded ls c.base_shear-shear.result (search rules) c.requires.some (g.met.F.Frame.sound c.args.frame.now))
