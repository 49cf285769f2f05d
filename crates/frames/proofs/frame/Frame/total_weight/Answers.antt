use Rattle.std.proofs.Common.{◌≡◌, ◌≤◌, length, Some, rules, arith}
use Rattle.frames.specs.Levels.{level_at}
use Rattle.frames.specs.Lists.{limits}
use Rattle.frames.proofs.Passes.{there, pass, pass_within, pass_last}
use Rattle.frames.proofs.frame.Frame.total_weight.Goals as goal

pub unwrap-sum-requires : goal.unwrap-sum-requires
unwrap-sum-requires g c =
    search (rules, c.level.ensures, there _ (g.Self.Frame.list c.args.self.now) c.loop-k.k _ c.loop-k.invariant (omega (arith, c.loop-k-test.true, c.count-k-end.ensures)))

pub overflow_add-sum : goal.overflow_add-sum
overflow_add-sum g c =
    let ls = g.Self.Frame.list c.args.self.now in
    let at : level_at (g.Self.Frame.list c.args.self.now) c.loop-k.k ≡ Some c.unwrap-sum.result = search (rules, c.level.ensures, c.unwrap-sum.ensures) in
    let light = (limits ls (g.met.Self.Frame.sound c.args.self.now)).light in
    omega (arith, light, pass_within _ ls c.loop-k.k _ _ c.loop-k.invariant at)

pub loop-k-preserved : goal.loop-k-preserved
loop-k-preserved g c =
    let at : level_at (g.Self.Frame.list c.args.self.now) c.loop-k.k ≡ Some c.unwrap-sum.result = search (rules, c.level.ensures, c.unwrap-sum.ensures) in
    pass _ (g.Self.Frame.list c.args.self.now) c.loop-k.k _ _ c.loop-k.invariant at

pub returns-2 : goal.returns-2
returns-2 g c =
    let at : level_at (g.Self.Frame.list c.args.self.now) c.loop-k.k ≡ Some c.unwrap-sum.result = search (rules, c.level.ensures, c.unwrap-sum.ensures) in
    pass_last _ (g.Self.Frame.list c.args.self.now) c.loop-k.k _ _ c.loop-k.invariant at (let last : length (g.Self.Frame.list c.args.self.now) ≤ c.loop-k.k = search rules in last)
