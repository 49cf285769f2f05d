use Rattle.std.proofs.Common.{◌≡◌, ◌+◌, ◌≤◌, length, Some, rules, ap, arith}
use Rattle.records.specs.declared.height.LevelHeight.{LevelHeight}
use Rattle.frames.specs.Levels.{level_at}
use Rattle.frames.specs.Lists.{limits}
use Rattle.frames.proofs.Heights.{raised_within}
use Rattle.frames.proofs.Passes.{there, pass, pass_within, pass_last}
use Rattle.frames.proofs.frame.Frame.top.Goals as goal

pub unwrap-level-requires : goal.unwrap-level-requires
unwrap-level-requires g c =
    search (rules, c.level.ensures, there _ (g.Self.Frame.list c.args.self.now) c.loop-k.k _ c.loop-k.invariant (omega (arith, c.loop-k-test.true, c.count-k-end.ensures)))

pub unwrap-top-requires : goal.unwrap-top-requires
unwrap-top-requires g c =
    let ls = g.Self.Frame.list c.args.self.now in
    let at : level_at (g.Self.Frame.list c.args.self.now) c.loop-k.k ≡ Some c.unwrap-level.result = search (rules, c.level.ensures, c.unwrap-level.ensures) in
    let low = (limits ls (g.met.Self.Frame.sound c.args.self.now)).low in
    search (rules, c.above.ensures, raised_within c.loop-k.top c.unwrap-level.result.height (omega (arith, low, pass_within _ ls c.loop-k.k _ _ c.loop-k.invariant at)))

pub loop-k-preserved : goal.loop-k-preserved
loop-k-preserved g c =
    let ls = g.Self.Frame.list c.args.self.now in
    let at : level_at (g.Self.Frame.list c.args.self.now) c.loop-k.k ≡ Some c.unwrap-level.result = search (rules, c.level.ensures, c.unwrap-level.ensures) in
    let low = (limits ls (g.met.Self.Frame.sound c.args.self.now)).low in
    let r = raised_within c.loop-k.top c.unwrap-level.result.height (omega (arith, low, pass_within _ ls c.loop-k.k _ _ c.loop-k.invariant at)) in
    let high : c.unwrap-top.result.0 ≡ c.loop-k.top.0 + c.unwrap-level.result.height.0 = ap (λ (h : LevelHeight). h.0) (search (rules, c.unwrap-top.ensures, c.above.ensures, r)) in
    rw high (pass _ ls c.loop-k.k _ _ c.loop-k.invariant at)

pub returns-2 : goal.returns-2
returns-2 g c =
    let ls = g.Self.Frame.list c.args.self.now in
    let at : level_at (g.Self.Frame.list c.args.self.now) c.loop-k.k ≡ Some c.unwrap-level.result = search (rules, c.level.ensures, c.unwrap-level.ensures) in
    let low = (limits ls (g.met.Self.Frame.sound c.args.self.now)).low in
    let r = raised_within c.loop-k.top c.unwrap-level.result.height (omega (arith, low, pass_within _ ls c.loop-k.k _ _ c.loop-k.invariant at)) in
    let whole = pass_last _ ls c.loop-k.k _ _ c.loop-k.invariant at (let last : length (g.Self.Frame.list c.args.self.now) ≤ c.loop-k.k = search rules in last) in
    search (rules, c.unwrap-top.ensures, c.above.ensures, r, whole)
