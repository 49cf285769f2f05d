use Rattle.std.proofs.Common.{length, ap, arith, rules}
use Rattle.frames.proofs.Walks.{level_next, none_next, few_passed}
use Rattle.frames.proofs.levels.LevelsIterator.next.Goals as goal

pub returns-in_err-level-clause-steps : goal.returns-in_err-level-clause-steps
returns-in_err-level-clause-steps g c =
    let s = c.args.self.now in
    let none = none_next (g.F.Frame.list s.frame.now) s.passed c.in_err-level.ensures in
    search rules

pub invariant_of-self : goal.invariant_of-self
invariant_of-self g c =
    let s = c.args.self.now in
    record { few = few_passed (g.F.Frame.list s.frame.now) s.passed c.in_ok-level.level c.in_ok-level.ensures (g.met.F.Frame.sound s.frame.now) }

pub returns-clause-steps : goal.returns-clause-steps
returns-clause-steps g c =
    let s = c.args.self.now in
    level_next (g.F.Frame.list s.frame.now) s.passed c.in_ok-level.level c.in_ok-level.ensures

pub returns-clause-goes : goal.returns-clause-goes
returns-clause-goes g c =
    let s = c.args.self.now in
    let fewer = ap length (level_next (g.F.Frame.list s.frame.now) s.passed c.in_ok-level.level c.in_ok-level.ensures) in
    record { on = λ _. (tt, tt, omega (arith, fewer)); keeps = tt; rests = λ _. tt }
