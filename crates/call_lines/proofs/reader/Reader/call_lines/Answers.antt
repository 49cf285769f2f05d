use Rattle.std.proofs.Common.{◌<◌, length, sym, subst, rules}
use Rattle.call_lines.specs.Steps.{place}
use Rattle.call_lines.proofs.Exits.{at_unread}
use Rattle.call_lines.proofs.Steps.{Going, faulty, one_more}
use Rattle.call_lines.proofs.reader.Reader.call_lines.Goals as goal

pub returns-in_err-call_line : goal.returns-in_err-call_line
returns-in_err-call_line c =
    let some : 0 < length c.loop-self.self.rest.now = search rules in
    at_unread c.in_err-call_line.field-0.0 c.from_residual.result _ _ _ _ c.from_residual.ensures.1 c.in_err-call_line.ensures.step
    (λ bad. faulty c.loop-self.invariant some bad)

pub loop-self-preserved : goal.loop-self-preserved
loop-self-preserved c =
    subst (λ read. Going (place c.args.self) read (place c.call_line.new.self)) (sym c.in_ok-push.ensures.items)
    (one_more c.loop-self.invariant c.in_ok-call_line.field-0 (place c.call_line.new.self) c.in_ok-call_line.ensures.step)
