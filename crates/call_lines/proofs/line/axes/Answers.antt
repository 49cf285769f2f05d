use Rattle.std.proofs.Common.{◌≡◌, ◌+◌, vec_items, Some, sym, ap, subst, refl, ◌∙◌, arith}
use Rattle.tokens.specs.TextLines.{left}
use Rattle.tokens.specs.declared.fault.Fault.TheVariants.{Layout}
use Rattle.call_lines.specs.Lines.{axes_of}
use Rattle.call_lines.proofs.Axes.{Going, at_start, ended, filled, faulty, one_more}
use Rattle.call_lines.proofs.Exits.{at_fault}
use Rattle.call_lines.proofs.line.axes.Goals as goal
use Rattle.call_lines.proofs.line.axes.Goals.{else-loop-test, then-loop-test+then-is_over}

pub loop-init : goal.loop-init
loop-init c = (subst (λ made. Going c.args.most (left c.args.line.now) 0 made (left c.args.line.now)) (sym c.new-axes.ensures.items) (at_start c.args.most (left c.args.line.now)), refl)

pub returns-in_err-field-clause-read : goal.returns-in_err-field-clause-read
returns-in_err-field-clause-read c =
    let took = c.in_err-field.ensures.took in
    at_fault vec_items c.from_residual.result _ _ _ c.from_residual.ensures.1
    (faulty c.loop.invariant.0 c.loop-test.true (sym c.is_over.ensures ∙ c.if-is_over.false) took.0, took.1 ∙ ap Layout c.loop.invariant.1)

pub loop-preserved : goal.loop-preserved
loop-preserved c = (
  subst (λ made. Going c.args.most (left c.args.line.now) (c.loop.counter + 1) made (left c.field.new.self))
      (sym c.in_ok-push.ensures.items)
      (one_more c.loop.invariant.0 c.in_ok-field.field-0 (left c.field.new.self) c.loop-test.true (sym c.is_over.ensures ∙ c.if-is_over.false) c.in_ok-field.ensures.took),
  c.in_ok-field.ensures.same ∙ c.loop.invariant.1,
)

pub returns-clause-read : goal.returns-clause-read
returns-clause-read c =
    elim c.loop-test.branch as (λ _. axes_of c.args.most (left c.args.line.now) ≡ Some (vec_items c.loop.axes, left c.loop.line)) [
      | else-loop-test w ↦ filled c.loop.invariant.0 (omega arith)
      | then-loop-test+then-is_over w ↦ ended c.loop.invariant.0 (sym w.is_over.ensures ∙ w.if-is_over.true)
    ]
