use Rattle.std.proofs.Common.{◌≡◌, length, ap, ◌∙◌, subst, arith}
use Rattle.frames.specs.Additions.{add_denial}
use Rattle.frames.specs.Tables.{Checked}
use Rattle.frames.specs.Toppings.{topped, own_count}
use Rattle.frames.proofs.topping.Topping.admit.Goals as goal

pub returns : goal.returns
returns g c =
    let t = c.args.self.now in
    let ls = g.F.Frame.list t.below in
    let whole = topped g.F.Frame.list t in
    let l = c.args.level.now in
    let own : c.args.own ≡ own_count ls whole = omega (arith, c.requires) in
    subst (λ d. Checked d c.judge_added.result)
    (ap (λ n. add_denial n c.args.own c.of.result.top.0 l) c.of.ensures.levels
    ∙ ap (λ s. add_denial (length whole) s c.of.result.top.0 l) own
    ∙ ap (λ h. add_denial (length whole) (own_count ls whole) h.0 l) c.of.ensures.top)
    c.judge_added.ensures
