use Rattle.std.proofs.Common.{◌∙◌, List, ℕ, ◌++◌, ap, drop, length, arith}
use Rattle.frames.specs.Lists.{limits}
use Rattle.order_file.specs.File.{filed}
use Rattle.orders.specs.Orders.{order_list}
use Rattle.orders.specs.Sound.{order_sound}
use Rattle.report.proofs.Sheets.{shown}
use Rattle.report.proofs.sheeting.write_shears.Goals as goal

pub returns-in-Ok : goal.returns-in-Ok
returns-in-Ok g c =
    let few = (limits (order_list g.F.Frame.list c.args.order.now) (order_sound c.args.order.now)).few in
    let text = shown (filed c.args.file.now) _ _ _ c.in-Ok.sheet c.requires.loaded few c.in-Ok.ensures.answer in
    let written = rw c.unwrap.ensures at c.write.ensures in
    let n = c.unwrap.result in
    (written.1 ∙ ap length text, written.2 ∙ ap (λ (t : List ℕ). t ++ drop n c.args.out.now) text)

pub refusal_of-requires-clause-few : goal.refusal_of-requires-clause-few
refusal_of-requires-clause-few g c =
    let few = (limits (order_list g.F.Frame.list c.args.order.now) (order_sound c.args.order.now)).few in
    omega (arith, ap length c.requires.loaded, few)
