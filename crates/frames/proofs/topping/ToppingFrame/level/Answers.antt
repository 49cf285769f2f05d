use Rattle.std.proofs.Common.{◌≡◌, ◌-◌, ◌<◌, ◌≤◌, length, sym, ap, ◌∙◌, arith}
use Rattle.frames.specs.Levels.{level_at}
use Rattle.frames.specs.OwnStoreys.{own_storeys}
use Rattle.frames.specs.Steps.{stacked}
use Rattle.frames.proofs.Toppings.{level_own, level_beyond}
use Rattle.frames.proofs.topping.ToppingFrame.level.Goals as goal

pub returns-then-k-count : goal.returns-then-k-count
returns-then-k-count g c =
    let ls = g.F.Frame.list c.args.self.now.below in
    let own = own_storeys c.args.self.now.own in
    let past : length (stacked ls own) < c.args.k = omega (arith, c.count-below.ensures, c.count.ensures) in
    sym (level_beyond ls own c.args.k past)

pub returns : goal.returns
returns g c =
    let ls = g.F.Frame.list c.args.self.now.below in
    let own = own_storeys c.args.self.now.own in
    let high : length ls < c.args.k = omega (arith, c.count-below.ensures) in
    let within : c.args.k ≤ length (stacked ls own) = omega (arith, c.count-below.ensures, c.count.ensures) in
    let storey : c.args.k - c.count-below.result ≡ c.args.k - length ls = omega (arith, c.count-below.ensures) in
    c.level_of.ensures ∙ ap (λ xs. level_at xs (c.args.k - c.count-below.result)) c.levels.ensures ∙ ap (level_at own) storey
    ∙ sym (level_own ls own c.args.k high within)
