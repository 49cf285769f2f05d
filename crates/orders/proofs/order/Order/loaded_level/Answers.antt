use Rattle.std.proofs.Common.{rules, ◌≡◌, ◌≤◌, ◌+ℤ◌, ℤ, pos, Some, sym, ap, ◌∙◌, subst, to_z, of_z, w32, arith}
use Rattle.std.proofs.lemmas.Int.{ints}
use Rattle.frames.specs.Levels.{level_at}
use Rattle.orders.specs.Loads.{loaded, natural, standing}
use Rattle.orders.specs.Tables.{booked}
use Rattle.orders.proofs.Bearing.{light, told}
use Rattle.orders.proofs.order.Order.loaded_level.Goals as goal

pub loaded-requires : goal.loaded-requires
loaded-requires g c =
    let ls = g.F.Frame.list c.args.self.now.frame in
    let lines = booked c.args.self.now.lines in
    let l = c.in_ok-level.level in
    let e : level_at ls c.args.k ≡ Some l = search rules in
    let sum : to_z w32 (of_z w32 c.standing.result) ≡ standing c.args.k lines = omega (arith, ints, c.standing.ensures.sum, c.standing.ensures.low, c.standing.ensures.high) in
    subst (λ (z : ℤ). natural (pos l.weight +ℤ z) ≤ 5000) (sym sum) (light ls lines c.args.k l c.args.self.now.bears e)

pub returns : goal.returns
returns g c =
    let ls = g.F.Frame.list c.args.self.now.frame in
    let lines = booked c.args.self.now.lines in
    let l = c.in_ok-level.level in
    let e : level_at ls c.args.k ≡ Some l = search rules in
    let sum : to_z w32 (of_z w32 c.standing.result) ≡ standing c.args.k lines = omega (arith, ints, c.standing.ensures.sum, c.standing.ensures.low, c.standing.ensures.high) in
    ap Some (c.loaded.ensures ∙ ap (λ (z : ℤ). loaded z l) sum) ∙ sym (told ls lines c.args.k l e)
