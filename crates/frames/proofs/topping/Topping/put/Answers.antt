use Rattle.std.proofs.Common.{◌≡◌, ℕ, ◌≤◌, [], ◌∷◌, ◌++◌, length, take, sym, refl, ap, ◌∙◌, arith, length-append, length-take}
use Rattle.frames.specs.Levels.{height_of}
use Rattle.frames.specs.OwnStoreys.{own_storeys}
use Rattle.frames.specs.Steps.{standing, stacked}
use Rattle.frames.specs.Stacks.{stands_parts, standing_length}
use Rattle.frames.specs.Toppings.{own_count}
use Rattle.frames.proofs.Pushes.{stacked_push, addable, own_standing, own_more}
use Rattle.frames.proofs.topping.Topping.put.Goals as goal

pub put-requires : goal.put-requires
put-requires g c =
    let t = c.args.self.now in
    let ls = g.F.Frame.list t.below in
    let own = own_storeys t.own in
    let all = stacked ls own in
    let short : length own ≤ t.own.count = simp length-take (omega arith) in
    let n : c.args.own ≡ own_count ls all = omega (arith, c.requires.stand) in
    let ok = addable (length all) (own_count ls all) (height_of all) c.args.level c.requires.good in
    record {
      within = omega (arith, n, ok.own_room);
      there = omega (arith, n, own_standing ls own, standing_length (length ls) (height_of ls) own);
      fits = (stands_parts (length all) (height_of all) c.args.level ok.stands_there).fits;
    }

pub returns : goal.returns
returns g c =
    let t = c.args.self.now in
    let ls = g.F.Frame.list t.below in
    let own = own_storeys t.own in
    let all = stacked ls own in
    let level = c.args.level in
    let ok = addable (length all) (own_count ls all) (height_of all) level c.requires.good in
    let is : c.args.own ≡ own_count ls all = omega (arith, c.requires.stand) in
    let n = is ∙ sym (own_standing ls own) in
    let after = ap (stacked ls) (c.put.ensures ∙ ap (λ (n : ℕ). take n own ++ level ∷ []) n) ∙ stacked_push ls own level ok.stands_there in
    let over : length ls ≤ length all = omega (arith, length-append ls (standing (length ls) (height_of ls) own)) in
    record { list = after; more = own_more ls all (stacked ls (own_storeys c.put.new.self)) level over after; below = refl }
