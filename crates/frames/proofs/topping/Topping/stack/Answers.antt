use Rattle.std.proofs.Common.{length, ap, ◌∙◌, arith}
use Rattle.records.specs.declared.height.LevelHeight.{LevelHeight}
use Rattle.records.specs.declared.level.Level.{Level}
use Rattle.frames.specs.Levels.{height_of, top_of}
use Rattle.frames.specs.Lists.{total_append}
use Rattle.frames.specs.OwnStoreys.{own_storeys}
use Rattle.frames.specs.Steps.{standing}
use Rattle.frames.specs.Toppings.{topped}
use Rattle.frames.proofs.Heights.{same_height}
use Rattle.frames.proofs.topping.Topping.stack.Goals as goal

pub returns-clause-top : goal.returns-clause-top
returns-clause-top g c =
    let t = c.args.self.now in
    let ls = g.F.Frame.list t.below in
    let own = own_storeys t.own in
    let below = c.of.result in
    let heights = ap (λ n. height_of (standing n below.top.0 own)) c.of.ensures.levels
    ∙ ap (λ (h : LevelHeight). height_of (standing (length ls) h.0 own)) c.of.ensures.top in
    same_height c.with_standing.result.top (top_of (topped g.F.Frame.list t))
    (omega (
      arith,
      c.with_standing.ensures.top,
      heights,
      ap (λ (h : LevelHeight). h.0) c.of.ensures.top,
      total_append (λ (l : Level). l.height.0) ls (standing (length ls) (height_of ls) own),
    ))
