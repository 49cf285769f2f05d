use Rattle.std.proofs.Common.{List, ◌++◌, ap, ◌∙◌}
use Rattle.std.proofs.lemmas.Result.{err_from_is_err_and}
use Rattle.records.specs.declared.level.Level.{Level}
use Rattle.frames.specs.declared.kit.Kit.{Kit}
use Rattle.frames.specs.KitFrames.{made_list}
use Rattle.order_frame.proofs.Adding.{put_more, put_denied, put_all, on_kit}
use Rattle.order_frame.proofs.frame.topped.Goals as goal

pub returns-in_err-add : goal.returns-in_err-add
returns-in_err-add c =
    let p = err_from_is_err_and c.from_residual-in_err-add.result c.from_residual-in_err-add.ensures.1 in
    let kit = c.in_ok-new.ensures.answer in
    let base = ap made_list c.new-topping.ensures.same ∙ kit.2 in
    rw (p.1, p.2)
    (on_kit c.args.numbers _ _ _ kit.0 base
    (put_denied _ c.args.levels.now c.loop-level.level-index _ c.loop-level-test.true _ _
    (ap made_list c.loop-level.invariant.0) c.loop-level.invariant.1 _ _ c.in_err-add.ensures.answer))

pub loop-level-preserved : goal.loop-level-preserved
loop-level-preserved c = (
  c.in_ok-add.ensures.below ∙ c.loop-level.invariant.0,
  put_more _ c.args.levels.now c.loop-level.level-index _ c.loop-level-test.true _ _
      (ap made_list c.loop-level.invariant.0) c.loop-level.invariant.1 _ c.in_ok-add.ensures.answer,
)

pub returns : goal.returns
returns c =
    let kit = c.in_ok-new.ensures.answer in
    let base = ap made_list c.new-topping.ensures.same ∙ kit.2 in
    let all = put_all _ c.args.levels.now c.loop-level.level-index _ c.loop-level-test.false c.loop-level.invariant.1 in (
      on_kit c.args.numbers _ _ _ kit.0 base all.0,
      all.1 ∙ ap (λ (ls : List Level). ls ++ c.args.levels.now) base,
      ap (λ (k : Kit). k.numbers) (c.loop-level.invariant.0 ∙ c.new-topping.ensures.same) ∙ kit.1,
    )
