use Rattle.std.proofs.Common.{◌≡◌, ℕ, ◌+◌, length, drop, rules, sym, refl, ap, ◌∙◌, inl, arith, length-drop}
use Rattle.frames.specs.Levels.{level_height}
use Rattle.std.proofs.Output.{has_written_append, has_written_of_eq}
use Rattle.std.specs.Iterator.Adapters.{enumerate_count}
use Rattle.records.specs.declared.height.LevelHeight.{LevelHeight}
use Rattle.frames.specs.Lists.{limits}
use Rattle.listing.specs.Listings.{heading}
use Rattle.frames.proofs.Counted.{next, risen}
use Rattle.listing.proofs.Lines.{line_more}
use Rattle.listing.proofs.listed.ListedDisplay.fmt.Goals as goal

pub unwrap-height-requires : goal.unwrap-height-requires
unwrap-height-requires g c =
    let ls = g.F.Frame.list c.args.self.now.frame.now in
    let on = c.loop-below.invariant.2 in
    let p = next ls (enumerate_count c.loop-below.below-iterator) c.in-Some.level _ (sym on.left ∙ c.in-Some.ensures.steps.0) in
    search (rules, c.above.ensures, risen ls _ c.in-Some.level c.loop-below.height (g.met.F.Frame.sound c.args.self.now.frame.now) p.at on.high)

pub loop-below-preserved : goal.loop-below-preserved
loop-below-preserved g c =
    let ls = g.F.Frame.list c.args.self.now.frame.now in
    let sound = g.met.F.Frame.sound c.args.self.now.frame.now in
    let on = c.loop-below.invariant.2 in
    let n = enumerate_count c.loop-below.below-iterator in
    let p = next ls n c.in-Some.level _ (sym on.left ∙ c.in-Some.ensures.steps.0) in
    let r = risen ls n c.in-Some.level c.loop-below.height sound p.at on.high in
    let s = c.in-Some.ensures.steps in
    let few = (limits ls sound).few in
    let high : c.unwrap-height.result.0 ≡ level_height (g.F.Frame.list c.args.self.now.frame.now) (enumerate_count c.loop-below.below-iterator + 1) = ap (λ (h : LevelHeight). h.0) (search (rules, c.unwrap-height.ensures, c.above.ensures, r)) in (
      (tt, tt, inl (omega (arith, s.2, p.within, few, ap length p.left, length-drop (n + 1) ls))),
      tt,
      record {
        within = omega (arith, s.2, p.within);
        left = p.left ∙ ap (λ (k : ℕ). drop k ls) (sym s.2);
        high = high ∙ ap (level_height ls) (sym s.2);
      },
      λ plain.
          let before = c.loop-below.invariant.3 plain in
          has_written_of_eq _ _ _ _ _ (line_more ls n c.in-Some.below _ c.in-Some.level c.unwrap-height.result.0 (heading ls) s.1 s.2 p.at high)
          (has_written_append _ _ _ _ _ _ before (c.in_ok-write-2.ensures.writes before.plain refl)),
    )
