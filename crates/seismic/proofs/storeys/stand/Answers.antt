use Rattle.std.proofs.Common.{◌≡◌, ◌+◌, length, drop, rules, sym, ap, ◌∙◌, inl, arith, length-drop}
use Rattle.std.specs.Iterator.Adapters.{enumerate_count}
use Rattle.records.specs.declared.height.LevelHeight.{LevelHeight}
use Rattle.frames.specs.Levels.{level_height, weight_of}
use Rattle.frames.specs.Lists.{limits}
use Rattle.frames.proofs.Counted.{next, risen}
use Rattle.seismic.specs.Storeys.{bare, product, products}
use Rattle.seismic.proofs.Standing.{Turn, next_storey, stood_by, all_stood}
use Rattle.seismic.proofs.storeys.stand.Given as given
use Rattle.seismic.proofs.storeys.stand.Goals as goal
use Rattle.seismic.proofs.storeys.stand.Goals.{After-unwrap-height, In-None}

pub unwrap-height-requires : goal.unwrap-height-requires
unwrap-height-requires g c =
    let ls = g.F.Frame.list c.args.frame.now in
    let on = c.loop-below.invariant.2 in
    let p = next ls (enumerate_count c.loop-below.below-iterator) c.in-Some.level _ (sym on.left ∙ c.in-Some.ensures.steps.0) in
    search (rules, c.above.ensures, risen ls _ c.in-Some.level c.loop-below.height (g.met.F.Frame.sound c.args.frame.now) p.at on.high)

-- what is known where a storey is made
turn :
    (g : given.Over) (c : After-unwrap-height g)
    → Turn (g.F.Frame.list c.args.frame.now) (enumerate_count c.loop-below.below-iterator) c.loop-below.sums.weight c.loop-below.sums.products c.in-Some.level c.unwrap-height.result.0 c.loop-below.out
turn g c =
    let ls = g.F.Frame.list c.args.frame.now in
    let n = enumerate_count c.loop-below.below-iterator in
    let on = c.loop-below.invariant.2 in
    let p = next ls n c.in-Some.level _ (sym on.left ∙ c.in-Some.ensures.steps.0) in
    let r = risen ls n c.in-Some.level c.loop-below.height (g.met.F.Frame.sound c.args.frame.now) p.at on.high in
    record {
      sound = g.met.F.Frame.sound c.args.frame.now;
      stood = c.loop-below.invariant.3;
      at = p.at;
      high = ap (λ (h : LevelHeight). h.0) (search (rules, c.unwrap-height.ensures, c.above.ensures, r));
      inside = p.within;
      long = c.loop-below.auto.out ∙ c.requires;
    }

pub new-storey-requires-clause-fits : goal.new-storey-requires-clause-fits
new-storey-requires-clause-fits g c = (next_storey (turn g c)).fits

pub new-storey-requires-clause-low : goal.new-storey-requires-clause-low
new-storey-requires-clause-low g c = (next_storey (turn g c)).low

pub overflow_add-sums : goal.overflow_add-sums
overflow_add-sums g c = omega (arith, (next_storey (turn g (goal.at.overflow_add-sums g c).After-unwrap-height)).light)

pub overflow_add-sums-in-loop-below : goal.overflow_add-sums-in-loop-below
overflow_add-sums-in-loop-below g c =
    let little = (next_storey (turn g (goal.at.overflow_add-sums-in-loop-below g c).After-unwrap-height)).little in
    omega (arith, c.product.ensures, ap product c.new-storey.ensures, little)

pub loop-below-preserved : goal.loop-below-preserved
loop-below-preserved g c =
    let ls = g.F.Frame.list c.args.frame.now in
    let n = enumerate_count c.loop-below.below-iterator in
    let t = turn g (goal.at.loop-below-preserved g c).After-unwrap-height in
    let p = next ls n c.in-Some.level _ (sym c.loop-below.invariant.2.left ∙ c.in-Some.ensures.steps.0) in
    let s = c.in-Some.ensures.steps in (
      (tt, tt, inl (omega (arith, s.2, p.within, (limits ls t.sound).few, ap length p.left, length-drop (n + 1) ls))),
      tt,
      record {
        within = omega (arith, s.2, p.within);
        left = p.left ∙ ap (λ k. drop k ls) (sym s.2);
        high = t.high ∙ ap (level_height ls) (sym s.2);
      },
      stood_by t _ _ _ _ s.2 s.1 c.product.ensures c.new-storey.ensures,
    )

-- all stand at the end
ended :
    (g : given.Over) (c : In-None g)
    → (c.loop-below.out ≡ bare (g.F.Frame.list c.args.frame.now)) × (c.loop-below.sums.weight ≡ weight_of (g.F.Frame.list c.args.frame.now)) × (c.loop-below.sums.products ≡ products (g.F.Frame.list c.args.frame.now))
ended g c = all_stood (g.F.Frame.list c.args.frame.now) _ _ _ _ (sym c.loop-below.invariant.2.left ∙ c.in-None.ensures.steps.0.0) (c.loop-below.auto.out ∙ c.requires) c.loop-below.invariant.3

pub returns-clause-storeys : goal.returns-clause-storeys
returns-clause-storeys g c = (ended g c).0

pub returns-clause-weight : goal.returns-clause-weight
returns-clause-weight g c = (ended g c).1

pub returns-clause-products : goal.returns-clause-products
returns-clause-products g c = (ended g c).2

pub returns-clause-light : goal.returns-clause-light
returns-clause-light g c = omega (arith, (ended g c).1, (limits (g.F.Frame.list c.args.frame.now) (g.met.F.Frame.sound c.args.frame.now)).light)
