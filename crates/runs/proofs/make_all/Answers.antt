use Rattle.std.proofs.Common.{rules, ◌≡◌, length, refl, ap, ◌∙◌, arith}
use Rattle.std.specs.Vec.Iter.{into_iter_items}
use Rattle.runs.proofs.Orders.{any_sound}
use Rattle.runs.proofs.Progress.{all_made, begun, progress_more}
use Rattle.runs.proofs.make_all.Goals as goal

pub loop-call-init : goal.loop-call-init
loop-call-init g c =
    record {
      can = tt;
      finite = tt;
      frame = refl;
      progress = begun (g.F.Frame.list c.args.new.frame) _ _ _ _ (g.met.F.Frame.sound c.args.new.frame) c.into_iter-call-iterator.ensures.into_iter_gives.0 c.requires.none c.requires.new;
      room = c.requires.room;
    }

pub loop-call-preserved : goal.loop-call-preserved
loop-call-preserved g c =
    let list = g.F.Frame.list in
    let frame = c.loop-call.invariant.frame in
    let kept = c.make-after.ensures.frame ∙ frame in
    record {
      can = tt;
      finite = tt;
      frame = kept;
      progress =
          progress_more (list c.args.new.frame) _ _ _ _ _ _ _ _ _ c.in-Some.call c.make-after.result.1 (ap list frame) (ap list kept) c.loop-call.invariant.progress c.in-Some.ensures.steps.0 c.push_reserved.ensures.items c.make-after.ensures.tally c.make-after.ensures.answer (any_sound c.make-after.result.0);
      room = omega (arith, c.push_reserved.ensures.capacity, c.loop-call.invariant.room);
    }

pub returns : goal.returns
returns g c =
    let none : length (into_iter_items c.loop-call.call-iterator) ≡ 0 = search rules in
    all_made (g.F.Frame.list c.args.new.frame) _ _ _ _ c.loop-call.invariant.progress none
