use Rattle.std.proofs.Common.{◌≡◌, ◌<◌, true, List, length, slice_index_or, sym, ap, subst, arith}
use Rattle.records.specs.declared.level.Level.{Level}
use Rattle.records.specs.Ranges.{level_fits}
use Rattle.frames.specs.OwnStoreys.{own_storeys}
use Rattle.frames.proofs.Standing.{blank, fits_at}
use Rattle.frames.proofs.stack.Stack.with_standing.Goals as goal

pub with_storey-requires : goal.with_storey-requires
with_storey-requires c =
    let s = c.args.storeys.now in
    let i = c.loop-storey.storey-index in
    let there : i < length (own_storeys s) = omega (arith, c.loop-storey-test.true, ap length c.levels-storey-items.ensures) in
    subst (λ (ls : List Level). level_fits (slice_index_or ls i blank) ≡ true) (sym c.levels-storey-items.ensures)
    (fits_at (own_storeys s) i s.fit there)
