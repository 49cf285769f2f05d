use Rattle.std.proofs.Common.{refl, arith}
use Rattle.std.proofs.Output.{has_written_append, has_written_of_eq}
use Rattle.sheet_text.proofs.Writing.{next_line}
use Rattle.sheet_text.proofs.SheetTextDisplay.fmt.Goals as goal

pub loop-row-preserved : goal.loop-row-preserved
loop-row-preserved g c =
    λ plain.
    let before = c.loop-row.invariant plain in
    let rows = c.written-row-items.result.now in
    let line = next_line c.args.self.now.sheet.now rows c.loop-row.row-index _ _ (omega arith) c.put_row.ensures.put in
    has_written_of_eq _ _ _ _ _ line
    (has_written_append _ _ _ _ _ _ before (c.in_ok-write-2.ensures.writes before.plain refl))
