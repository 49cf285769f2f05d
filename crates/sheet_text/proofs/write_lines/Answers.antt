use Rattle.std.proofs.Common.{ℕ, List, ◌+◌, ◌++◌, length, take, drop, ap, ◌∙◌, arith, length-append}
use Rattle.sheet_text.specs.Sheets.{text_of}
use Rattle.sheet_text.proofs.Writing.{behind, next_line}
use Rattle.sheet_text.proofs.write_lines.Goals as goal

pub loop-row-preserved : goal.loop-row-preserved
loop-row-preserved c =
    let l = c.loop-row in
    let rows = c.args.rows.now in
    let text = text_of c.args.sheet.now (take l.row-index rows) in
    let line = next_line c.args.sheet.now rows l.row-index _ _ (omega arith) c.put_row.ensures.put in
    let copied = rw c.unwrap-at-in-loop-row.ensures at c.copy_to-in-loop-row.ensures in
    let put = behind text c.put_row.new.line l.out c.args.out.now c.copy_to-in-loop-row.new.out l.at c.unwrap-at-in-loop-row.result l.invariant.written l.invariant.count (omega arith) (omega arith) copied in
    let whole = length-append text c.put_row.new.line in
    record {
      written = put ∙ ap (λ (t : List ℕ). t ++ drop (l.at + c.unwrap-at-in-loop-row.result) c.args.out.now) line;
      count = omega (arith, whole, ap length line, l.invariant.count, copied.1);
      few = omega (arith, l.invariant.few, copied.1, c.put_row.ensures.short);
    }
