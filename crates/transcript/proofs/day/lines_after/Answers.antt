use Rattle.std.proofs.Common.{ℕ, ◌+◌, List, subst}
use Rattle.call_lines.specs.Entries.{counted, entries_of, ReadAs}
use Rattle.order_file.specs.File.{filed}
use Rattle.order_file.specs.Lines.{card_line}
use Rattle.transcript.proofs.Lines.{all_count}
use Rattle.transcript.proofs.day.lines_after.Goals as goal

pub returns : goal.returns
returns c =
    let read = c.read_calls.result in
    let card = c.args.file.now.card in
    let first = card_line (filed c.args.file.now) + 1 in
    subst (λ (bytes : List ℕ). ReadAs read (entries_of card first bytes)) (all_count c.args.rest.now c.requires)
    (subst (λ (n : ℕ). ReadAs read (entries_of card n (counted c.args.rest.now))) c.line_after.ensures c.read_calls.ensures.told)
