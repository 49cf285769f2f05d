use Rattle.std.proofs.Common.{◌≡◌, ◌+◌, None, Ok, map, vec_items, refl, ap, ◌∙◌}
use Rattle.order_file.specs.File.{filed, sections}
use Rattle.order_file.specs.Lines.{card_line}
use Rattle.order_frame.specs.Frames.{frame_denial}
use Rattle.call_lines.specs.Asked.{entry}
use Rattle.call_lines.specs.Entries.{entries_of}
use Rattle.transcript.specs.Transcripts.{after_file, day_of, on_frame, with_lines}
use Rattle.transcript.proofs.day.Day.read.Goals as goal

pub returns : goal.returns
returns c =
    let f = filed c.in_ok-file.field-0.file in
    let rest = c.in_ok-file.field-0.rest.now in
    let es = map entry (vec_items c.in_ok-lines.lines) in
    let told : sections (c.args.input.now, 1) ≡ Ok (f, (rest, card_line f + 1)) = c.in_ok-file.ensures.told in
    let lines : entries_of f.card (card_line f + 1) rest ≡ Ok es = c.in_ok-lines.ensures in
    let none : frame_denial f.kit f.levels ≡ None = c.in_ok-frame.ensures.told.0 in
    let day : day_of c.args.input.now ≡ Ok (f, es) = ap after_file told ∙ ap (with_lines f) lines ∙ ap (λ d. on_frame f d es) none in
    (f, es, day, record { frame = c.in_ok-frame.ensures.told.1; loads = refl; lines = refl })
