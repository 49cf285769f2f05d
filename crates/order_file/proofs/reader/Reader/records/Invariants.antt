use Rattle.std.proofs.Common.{◌≡◌, vec_items, vec_len}
use Rattle.order_file.specs.Reading.{place}
use Rattle.order_file.proofs.Many.{Going}
use Rattle.order_file.proofs.reader.Reader.records.Given as goal

abbrev pub invariant-loop : goal.invariant-loop
invariant-loop g l = Going g.R.Record.layout l.count (place l.initial.self) l.counter (vec_items l.records) (place l.self) × (vec_len l.records ≡ l.counter)
