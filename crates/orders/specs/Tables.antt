-- The lines that stand in a table.
use Rattle.std.specs.Prelude.{List, vec_items}
use Rattle.records.specs.declared.line.Line.{Line}
use Rattle.orders.specs.declared.line_table.LineTable.{LineTable}

-- the oldest first
abbrev pub booked : LineTable → List Line
booked t = vec_items t.lines
