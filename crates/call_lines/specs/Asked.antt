-- What the lines of a text come to, as plain data.
use Rattle.std.specs.Prelude.{ℕ, List, vec_items}
use Rattle.records.specs.declared.card.Card.{Card}
use Rattle.records.specs.declared.line.Line.{Line}
use Rattle.seismic.specs.declared.axis.Axis.{Axis}
use Rattle.seismic.specs.declared.row.Row.{Row}
use Rattle.runs.specs.declared.call.Call.{Call}
use Rattle.runs.specs.declared.call.Call.TheVariants.{Load, Strike, Standing, Trial, Keep, Abandon, Issue, Reopen, Release, Sheet, Axes}
use Rattle.call_lines.specs.declared.call_line.CallLine.{CallLine}
use Rattle.call_lines.specs.declared.call_line.CallLine.TheVariants.{Call as Calls, Card as Cards}

-- a call, with lists in place of tables
pub data Asked : Type 0 where
  load : Line → Asked
  strike : Asked
  standing : ℕ → Asked
  trial : Asked
  keep : Asked
  abandon : Asked
  issue : Asked
  reopen : Asked
  release : Asked
  -- the card in force, and the rows that are lent
  sheet : Card → List Row → Asked
  -- the card in force, the storey, and the axes that are lent
  axes : Card → ℕ → List Axis → Asked

-- a line is a call, or a card for the lines after it
pub data Entry : Type 0 where
  call : Asked → Entry
  card : Card → Entry

-- what a call asks
abbrev pub asked : Call → Asked
asked (Load x) = load x
asked Strike = strike
asked (Standing k) = standing k
asked Trial = trial
asked Keep = keep
asked Abandon = abandon
asked Issue = issue
asked Reopen = reopen
asked Release = release
asked (Sheet k rows) = sheet k (vec_items rows)
asked (Axes k storey lent) = axes k storey (vec_items lent)

-- what a line comes to, of a program's value
abbrev pub entry : CallLine → Entry
entry (Calls c) = call (asked c)
entry (Cards k) = card k
