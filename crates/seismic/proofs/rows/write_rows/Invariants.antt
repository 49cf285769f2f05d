use Rattle.seismic.proofs.Walks.{Walked}
use Rattle.seismic.proofs.rows.write_rows.Given as goal

abbrev pub invariant-loop-i : goal.invariant-loop-i
invariant-loop-i l = Walked l.card.card l.storeys l.i l.walk l.rows l.verdict
