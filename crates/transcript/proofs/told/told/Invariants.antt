use Rattle.std.proofs.Common.{◌≡◌, ◌++◌, drop, string_bytes}
use Rattle.transcript.specs.Scripts.{told}
use Rattle.transcript.proofs.told.told.Given as goal

-- what is written, and what is left to tell
abbrev pub invariant-loop-turn : goal.invariant-loop-turn
invariant-loop-turn l = string_bytes l.text ++ told (drop l.turn-index l.turns) l.left ≡ told l.turns l.answers
