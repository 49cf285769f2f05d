-- What is left of a walk over a frame's levels.
use Rattle.std.specs.Prelude.{List, drop}
use Rattle.records.specs.declared.level.Level.{Level}
use Rattle.frames.specs.declared.levels.Levels.{Levels}

abbrev pub levels_left : {F : Type 0} → (F → List Level) → Levels F → List Level
levels_left list s = drop s.passed (list s.frame.now)
