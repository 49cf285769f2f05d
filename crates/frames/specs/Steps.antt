-- One more level on those below: when it is denied.
use Rattle.std.specs.Prelude.{ℕ, ◌+◌, Bool, cond, not, ◌&&◌, List, [], ◌∷◌, ◌++◌, length, is_some, Some, None, Option, nat_lt}
use Rattle.records.specs.declared.level.Level.{Level}
use Rattle.records.specs.Ranges.{level_fits}
use Rattle.frames.specs.declared.denial.FrameDenial.{FrameDenial}
use Rattle.frames.specs.declared.denial.FrameDenial.TheVariants.{OutOfRange, TooHigh}
use Rattle.frames.specs.Levels.{height_of}
use Rattle.records.specs.Limits.{level_limit, height_limit}

-- why a level may not stand as level k + 1, on k levels whose top is at h dm: its range goes before its height
abbrev pub step_denial : ℕ → ℕ → Level → Option FrameDenial
step_denial k h l =
    cond (not (level_fits l)) (Some (OutOfRange (k + 1)))
    (cond (nat_lt height_limit (h + l.height.0)) (Some (TooHigh (k + 1))) None)

-- whether a level may stand on k levels whose top is at h dm
abbrev pub stands : ℕ → ℕ → Level → Bool
stands k h l = nat_lt k level_limit && not (is_some (step_denial k h l))

-- the storeys that stand on k levels whose top is at h dm, from the lowest up to the first that may not
abbrev pub standing : ℕ → ℕ → List Level → List Level
standing k h [] = []
standing k h (l ∷ ls) = cond (stands k h l) (l ∷ standing (k + 1) (h + l.height.0) ls) []

-- the levels, and the storeys that stand on them
abbrev pub stacked : List Level → List Level → List Level
stacked ls storeys = ls ++ standing (length ls) (height_of ls) storeys
