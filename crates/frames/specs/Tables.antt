-- Which tables of levels may be laid, and when each denial comes.
use Rattle.std.specs.Prelude.{◌≡◌, ℕ, ◌+◌, ◌<◌, ◌≤◌, true, false, cond, List, [], ◌∷◌, length, Some, None, Ok, Err, Option, Result, nat_lt}
use Rattle.records.specs.declared.level.Level.{Level}
use Rattle.records.specs.Ranges.{level_fits}
use Rattle.frames.specs.declared.denial.FrameDenial.{FrameDenial}
use Rattle.frames.specs.declared.denial.FrameDenial.TheVariants.{TooManyLevels, OutOfRange, TooHigh, KitOutOfRange, KitTooHigh}
use Rattle.frames.specs.Levels.{Sound, level_at, level_height}
use Rattle.frames.specs.Steps.{step_denial}
use Rattle.records.specs.Limits.{level_limit, height_limit}

-- the first denial, and only then the second
abbrev pub or_else : Option FrameDenial → Option FrameDenial → Option FrameDenial
or_else (Some d) later = Some d
or_else None later = later

-- the first denial from below, where k levels stand whose top is at h dm
abbrev pub denial_from : ℕ → ℕ → List Level → Option FrameDenial
denial_from k h [] = None
denial_from k h (l ∷ ls) = or_else (step_denial k h l) (denial_from (k + 1) (h + l.height.0) ls)

-- the denial of a table: the count goes first
abbrev pub lay_denial : List Level → Option FrameDenial
lay_denial table = cond (nat_lt level_limit (length table)) (Some (TooManyLevels (level_limit + 1))) (denial_from 0 0 table)

-- refused with exactly this denial, or not at all
abbrev pub Checked : Option FrameDenial → Result (Unit {0}) FrameDenial → Type 0
Checked o (Ok _) = o ≡ None
Checked o (Err d) = o ≡ Some d

-- there is a level k, and each of its numbers is within its range
abbrev pub IsInRange : List Level → ℕ → Type 0
IsInRange ls k = (l : Level) × (level_at ls k ≡ Some l) × (level_fits l ≡ true)

-- there is a level k, and a number of it is out of its range
abbrev pub IsOutOfRange : List Level → ℕ → Type 0
IsOutOfRange ls k = (l : Level) × (level_at ls k ≡ Some l) × (level_fits l ≡ false)

-- each level below level k is in range and stands at 500 dm or lower
abbrev pub GoodBelow : List Level → ℕ → Type 0
GoodBelow ls k = (j : ℕ) → 1 ≤ j → j < k → IsInRange ls j × (level_height ls j ≤ height_limit)

-- when a table meets each denial
abbrev pub DeniedWhen : List Level → FrameDenial → Type 0
DeniedWhen table (TooManyLevels k) = (k ≡ level_limit + 1) × (level_limit < length table)
DeniedWhen table (OutOfRange k) = (length table ≤ level_limit) × GoodBelow table k × IsOutOfRange table k
DeniedWhen table (TooHigh k) = (length table ≤ level_limit) × GoodBelow table k × IsInRange table k × (height_limit < level_height table k)
DeniedWhen table KitOutOfRange = ⊥
DeniedWhen table KitTooHigh = ⊥

-- what each answer says of the table
abbrev pub CheckedWhen : List Level → Result (Unit {0}) FrameDenial → Type 0
CheckedWhen table (Ok _) = Sound table
CheckedWhen table (Err d) = DeniedWhen table d
