-- Lists of levels, from the lowest up, and which of them a frame may have.
use Rattle.std.specs.Prelude.{◌≡◌, ℕ, zero, suc, ◌+◌, Bool, true, ◌&&◌, List, [], ◌∷◌, length, take, Some, None, Option, nat_le}
use Rattle.records.specs.declared.height.LevelHeight.{LevelHeight}
use Rattle.records.specs.declared.level.Level.{Level}
use Rattle.records.specs.Ranges.{level_fits}
use Rattle.records.specs.Limits.{level_limit, height_limit}

-- the sum of one number over the levels
abbrev pub total : (Level → ℕ) → List Level → ℕ
total m [] = 0
total m (l ∷ ls) = m l + total m ls

-- the height of the last level over the ground, in dm
abbrev pub height_of : List Level → ℕ
height_of ls = total (λ l. l.height.0) ls

abbrev pub top_of : List Level → LevelHeight
top_of ls = record { 0 = height_of ls }

-- the height H of level k over the ground, in dm
abbrev pub level_height : List Level → ℕ → ℕ
level_height ls k = height_of (take k ls)

-- tenths of a tonne
abbrev pub weight_of : List Level → ℕ
weight_of ls = total (λ l. l.weight) ls

-- the level that has i levels below it
abbrev pub from_bottom : List Level → ℕ → Option Level
from_bottom [] i = None
from_bottom (l ∷ ls) zero = Some l
from_bottom (l ∷ ls) (suc i) = from_bottom ls i

-- level k, counted from 1; nothing for 0 and beyond the last
abbrev pub level_at : List Level → ℕ → Option Level
level_at ls zero = None
level_at ls (suc i) = from_bottom ls i

-- each number of each level within its range
abbrev pub all_fit : List Level → Bool
all_fit [] = true
all_fit (l ∷ ls) = level_fits l && all_fit ls

-- at most 24 levels, the top at 500 dm or lower, each number within its range
abbrev pub sound : List Level → Bool
sound ls = nat_le (length ls) level_limit && (nat_le (height_of ls) height_limit && all_fit ls)

abbrev pub Sound : List Level → Type 0
Sound ls = sound ls ≡ true
