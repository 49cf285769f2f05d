-- Why the frame of a file is denied: what is judged first is good. Of a level out of range or too high: those below it are a
-- frame, and with it they are not.
use Rattle.std.specs.Prelude.{◌≡◌, ℕ, ◌+◌, ◌-◌, ◌*◌, ◌<◌, ◌≤◌, min, true, false, List, length, take, Some, None, Ok, Err, Option, Result}
use Rattle.records.specs.declared.kit_numbers.KitNumbers.{KitNumbers}
use Rattle.records.specs.declared.level.Level.{Level}
use Rattle.frames.specs.declared.denial.FrameDenial.{FrameDenial}
use Rattle.frames.specs.declared.denial.FrameDenial.TheVariants.{TooManyLevels, OutOfRange, TooHigh, KitOutOfRange, KitTooHigh}
use Rattle.records.specs.declared.failure.Failure.{Failure}
use Rattle.records.specs.declared.failure.Failure.TheVariants.{Denied, NoMemory}
use Rattle.frames.specs.Kits.{kit_in_range}
use Rattle.frames.specs.Levels.{Sound, level_height}
use Rattle.frames.specs.Tables.{IsInRange, IsOutOfRange}
use Rattle.order_frame.specs.declared.frame.OrderFrame.{OrderFrame}
use Rattle.order_frame.specs.Frames.{frame_levels}
use Rattle.records.specs.Limits.{level_limit, storey_limit, height_limit}

-- the levels below level k are a frame
abbrev pub FrameBelow : List Level → ℕ → Type 0
FrameBelow ls k = Sound (take (k - 1) ls)

-- the kit, where there is one, is taken: its numbers are in range, and its top is at 500 dm or lower
abbrev pub KitTaken : Option KitNumbers → Type 0
KitTaken None = Unit {0}
KitTaken (Some n) = (kit_in_range n ≡ true) × (n.levels * n.height.0 ≤ height_limit)

-- how many levels the frame has room for: a table's 24; on a kit eight storeys more than its own, and never above 24
abbrev pub room : Option KitNumbers → ℕ
room None = level_limit
room (Some n) = min level_limit (n.levels + storey_limit)

-- there is room for level k: a table is counted as a whole before its levels are judged, storeys on a kit one by one
abbrev pub HasRoom : Option KitNumbers → List Level → ℕ → Type 0
HasRoom None levels k = length levels ≤ room None
HasRoom (Some n) levels k = k ≤ room (Some n)

-- level k of the frame is the first one too many; on a kit those below it are judged before, and are a frame
abbrev pub NoRoom : Option KitNumbers → List Level → ℕ → Type 0
NoRoom None levels k = (k ≡ room None + 1) × (k ≤ length levels)
NoRoom (Some n) levels k =
    (k ≡ room (Some n) + 1) × (k ≤ length (frame_levels (Some n) levels)) × FrameBelow (frame_levels (Some n) levels) k

-- level k comes to be judged: the kit is taken, there is room for the level, and those below it are a frame
abbrev pub Reached : Option KitNumbers → List Level → ℕ → Type 0
Reached kit levels k = KitTaken kit × HasRoom kit levels k × FrameBelow (frame_levels kit levels) k

-- why each denial comes: it holds of the one that is told, and of no other
abbrev pub Reason : Option KitNumbers → List Level → FrameDenial → Type 0
Reason kit levels (TooManyLevels k) = KitTaken kit × NoRoom kit levels k
Reason kit levels (OutOfRange k) = Reached kit levels k × IsOutOfRange (frame_levels kit levels) k
Reason kit levels (TooHigh k) =
    Reached kit levels k × IsInRange (frame_levels kit levels) k × (height_limit < level_height (frame_levels kit levels) k)
Reason kit levels KitOutOfRange = (n : KitNumbers) × (kit ≡ Some n) × (kit_in_range n ≡ false)
Reason kit levels KitTooHigh = (n : KitNumbers) × (kit ≡ Some n) × (kit_in_range n ≡ true) × (height_limit < n.levels * n.height.0)

-- a frame is made of levels that are one, and denied for a reason
abbrev pub Reasoned : Option KitNumbers → List Level → Result OrderFrame (Failure FrameDenial) → Type 0
Reasoned kit levels (Ok f) = Sound (frame_levels kit levels)
Reasoned kit levels (Err (Denied d)) = Reason kit levels d
Reasoned kit levels (Err NoMemory) = Sound (frame_levels kit levels)

-- a denial that has a reason is told: so no other has one, and none has where a frame is made
abbrev pub ReasonTold : Option KitNumbers → List Level → Result OrderFrame (Failure FrameDenial) → Type 0
ReasonTold kit levels r = (d : FrameDenial) → Reason kit levels d → r ≡ Err (Denied d)
