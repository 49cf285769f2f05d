-- The list of a kit, and what making one answers.
use Rattle.std.specs.Prelude.{◌≡◌, ℕ, ◌<◌, ◌≤◌, List, length, Some, None, Ok, Err, Result}
use Rattle.records.specs.declared.kit_numbers.KitNumbers.{KitNumbers}
use Rattle.records.specs.declared.level.Level.{Level}
use Rattle.records.specs.Kits.{floor, roof}
use Rattle.frames.specs.declared.denial.FrameDenial.{FrameDenial}
use Rattle.frames.specs.declared.kit.Kit.{Kit}
use Rattle.frames.specs.Kits.{kit_denial, kit_list}
use Rattle.frames.specs.Levels.{level_at}

abbrev pub made_list : Kit → List Level
made_list k = kit_list k.numbers

-- a kit of exactly these numbers, or the denial
abbrev pub Made : KitNumbers → Result Kit FrameDenial → Type 0
Made n (Ok k) = (kit_denial n ≡ None) × (k.numbers ≡ n) × (made_list k ≡ kit_list n)
Made n (Err d) = kit_denial n ≡ Some d

-- level by level: each below the last is a floor, the last is the roof, and there is no other
pub record Alike (n : KitNumbers) (ls : List Level) : Type 0 where
  pub count : length ls ≡ n.levels
  pub floors : (k : ℕ) → 1 ≤ k → k < n.levels → level_at ls k ≡ Some (floor n)
  pub last : level_at ls n.levels ≡ Some (roof n)
  pub none : level_at ls 0 ≡ None
  pub above : (k : ℕ) → n.levels < k → level_at ls k ≡ None

abbrev pub MadeAlike : KitNumbers → Result Kit FrameDenial → Type 0
MadeAlike n (Ok k) = Alike n (made_list k)
MadeAlike n (Err d) = Unit {0}

-- the same of numbers that passed
abbrev pub CheckedAlike : KitNumbers → Result (Unit {0}) FrameDenial → Type 0
CheckedAlike n (Ok _) = Alike n (kit_list n)
CheckedAlike n (Err d) = Unit {0}
