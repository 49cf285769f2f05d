-- Which numbers make a kit, and the list that they describe.
use Rattle.std.specs.Prelude.{◌-◌, ◌*◌, Bool, cond, not, ◌&&◌, List, [], ◌∷◌, ◌++◌, replicate, Some, None, Option, nat_lt}
use Rattle.records.specs.declared.kit_numbers.KitNumbers.{KitNumbers}
use Rattle.records.specs.declared.level.Level.{Level}
use Rattle.records.specs.Kits.{floor, roof}
use Rattle.records.specs.Ranges.{from_to, level_fits}
use Rattle.frames.specs.declared.denial.FrameDenial.{FrameDenial}
use Rattle.frames.specs.declared.denial.FrameDenial.TheVariants.{KitOutOfRange, KitTooHigh}
use Rattle.records.specs.Limits.{level_limit, height_limit}

-- 1 to 24 levels, and each number of the floors and of the roof within its range;
-- the floor weight is checked in a kit of one level too
abbrev pub kit_in_range : KitNumbers → Bool
kit_in_range n = from_to 1 level_limit n.levels && (level_fits (floor n) && level_fits (roof n))

-- the denial of a kit: its ranges go before its height
abbrev pub kit_denial : KitNumbers → Option FrameDenial
kit_denial n =
    cond (not (kit_in_range n)) (Some KitOutOfRange)
    (cond (nat_lt height_limit (n.levels * n.height.0)) (Some KitTooHigh) None)

-- floors, and the roof over them
abbrev pub kit_list : KitNumbers → List Level
kit_list n = replicate (n.levels - 1) (floor n) ++ roof n ∷ []
