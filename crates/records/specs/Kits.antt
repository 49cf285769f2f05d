-- The levels that the numbers of a kit describe.
use Rattle.std.specs.Prelude.{ℕ}
use Rattle.records.specs.declared.level.Level.{Level}
use Rattle.records.specs.declared.kit_numbers.KitNumbers.{KitNumbers}

-- a level of the kit, with this weight
abbrev pub weighing : KitNumbers → ℕ → Level
weighing k w = record {
  weight = w;
  height = k.height;
  stiffness = k.stiffness;
  mass_centre = k.mass_centre;
  torsion_centre = k.torsion_centre;
  width = k.width;
}

-- each level but the last
abbrev pub floor : KitNumbers → Level
floor k = weighing k k.floor_weight

-- the last level
abbrev pub roof : KitNumbers → Level
roof k = weighing k k.roof_weight
