-- The range of each number of a level.
use Rattle.std.specs.Prelude.{ℕ, Bool, ◌&&◌, nat_le}
use Rattle.records.specs.declared.height.StoreyHeight.{StoreyHeight}
use Rattle.records.specs.declared.level.Level.{Level}

-- at least the first number and at most the second
abbrev pub from_to : ℕ → ℕ → ℕ → Bool
from_to least most n = nat_le least n && nat_le n most

-- tenths of a tonne
abbrev pub weight_fits : ℕ → Bool
weight_fits w = from_to 1 5000 w

-- dm
abbrev pub height_fits : StoreyHeight → Bool
height_fits h = from_to 20 60 h.0

-- kgf per mm
abbrev pub stiffness_fits : ℕ → Bool
stiffness_fits k = from_to 1 1000000 k

-- dm
abbrev pub width_fits : ℕ → Bool
width_fits b = from_to 1 1000 b

-- both centres lie within the plan
abbrev pub centres_fit : Level → Bool
centres_fit l = nat_le l.mass_centre l.width && nat_le l.torsion_centre l.width

-- each of the six numbers within its range
abbrev pub level_fits : Level → Bool
level_fits l = weight_fits l.weight && (height_fits l.height && (stiffness_fits l.stiffness && (centres_fit l && width_fits l.width)))
