-- The row of a storey.
use Rattle.std.specs.Prelude.{ℕ, ◌+◌, ◌*◌, ◌-ℤ◌, List, map, pos, max}
use Rattle.records.specs.declared.card.Card.{Card}
use Rattle.records.specs.declared.card.Soil.{Soil}
use Rattle.records.specs.declared.card.Soil.TheVariants.{I, II, III}
use Rattle.seismic.specs.declared.response.Response.{Response}
use Rattle.seismic.specs.declared.row.Row.{Row}
use Rattle.seismic.specs.declared.storey.Storey.{Storey}
use Rattle.seismic.specs.Responses.{responses}

-- p, by which a level moves aside on a soil: hundredths of a mm to a dm of its height
abbrev pub sway : Soil → ℕ
sway I = 10
sway II = 30
sway III = 60

-- s: the greater of 5,000 and x + p × H
abbrev pub separation : Card → Response → ℕ
separation card l = max 5000 (l.displacement + sway card.soil * l.storey.height.0)

-- b × V, in kgf·dm
abbrev pub width_times_shear : Response → ℕ
width_times_shear l = l.storey.level.width * l.storey.shear

-- Ma = 15 × |N| + b × V and Mb = 10 × |N| − b × V
abbrev pub row_of : Card → Response → Row
row_of card l = record {
  level = l.number;
  weight = l.storey.level.weight;
  height = l.storey.height;
  force = l.storey.force;
  shear = l.storey.shear;
  drift = l.drift;
  displacement = l.displacement;
  ma = 15 * l.twist + width_times_shear l;
  mb = pos (10 * l.twist) -ℤ pos (width_times_shear l);
  separation = separation card l;
}

-- a row a storey, from below
abbrev pub rows_of : Card → List Storey → List Row
rows_of card storeys = map (row_of card) (responses card storeys)
