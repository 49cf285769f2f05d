-- How each record lies in its line: its fields in their order.
use Rattle.std.specs.Prelude.{Some, Option}
use Rattle.records.specs.declared.card.Card.{Card}
use Rattle.records.specs.declared.kit_numbers.KitNumbers.{KitNumbers}
use Rattle.records.specs.declared.level.Level.{Level}
use Rattle.records.specs.declared.line.Line.{Line}
use Rattle.tokens.specs.Fields.{as_number, as_height, as_load, as_period, as_mark}
use Rattle.tokens.specs.Marks.{soil_named, group_named, walls_named}
use Rattle.tokens.specs.Said.{Said}
use Rattle.tokens.specs.TextLines.{Left, then, next_field}

-- a field comes next in the line, and then the others
abbrev pub reading : {X A : Type 0} → (Said → Option X) → (X → Left → Option (A × Left)) → Left → Option (A × Left)
reading m others ws = then (next_field m ws) (λ p. others p.0 p.1)

-- all fields are read
abbrev pub all_read : {A : Type 0} → A → Left → Option (A × Left)
all_read x ws = Some (x, ws)

abbrev pub read_kit : Left → Option (KitNumbers × Left)
read_kit =
    reading as_number (λ levels.
    reading as_number (λ floor_weight.
    reading as_number (λ roof_weight.
    reading as_height (λ height.
    reading as_number (λ stiffness.
    reading as_number (λ mass_centre.
    reading as_number (λ torsion_centre.
    reading as_number (λ width.
    all_read (record {
      levels = levels;
      floor_weight = floor_weight;
      roof_weight = roof_weight;
      height = height;
      stiffness = stiffness;
      mass_centre = mass_centre;
      torsion_centre = torsion_centre;
      width = width;
    })))))))))

abbrev pub read_level : Left → Option (Level × Left)
read_level =
    reading as_number (λ weight.
    reading as_height (λ height.
    reading as_number (λ stiffness.
    reading as_number (λ mass_centre.
    reading as_number (λ torsion_centre.
    reading as_number (λ width.
    all_read (record {
      weight = weight;
      height = height;
      stiffness = stiffness;
      mass_centre = mass_centre;
      torsion_centre = torsion_centre;
      width = width;
    })))))))

abbrev pub read_load : Left → Option (Line × Left)
read_load =
    reading as_number (λ level.
    reading as_load (λ load.
    all_read (record { level = level; load = load })))

abbrev pub read_card : Left → Option (Card × Left)
read_card =
    reading (as_mark soil_named) (λ soil.
    reading (as_mark group_named) (λ group.
    reading as_number (λ c.
    reading as_number (λ a0.
    reading as_number (λ ta.
    reading as_number (λ tb.
    reading as_period (λ period.
    reading as_number (λ q.
    reading as_number (λ correction.
    reading (as_mark walls_named) (λ walls.
    reading as_number (λ load_factor.
    reading as_number (λ gap.
    all_read (record {
      soil = soil;
      group = group;
      c = c;
      a0 = a0;
      ta = ta;
      tb = tb;
      period = period;
      q = q;
      correction = correction;
      walls = walls;
      load_factor = load_factor;
      gap = gap;
    })))))))))))))
