-- The marks of the card.
use Rattle.std.specs.Prelude.{ℕ, cond, List, Some, None, codes, Option}
use Rattle.std.specs.Str.{bytes_eq}
use Rattle.records.specs.declared.card.Soil.{Soil}
use Rattle.records.specs.declared.card.Soil.TheVariants.{I, II, III}
use Rattle.records.specs.declared.card.Group.{Group}
use Rattle.records.specs.declared.card.Group.TheVariants.{B, A, AA}
use Rattle.records.specs.declared.card.Walls.{Walls}
use Rattle.records.specs.declared.card.Walls.TheVariants.{Tied, Detached}

abbrev pub soil_named : List ℕ → Option Soil
soil_named w = cond (bytes_eq w (codes "I")) (Some I) (cond (bytes_eq w (codes "II")) (Some II) (cond (bytes_eq w (codes "III")) (Some III) None))

abbrev pub group_named : List ℕ → Option Group
group_named w = cond (bytes_eq w (codes "B")) (Some B) (cond (bytes_eq w (codes "A")) (Some A) (cond (bytes_eq w (codes "AA")) (Some AA) None))

abbrev pub walls_named : List ℕ → Option Walls
walls_named w = cond (bytes_eq w (codes "W")) (Some Tied) (cond (bytes_eq w (codes "N")) (Some Detached) None)
