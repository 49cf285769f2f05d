-- How each field is written. Numbers are written by std's `decimal`, loads by its `signed_decimal`.
use Rattle.std.specs.Prelude.{ℕ, List, Some, None, codes, decimal, Option}
use Rattle.records.specs.declared.height.StoreyHeight.{StoreyHeight}
use Rattle.records.specs.declared.card.Soil.{Soil}
use Rattle.records.specs.declared.card.Soil.TheVariants.{I, II, III}
use Rattle.records.specs.declared.card.Group.{Group}
use Rattle.records.specs.declared.card.Group.TheVariants.{B, A, AA}
use Rattle.records.specs.declared.card.Walls.{Walls}
use Rattle.records.specs.declared.card.Walls.TheVariants.{Tied, Detached}

abbrev pub height_text : StoreyHeight → List ℕ
height_text h = decimal h.0

-- an unknown period is a lone minus
abbrev pub period_text : Option ℕ → List ℕ
period_text None = codes "-"
period_text (Some n) = decimal n

abbrev pub soil_text : Soil → List ℕ
soil_text I = codes "I"
soil_text II = codes "II"
soil_text III = codes "III"

abbrev pub group_text : Group → List ℕ
group_text B = codes "B"
group_text A = codes "A"
group_text AA = codes "AA"

-- W where the walls are tied to the frame, N where there are none or they are detached
abbrev pub walls_text : Walls → List ℕ
walls_text Tied = codes "W"
walls_text Detached = codes "N"
