-- Level heights are running sums of storey heights.
use Rattle.std.specs.Prelude.{◌+◌, cond, Some, None, Option, nat_le}
use Rattle.records.specs.declared.height.StoreyHeight.{StoreyHeight}
use Rattle.records.specs.declared.height.LevelHeight.{LevelHeight}
use Rattle.records.specs.Limits.{height_limit}

abbrev pub ground : LevelHeight
ground = record { 0 = 0 }

-- one storey further up; no level stands above 500 dm
abbrev pub raised : LevelHeight → StoreyHeight → Option LevelHeight
raised below storey = cond (nat_le (below.0 + storey.0) height_limit) (Some (record { 0 = below.0 + storey.0 })) None
