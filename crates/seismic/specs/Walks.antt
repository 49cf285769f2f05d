-- A walk up the storeys, past one after another.
use Rattle.std.specs.Prelude.{ℕ, ◌+◌, ◌-◌, ◌*◌, ◌≤◌, List, take, drop, sum_by}
use Rattle.std.specs.Int.{abs_diff}
use Rattle.records.specs.declared.card.Card.{Card}
use Rattle.seismic.specs.declared.response.Response.{Response}
use Rattle.seismic.specs.declared.storey.Storey.{Storey}
use Rattle.seismic.specs.declared.walk.Walk.{Walk}
use Rattle.seismic.specs.Bounds.{IsBounded}
use Rattle.seismic.specs.Responses.{drift, moment, weight}

-- past the first i of some storeys: x so far, and the moment and the weight still to come
abbrev pub walk_at : Card → List Storey → ℕ → Walk
walk_at card storeys i = record {
  passed = i;
  displacement = sum_by (drift card) (take i storeys);
  moment = sum_by moment (drop i storeys);
  weight = sum_by weight (drop i storeys);
}

-- how the next storey answers
abbrev pub met : Card → Walk → Storey → Response
met card w s = record {
  number = w.passed + 1;
  storey = s;
  drift = drift card s;
  displacement = w.displacement + drift card s;
  twist = abs_diff w.moment (s.shear * s.level.torsion_centre);
  weight = w.weight;
}

-- the walk past it
abbrev pub past : Card → Walk → Storey → Walk
past card w s = record {
  passed = w.passed + 1;
  displacement = w.displacement + drift card s;
  moment = w.moment - moment s;
  weight = w.weight - weight s;
}

-- what the next storey brings is part of what is yet to come, and nothing is greater than 24 storeys make it
pub record CanMeet (w : Walk) (s : Storey) : Type 0 where
  pub storey : IsBounded s
  pub passed : w.passed ≤ 23
  pub displacement : w.displacement ≤ 110400000000
  pub part_of_moment : moment s ≤ w.moment
  pub moment_most : w.moment ≤ 288000000000
  pub part_of_weight : weight s ≤ w.weight
  pub weight_most : w.weight ≤ 120000
