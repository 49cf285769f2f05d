-- The limits of a storey, and the first that it breaks.
use Rattle.std.specs.Prelude.{ℕ, ◌*◌, Bool, ◌&&◌, cond, Some, None, Option, nat_le, nat_lt}
use Rattle.records.specs.declared.card.Card.{Card}
use Rattle.records.specs.declared.card.Walls.{Walls}
use Rattle.records.specs.declared.card.Walls.TheVariants.{Tied, Detached}
use Rattle.cards.specs.Shears.{factor}
use Rattle.seismic.specs.declared.response.Response.{Response}
use Rattle.seismic.specs.declared.verdict.Limit.{Limit}
use Rattle.seismic.specs.declared.verdict.Limit.TheVariants.{Drift, Eccentricity, SecondOrder, Gap}
use Rattle.seismic.specs.Rows.{width_times_shear, separation}

-- the place of a limit in their order
abbrev pub limit_number : Limit → ℕ
limit_number Drift = 1
limit_number Eccentricity = 2
limit_number SecondOrder = 3
limit_number Gap = 4

-- how far a storey with such walls may move, in hundredths of a mm to a dm of its height
abbrev pub allowance : Walls → ℕ
allowance Tied = 60
allowance Detached = 120

-- whether a storey breaks a limit
abbrev pub breaks : Card → Response → Limit → Bool
breaks card l Drift = nat_lt (allowance card.walls * l.storey.level.height.0) l.drift
breaks card l Eccentricity = nat_le 30 (factor card) && nat_lt (width_times_shear l) (5 * l.twist)
breaks card l SecondOrder = nat_lt (8 * (card.load_factor * (l.storey.shear * l.storey.level.height.0))) (100 * (l.drift * l.weight))
breaks card l Gap = nat_lt (100 * card.gap) (separation card l)

abbrev pub first_broken : Card → Response → Option Limit
first_broken card l =
    cond (breaks card l Drift) (Some Drift)
    (cond (breaks card l Eccentricity) (Some Eccentricity)
    (cond (breaks card l SecondOrder) (Some SecondOrder)
    (cond (breaks card l Gap) (Some Gap) None)))
