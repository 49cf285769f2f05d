-- How a storey answers to its shear, with those below and above it.
use Rattle.std.specs.Prelude.{ℕ, ◌+◌, ◌*◌, List, [], ◌∷◌, take, drop, sum_by}
use Rattle.std.specs.Int.{div_ceil, abs_diff}
use Rattle.records.specs.declared.card.Card.{Card}
use Rattle.cards.specs.Shears.{factor}
use Rattle.seismic.specs.declared.storey.Storey.{Storey}
use Rattle.seismic.specs.declared.response.Response.{Response}

-- u: the smallest whole number of hundredths of a mm that is not below 100 × Q × V / K; the factor is Q in tenths
abbrev pub drift : Card → Storey → ℕ
drift card s = div_ceil (10 * (factor card * s.shear)) s.level.stiffness

-- F × mass centre, in kgf·dm
abbrev pub moment : Storey → ℕ
moment s = s.force * s.level.mass_centre

abbrev pub weight : Storey → ℕ
weight s = s.level.weight

-- |N|, in kgf·dm, of the lowest of some storeys: the sum of F × mass centre over all of them, less its V × torsion centre
abbrev pub twist : Storey → List Storey → ℕ
twist s above = abs_diff (sum_by moment above) (s.shear * s.level.torsion_centre)

-- of storey i + 1 of some storeys: x sums the movements up to it, N and the weight sum from it up
abbrev pub response : Card → List Storey → ℕ → Storey → Response
response card storeys i s = record {
  number = i + 1;
  storey = s;
  drift = drift card s;
  displacement = sum_by (drift card) (take (i + 1) storeys);
  twist = twist s (drop i storeys);
  weight = sum_by weight (drop i storeys);
}

-- a list made of another, place by place; each place told by how many are before it
abbrev pub map_placed : {X Y : Type 0} → (ℕ → X → Y) → ℕ → List X → List Y
map_placed f i [] = []
map_placed f i (x ∷ xs) = f i x ∷ map_placed f (i + 1) xs

abbrev pub responses : Card → List Storey → List Response
responses card storeys = map_placed (response card storeys) 0 storeys
