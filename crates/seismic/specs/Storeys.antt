-- The storeys of a list of levels, and what falls to each.
use Rattle.std.specs.Prelude.{ℕ, ◌+◌, ◌*◌, List, [], ◌∷◌, sum_by}
use Rattle.records.specs.declared.card.Card.{Card}
use Rattle.records.specs.declared.level.Level.{Level}
use Rattle.spreading.specs.Spreads.{spread_over}
use Rattle.cards.specs.Shears.{base_shear}
use Rattle.frames.specs.Levels.{weight_of}
use Rattle.seismic.specs.declared.storey.Storey.{Storey}

-- a storey under a level at the height H, before anything falls to it: its share is 19 × weight × H
abbrev pub storey_of : Level → ℕ → Storey
storey_of l h = record { level = l; height = record { 0 = h }; share = 19 * (l.weight * h); shear = 0; force = 0 }

-- the storeys of levels that begin at the height h, before the top has more
abbrev pub storeys_from : ℕ → List Level → List Storey
storeys_from h [] = []
storeys_from h (l ∷ ls) = storey_of l (h + l.height.0) ∷ storeys_from (h + l.height.0) ls

abbrev pub bare : List Level → List Storey
bare ls = storeys_from 0 ls

-- weight × H
abbrev pub product : Storey → ℕ
product s = s.level.weight * s.height.0

-- P: the sum of weight × H over all levels
abbrev pub products : List Level → ℕ
products ls = sum_by product (bare ls)

-- storeys of which the top has a share greater by p
abbrev pub crowned : ℕ → List Storey → List Storey
crowned p [] = []
crowned p (top ∷ []) = record top { share = top.share + p } ∷ []
crowned p (s ∷ t ∷ ss) = s ∷ crowned p (t ∷ ss)

-- the top has P more
abbrev pub storeys : List Level → List Storey
storeys ls = crowned (products ls) (bare ls)

-- the tail of what is spread is the storey's shear V, the part the force F
abbrev pub taken : Storey → ℕ → ℕ → Storey
taken s tail part = record s { shear = tail; force = part }

-- the storeys with an amount spread over them
abbrev pub sheared : ℕ → List Level → List Storey
sheared amount ls = spread_over (λ (s : Storey). s.share) taken amount (storeys ls)

-- V0 of the levels
abbrev pub base_of : Card → List Level → ℕ
base_of card ls = base_shear card (weight_of ls)
