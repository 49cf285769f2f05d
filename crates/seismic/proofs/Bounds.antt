-- How large the sums over bounded storeys get.
use Rattle.std.proofs.Common.{◌≡◌, ℕ, ◌*◌, ◌^◌, ◌<◌, ◌≤◌, List, length, drop, sum_by, true, arith}
use Rattle.std.proofs.Math.Nat.{mul-le-mul}
use Rattle.std.proofs.lemmas.Bool.Decides.{nat_tests}
use Rattle.std.proofs.lemmas.List.Elements.{All-from_recursion, All-weaker}
use Rattle.std.proofs.lemmas.List.Sums.{sum_by-le, sum_by-take-drop}
use Rattle.records.specs.declared.level.Level.{Level}
use Rattle.records.specs.Ranges.{level_fits}
use Rattle.seismic.specs.declared.storey.Storey.{Storey}
use Rattle.seismic.specs.Bounds.{AreBounded, IsBounded}
use Rattle.seismic.specs.Responses.{moment, weight}

-- the mass centre lies within the greatest width
centred : (l : Level) → level_fits l ≡ true → l.mass_centre ≤ 1000
centred l fits = grind (arith, nat_tests)

moment_most : (s : Storey) → IsBounded s → moment s ≤ 12000000000
moment_most s b = mul-le-mul b.force (centred s.level b.fits)

pub weight_most : (s : Storey) → IsBounded s → weight s ≤ 5000
weight_most s b = let fits = b.fits in grind (arith, nat_tests)

-- a sum over storeys, by what each brings at most
pub sum_most :
    (f : Storey → ℕ) (most : ℕ) → ((s : Storey) → IsBounded s → f s ≤ most) → (ss : List Storey) → AreBounded ss
    → sum_by f ss ≤ length ss * most
sum_most f most each ss b = sum_by-le f most ss (All-weaker IsBounded (λ (s : Storey). f s ≤ most) each ss (All-from_recursion IsBounded ss b.each))

pub moments_most : (ss : List Storey) → AreBounded ss → sum_by moment ss ≤ 288000000000
moments_most ss b = omega (arith, b.few, sum_most moment _ moment_most ss b)

pub weights_most : (ss : List Storey) → AreBounded ss → sum_by weight ss ≤ 120000
weights_most ss b = omega (arith, b.few, sum_most weight _ weight_most ss b)

-- so the sums fit
pub moments_fit : (ss : List Storey) → AreBounded ss → sum_by moment ss < 2 ^ 64
moments_fit ss b = omega (arith, moments_most ss b)

pub weights_fit : (ss : List Storey) → AreBounded ss → sum_by weight ss < 2 ^ 32
weights_fit ss b = omega (arith, weights_most ss b)

-- what is left of a sum is at most the whole
pub rest_most : (f : Storey → ℕ) (ss : List Storey) (i most : ℕ) → sum_by f ss ≤ most → sum_by f (drop i ss) ≤ most
rest_most f ss i most h = omega (arith, sum_by-take-drop f ss i)
