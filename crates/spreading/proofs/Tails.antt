-- Spreading from the last record to the first.
use Rattle.std.proofs.Common.{◌≡◌, ℕ, ◌+◌, ◌-◌, ◌*◌, ◌<◌, ◌≤◌, List, [], ◌∷◌, length, take, drop, get_or, set, sum_by, sym, refl, ap, ◌∙◌, arith}
use Rattle.std.proofs.Math.Nat.{mul-le-mul_left}
use Rattle.std.proofs.lemmas.List.{drop_more, get_or-take, take-set, take-take}
use Rattle.std.proofs.lemmas.List.Sums.{sum_by-cons, sum_by-take-drop}
use Rattle.std.proofs.lemmas.Grind.{drop-set_at}
use Rattle.std.specs.Int.{div_ceil}
use Rattle.spreading.specs.Spreads.{tail}
use Rattle.spreading.proofs.Ceilings.{div_ceil_is_ceiling, one_ceiling, ceiling_rises}

-- no share falls to no record
pub tail_of_none : {R : Type 0} (share : R → ℕ) (amount total : ℕ) → 0 < total → tail share amount total [] ≡ 0
tail_of_none share amount total some =
    one_ceiling (amount * 0) total _ 0 some (div_ceil_is_ceiling (amount * 0) total some)
    (record { enough = omega arith; near = omega arith })

-- The first part of some conclusions below says nothing: it shows `grind` the call to match.

-- with more shares no tail is smaller
pub tail_rises :
    (amount shares more total : ℕ) → 0 < total →
    (div_ceil (amount * (shares + more)) total ≡ div_ceil (amount * (shares + more)) total)
    × (div_ceil (amount * shares) total ≤ div_ceil (amount * (shares + more)) total)
tail_rises amount shares more total some = (refl, ceiling_rises _ _ total some (mul-le-mul_left amount (omega arith)))

-- one record back, the rest begins with that record
pub drop_back :
    {X : Type 0} (xs : List X) (i : ℕ) (d : X) → 0 < i → i ≤ length xs →
    (get_or xs (i - 1) d ≡ get_or xs (i - 1) d) × (drop (i - 1) xs ≡ get_or xs (i - 1) d ∷ drop i xs)
drop_back {X = X} xs i d some inside =
    let back : (i - 1) + 1 ≡ i = omega arith in
    (refl, drop_more xs (i - 1) d (omega arith) ∙ ap (λ (k : ℕ). get_or xs (i - 1) d ∷ drop k xs) back)

-- one record back, the shares of the rest are still within the total
pub sum_back :
    {X : Type 0} (f : X → ℕ) (xs : List X) (i : ℕ) →
    (sum_by f (drop i xs) ≡ sum_by f (drop i xs)) × (sum_by f (drop (i - 1) xs) ≤ sum_by f xs)
sum_back f xs i = (refl, omega (arith, sum_by-take-drop f xs (i - 1)))

-- a record written one back stands before the rest
pub drop_written :
    {X : Type 0} (xs : List X) (i : ℕ) (y : X) → 0 < i → i ≤ length xs →
    drop (i - 1) (set xs (i - 1) y) ≡ y ∷ drop i xs
drop_written xs i y some inside =
    let back : (i - 1) + 1 ≡ i = omega arith in
    drop-set_at xs (i - 1) (i - 1) y refl (omega arith) ∙ ap (λ (k : ℕ). y ∷ drop k xs) back

-- a record written one back leaves those before it
pub take_written :
    {X : Type 0} (xs : List X) (i : ℕ) (y : X) → 0 < i →
    take (i - 1) (set xs (i - 1) y) ≡ take (i - 1) (take i xs)
take_written xs i y some = take-set xs (i - 1) y ∙ sym (take-take (i - 1) i xs (omega arith))

-- what the proof of one step of the loop cites
pub ruleset one_back = (tail_rises, drop_back, sum_back, drop_written, take_written, sum_by-cons, get_or-take, take-take)
