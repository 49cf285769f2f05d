-- The ceiling of a fraction: there is one, and it depends on the fraction's value alone.
use Rattle.std.proofs.Common.{◌≡◌, ℕ, ◌+◌, ◌*◌, ◌<◌, ◌≤◌, inl, inr, arith}
use Rattle.std.proofs.Math.Nat.{mul-le-mul_right, le_of_mul-le-mul_right}
use Rattle.std.proofs.lemmas.Bool.{cases_lt}
use Rattle.std.proofs.lemmas.Grind.{div_ceil_times}
use Rattle.std.specs.Int.{div_ceil}
use Rattle.spreading.specs.Ceilings.{IsCeiling}

-- dividing and rounding up gives the ceiling
pub div_ceil_is_ceiling : (n d : ℕ) → 0 < d → IsCeiling n d (div_ceil n d)
div_ceil_is_ceiling n d pos = let t = div_ceil_times n d pos in record { enough = t.0; near = t.1 }

-- the ceiling is at most every whole number that is not below the fraction
pub ceiling_least : (n d q m : ℕ) → 0 < d → IsCeiling n d q → n ≤ m * d → q ≤ m
ceiling_least n d q m pos c up =
    elim (cases_lt m q) [
      | inl lt ↦ let over : (m + 1) * d ≤ q * d = mul-le-mul_right d (omega arith) in absurd (omega (arith, c.near))
      | inr ge ↦ ge
    ]

-- a fraction has one ceiling
pub one_ceiling : (n d p q : ℕ) → 0 < d → IsCeiling n d p → IsCeiling n d q → p ≡ q
one_ceiling n d p q pos a b = omega (arith, ceiling_least n d p q pos a b.enough, ceiling_least n d q p pos b a.enough)

-- equal fractions have the same ceiling
pub equal_ceiling : (n d m e q : ℕ) → 0 < d → 0 < e → n * e ≡ m * d → IsCeiling n d q → IsCeiling m e q
equal_ceiling n d m e q pd pe same c = record {
  enough = le_of_mul-le-mul_right (let up : n * e ≤ q * d * e = mul-le-mul_right e c.enough in let z : m * d ≤ q * e * d = omega arith in z) pd;
  near = elim (cases_lt (q * e) (m + e)) [
    | inl lt ↦ lt
    | inr ge ↦
        let over : (m + e) * d ≤ q * e * d = mul-le-mul_right d ge in
        let near : (q * d + 1) * e ≤ (n + d) * e = mul-le-mul_right e (omega (arith, c.near)) in
        absurd (omega arith)
  ];
}

-- a greater numerator has no smaller ceiling
pub ceiling_rises : (m n d : ℕ) → 0 < d → m ≤ n → div_ceil m d ≤ div_ceil n d
ceiling_rises m n d some h =
    ceiling_least m d _ _ some (div_ceil_is_ceiling m d some) (omega (arith, (div_ceil_is_ceiling n d some).enough))

-- a multiple of the denominator is divided without rounding
pub ceiling_of_multiple : (a d : ℕ) → 0 < d → div_ceil (a * d) d ≡ a
ceiling_of_multiple a d some =
    one_ceiling (a * d) d _ a some (div_ceil_is_ceiling (a * d) d some) (record { enough = omega arith; near = omega arith })
