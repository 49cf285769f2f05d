-- The value of a fraction, and of products and quotients of fractions.
use Rattle.std.proofs.Common.{◌≡◌, ℕ, ◌*◌, ◌<◌, ◌≤◌, max, nat_le, inl, inr, subst, arith}
use Rattle.std.proofs.Math.Nat.{mul-pos, mul-le-mul_right, le_of_mul-le-mul_right}
use Rattle.std.proofs.lemmas.Bool.{cond_both, leb-true, leb-false, cases_lt}
use Rattle.cards.specs.Fractions.{Fraction, over, times, divided_by, at_least_one}

-- the fraction has a value, and this is n / d
pub record Equals (f : Fraction) (n d : ℕ) : Type 0 where
  pub some : 0 < f.den
  pub same : f.num * d ≡ n * f.den

-- a product has the product of the values
pub times_equals : (a b : Fraction) (n d m e : ℕ) → Equals a n d → Equals b m e → Equals (times a b) (n * m) (d * e)
times_equals a b n d m e p q = record {
  some = mul-pos p.some q.some;
  same = let both : a.num * d * (b.num * e) ≡ n * a.den * (m * b.den) = cc in omega arith;
}

-- a quotient by a fraction above 0 has the quotient of the values
pub divided_equals : (a b : Fraction) (n d m e : ℕ) → 0 < m → Equals a n d → Equals b m e → Equals (divided_by a b) (n * e) (d * m)
divided_equals a b n d m e pos p q =
    let up : 0 < m * b.den = mul-pos pos q.some in
    let some : 0 < b.num = elim (cases_lt 0 b.num) [
      | inl lt ↦ lt
      | inr ge ↦ let z : b.num ≡ 0 = omega arith in let none : b.num * e ≡ 0 * e = cc in absurd (omega (arith, q.same))
    ] in
    record {
      some = mul-pos p.some some;
      same = let both : a.num * d * (m * b.den) ≡ n * a.den * (b.num * e) = cc in omega arith;
    }

-- the greater of n / d and 1 is the greater of n and d, over d
pub at_least_one_equals : (f : Fraction) (n d : ℕ) → 0 < d → Equals f n d → Equals (at_least_one f) (max n d) d
at_least_one_equals f n d pos p =
    cond_both (nat_le f.den f.num) f (over 1 1) (λ (g : Fraction). Equals g (max n d) d)
    (λ t.
    let up : f.den * d ≤ f.num * d = mul-le-mul_right d (leb-true _ _ t) in
    let over_one : d ≤ n = le_of_mul-le-mul_right (let z : d * f.den ≤ n * f.den = omega (arith, p.same) in z) p.some in
    let e : n ≡ max n d = omega arith in
    subst (λ (m : ℕ). Equals f m d) e p)
    (λ t.
    let down : f.num * d ≤ f.den * d = mul-le-mul_right d (omega (arith, leb-false f.den f.num t)) in
    let under_one : n ≤ d = le_of_mul-le-mul_right (let z : n * f.den ≤ d * f.den = omega (arith, p.same) in z) p.some in
    record { some = omega arith; same = omega arith })
