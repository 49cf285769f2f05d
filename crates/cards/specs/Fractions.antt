-- Fractions of whole numbers, and sums, products and quotients of them.
use Rattle.std.specs.Prelude.{ℕ, ◌+◌, ◌*◌, cond, nat_le}

pub record Fraction : Type 0 where
  pub num : ℕ
  pub den : ℕ

abbrev pub over : ℕ → ℕ → Fraction
over n d = record { num = n; den = d }

abbrev pub plus : Fraction → Fraction → Fraction
plus a b = over (a.num * b.den + b.num * a.den) (a.den * b.den)

abbrev pub times : Fraction → Fraction → Fraction
times a b = over (a.num * b.num) (a.den * b.den)

abbrev pub divided_by : Fraction → Fraction → Fraction
divided_by a b = over (a.num * b.den) (a.den * b.num)

abbrev pub at_least_one : Fraction → Fraction
at_least_one a = cond (nat_le a.den a.num) a (over 1 1)
