-- The smallest whole number that is not below a fraction.
use Rattle.std.specs.Prelude.{ℕ, ◌+◌, ◌*◌, ◌<◌, ◌≤◌}

-- q is the smallest whole number that is not below n / d
pub record IsCeiling (n d q : ℕ) : Type 0 where
  -- q is not below it
  pub enough : n ≤ q * d
  -- and is less than 1 above it
  pub near : q * d < n + d
