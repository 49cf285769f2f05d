-- How large a number's digits can make it.
use Rattle.std.proofs.Common.{ℕ, ◌^◌, ◌≤◌, arith}
use native.Mathlib.Nat.{pow-le-pow_right}

pub ten_most : (n : ℕ) → n ≤ 8 → 10 ^ n ≤ 100000000
ten_most n h = pow-le-pow_right {n = 10} (omega arith) h
