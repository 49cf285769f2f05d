-- An amount spread over records, each with a whole share of it.
use Rattle.std.specs.Prelude.{◌≡◌, ℕ, ◌-◌, ◌*◌, List, [], ◌∷◌, length, drop, sum_by}
use Rattle.std.specs.Int.{div_ceil}
use Rattle.spreading.specs.Ceilings.{IsCeiling}

-- the tail at the first of some records: what falls to these together, rounded up, where `total` is the sum of
-- all shares
abbrev pub tail : {R : Type 0} → (R → ℕ) → ℕ → ℕ → List R → ℕ
tail share amount total records = div_ceil (amount * sum_by share records) total

-- the records from one to the last, each with its tail and its part, which is its tail less the next one's
abbrev pub spread_from : {R : Type 0} → (R → ℕ) → (R → ℕ → ℕ → R) → ℕ → ℕ → List R → List R
spread_from share taken amount total [] = []
spread_from share taken amount total (r ∷ rs) =
    taken r (tail share amount total (r ∷ rs)) (tail share amount total (r ∷ rs) - tail share amount total rs)
    ∷ spread_from share taken amount total rs

-- all records, with the amount spread over them
abbrev pub spread_over : {R : Type 0} → (R → ℕ) → (R → ℕ → ℕ → R) → ℕ → List R → List R
spread_over share taken amount records = spread_from share taken amount (sum_by share records) records

-- the law: `after` has an amount spread over the records that were `before`
pub record IsSpread {R : Type 0} (share part : R → ℕ) (amount : ℕ) (before after : List R) : Type 0 where
  -- no record is lost or added
  pub count : length after ≡ length before
  -- the parts add up to the amount
  pub parts_add_up : sum_by part after ≡ amount
  -- from each record on, they add up to the smallest whole number that is not below the exact share of these records
  pub near_exact_share : (i : ℕ) → IsCeiling (amount * sum_by share (drop i before)) (sum_by share before) (sum_by part (drop i after))
