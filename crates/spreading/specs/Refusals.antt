-- When an amount is not spread, and what spreading answers.
use Rattle.std.specs.Prelude.{◌≡◌, ℕ, ◌*◌, ◌^◌, ◌==◌, ◌&&◌, Bool, cond, List, Some, None, Ok, Err, Option, Result, nat_lt, sum_by}
use Rattle.spreading.specs.declared.refusal.Unspread.{Unspread}
use Rattle.spreading.specs.declared.refusal.Unspread.TheVariants.{NoShares, TooLarge}
use Rattle.spreading.specs.Spreads.{spread_over}

-- what the arithmetic of 64 bits takes
abbrev pub fits : ℕ → Bool
fits n = nat_lt n (2 ^ 64)

-- why an amount is not spread over records whose shares have this total; nothing where it is
abbrev pub refusal : ℕ → ℕ → Option Unspread
refusal amount total = cond (total == 0) (Some NoShares) (cond (fits total && fits (amount * total)) None (Some TooLarge))

-- refused for this reason, with the records as they were; else spread
abbrev pub Answers : {R : Type 0} → (R → ℕ) → (R → ℕ → ℕ → R) → ℕ → List R → Option Unspread → Result (Unit {0}) Unspread → List R → Type 0
Answers share taken amount before (Some why) result after = (result ≡ Err why) × (after ≡ before)
Answers share taken amount before None result after = (result ≡ Ok tt) × (after ≡ spread_over share taken amount before)

-- what spreading answers, and the records after it
abbrev pub SpreadOrNot : {R : Type 0} → (R → ℕ) → (R → ℕ → ℕ → R) → ℕ → List R → Result (Unit {0}) Unspread → List R → Type 0
SpreadOrNot share taken amount before = Answers share taken amount before (refusal amount (sum_by share before))

-- the total, unless there is a reason against spreading
abbrev pub Spreadable : Option Unspread → ℕ → Result ℕ Unspread → Type 0
Spreadable (Some why) total result = result ≡ Err why
Spreadable None total result = result ≡ Ok total
