-- When nothing stands against spreading.
use Rattle.std.proofs.Common.{◌≡◌, ℕ, ◌*◌, ◌^◌, ◌<◌, None, arith}
use Rattle.std.proofs.lemmas.Bool.Decides.{nat_tests}
use Rattle.spreading.specs.Refusals.{refusal}

pub may_spread : (amount total : ℕ) → 0 < total → total < 2 ^ 64 → amount * total < 2 ^ 64 → refusal amount total ≡ None
may_spread amount total some few low = grind (arith, nat_tests)
