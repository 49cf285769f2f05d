-- What is copied of a line.
use Rattle.std.proofs.Common.{ℕ, ◌≤◌, List, length, Some, None, Option, refl, arith}
use Rattle.std.specs.Option.{IsSome}
use Rattle.pen.specs.Tails.{CopiedTo}

-- what a buffer holds is copied
pub copied_whole :
    (text before after : List ℕ) (r : Option ℕ) → CopiedTo text before r after → length text ≤ length before → IsSome r
copied_whole text before after (Some n) copied room = refl
copied_whole text before after None copied room = absurd (omega (arith, copied.0))
