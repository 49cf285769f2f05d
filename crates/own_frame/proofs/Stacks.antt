-- Two frames, one over the other.
use Rattle.std.specs.Prelude.{◌≡◌, ℕ, ◌+◌, ◌-◌, ◌<◌, ◌≤◌, List, ◌++◌, length}
use Rattle.std.proofs.Common.{arith, length-append}
use Rattle.records.specs.declared.level.Level.{Level}
use Rattle.frames.specs.Levels.{Sound, height_of, level_at}
use Rattle.frames.specs.Lists.{limits, total_append, fit_append, sound_from}
use Rattle.frames.specs.Places.{at_low, at_high}

-- few enough and low enough together, they are a frame
pub sound_both : (xs ys : List Level) → Sound xs → Sound ys → length xs + length ys ≤ 24 → height_of xs + height_of ys ≤ 500 → Sound (xs ++ ys)
sound_both xs ys p q few low =
    sound_from (xs ++ ys)
    (omega (arith, length-append xs ys, few))
    (omega (arith, total_append (λ (l : Level). l.height.0) xs ys, low))
    (fit_append xs ys (limits xs p).each (limits ys q).each)

-- too many together, they are none
pub too_many : (xs ys : List Level) → 24 < length xs + length ys → ¬ Sound (xs ++ ys)
too_many xs ys many = λ s. absurd (omega (arith, length-append xs ys, many, (limits (xs ++ ys) s).few))

-- nor too high together
pub too_high : (xs ys : List Level) → 500 < height_of xs + height_of ys → ¬ Sound (xs ++ ys)
too_high xs ys high = λ s. absurd (omega (arith, total_append (λ (l : Level). l.height.0) xs ys, high, (limits (xs ++ ys) s).low))

-- which level stands at a number
pub level_low : (xs ys : List Level) (k : ℕ) → k ≤ length xs → level_at (xs ++ ys) k ≡ level_at xs k
level_low = at_low

pub level_high : (xs ys : List Level) (k : ℕ) → length xs < k → level_at (xs ++ ys) k ≡ level_at ys (k - length xs)
level_high = at_high
