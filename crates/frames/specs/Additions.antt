-- When one level more may not come onto a topping.
use Rattle.std.specs.Prelude.{ℕ, ◌+◌, cond, Some, Option, nat_le}
use Rattle.records.specs.declared.level.Level.{Level}
use Rattle.frames.specs.declared.denial.FrameDenial.{FrameDenial}
use Rattle.frames.specs.declared.denial.FrameDenial.TheVariants.{TooManyLevels}
use Rattle.frames.specs.Steps.{step_denial}
use Rattle.records.specs.Limits.{level_limit, storey_limit}

-- the denial of one level more, on n levels of which s are the topping's own, with the top at h dm
abbrev pub add_denial : ℕ → ℕ → ℕ → Level → Option FrameDenial
add_denial n s h l =
    cond (nat_le level_limit n) (Some (TooManyLevels (n + 1)))
    (cond (nat_le storey_limit s) (Some (TooManyLevels (n + 1)))
    (step_denial n h l))
