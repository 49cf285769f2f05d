-- One level more on a stack.
use Rattle.std.specs.Prelude.{◌≡◌, ℕ, ◌+◌, true, false, cond, Some, None, Ok, Err, Option, Result, nat_le}
use Rattle.records.specs.declared.level.Level.{Level}
use Rattle.records.specs.Limits.{level_limit}
use Rattle.frames.specs.declared.denial.FrameDenial.{FrameDenial}
use Rattle.frames.specs.declared.denial.FrameDenial.TheVariants.{TooManyLevels}
use Rattle.frames.specs.declared.stack.Stack.{Stack}
use Rattle.frames.specs.Steps.{step_denial, stands}

-- why a level may not come onto k levels whose top is at h dm: the count goes first
abbrev pub stack_denial : ℕ → ℕ → Level → Option FrameDenial
stack_denial k h l = cond (nat_le level_limit k) (Some (TooManyLevels (k + 1))) (step_denial k h l)

-- the stack with the level on top, or the denial
abbrev pub Stepped : Stack → Level → Result Stack FrameDenial → Type 0
Stepped s l (Ok t) = (stack_denial s.levels s.top.0 l ≡ None) × (t.levels ≡ s.levels + 1) × (t.top.0 ≡ s.top.0 + l.height.0)
Stepped s l (Err d) = stack_denial s.levels s.top.0 l ≡ Some d

-- the stack with the storey on it, or nothing where it may not stand
abbrev pub Stood : Stack → Level → Option Stack → Type 0
Stood s l (Some t) = (stands s.levels s.top.0 l ≡ true) × (t.levels ≡ s.levels + 1) × (t.top.0 ≡ s.top.0 + l.height.0)
Stood s l None = stands s.levels s.top.0 l ≡ false
