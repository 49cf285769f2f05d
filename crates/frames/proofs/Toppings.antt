-- A topping's list, level by level, and what one storey more makes of it.
use Rattle.std.proofs.Common.{◌≡◌, ℕ, ◌+◌, ◌-◌, ◌<◌, ◌≤◌, true, not, ltb, List, [], ◌∷◌, ◌++◌, length, is_some, None, refl, ap, ◌∙◌, arith, length-append}
use Rattle.std.proofs.lemmas.Bool.{and_parts, and_from, cond-false, le-ltb, ltb-false, not_from_true}
use Rattle.records.specs.declared.level.Level.{Level}
use Rattle.records.specs.Ranges.{level_fits}
use Rattle.frames.specs.declared.denial.FrameDenial.TheVariants.{OutOfRange, TooHigh}
use Rattle.frames.specs.Cases.{two_passed}
use Rattle.frames.specs.Levels.{Sound, all_fit, height_of, level_at}
use Rattle.frames.specs.Lists.{fit_append, limits, sound_from, total_append}
use Rattle.frames.specs.Steps.{standing, stacked, step_denial}
use Rattle.frames.specs.Stacks.{standing_at}
use Rattle.frames.specs.Places.{at_low, at_high, at_beyond}

-- a level that is in range and low enough is not denied for its step
pub no_step_denial : (k h : ℕ) (l : Level) → level_fits l ≡ true → h + l.height.0 ≤ 500 → step_denial k h l ≡ None
no_step_denial k h l fits low = cond-false (not (level_fits l)) _ _ (not_from_true _ fits) ∙ cond-false (ltb 500 (h + l.height.0)) _ _ (le-ltb _ _ low)

-- what fits as a whole fits from any level up
pub fit_over : (ls own : List Level) → all_fit (ls ++ own) ≡ true → all_fit own ≡ true
fit_over [] own fit = fit
fit_over (l ∷ ls) own fit = fit_over ls own (and_parts (level_fits l) (all_fit (ls ++ own)) fit).1

-- one level more keeps a frame a frame
pub sound_more : (base : List Level) (l : Level) → Sound base → length base < 24 → step_denial (length base) (height_of base) l ≡ None → Sound (base ++ l ∷ [])
sound_more base l s few good =
    let m = limits base s in
    let p = two_passed (level_fits l) (ltb 500 (height_of base + l.height.0)) (OutOfRange (length base + 1)) (TooHigh (length base + 1)) (ap is_some good) in
    sound_from (base ++ l ∷ [])
    (omega (arith, length-append base (l ∷ []), few))
    (omega (arith, total_append (λ (x : Level). x.height.0) base (l ∷ []), ltb-false _ _ p.1))
    (fit_append base (l ∷ []) m.each (and_from (level_fits l) true p.0 refl))

-- the levels of a list with storeys on it
module _ (ls own : List Level) where
  pub level_below : (k : ℕ) → k ≤ length ls → level_at (stacked ls own) k ≡ level_at ls k
  level_below k low = at_low ls (standing (length ls) (height_of ls) own) k low

  pub level_own : (k : ℕ) → length ls < k → k ≤ length (stacked ls own) → level_at (stacked ls own) k ≡ level_at own (k - length ls)
  level_own k high within =
      let top = standing (length ls) (height_of ls) own in
      at_high ls top k high ∙ standing_at (length ls) (height_of ls) own (k - length ls) (omega (arith, within, length-append ls top))

  pub level_beyond : (k : ℕ) → length (stacked ls own) < k → level_at (stacked ls own) k ≡ None
  level_beyond k past = at_beyond (stacked ls own) k past
