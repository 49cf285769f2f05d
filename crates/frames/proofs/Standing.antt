-- What of some storeys stands on a stack, storey by storey.
use Rattle.std.proofs.Common.{◌≡◌, ℕ, zero, suc, ◌+◌, ◌<◌, ◌≤◌, Bool, true, false, not, ◌&&◌, ltb, List, [], ◌∷◌, length, get_or, take, drop, is_some, Some, refl, ap, ◌∙◌, arith}
use Rattle.std.proofs.lemmas.Bool.{and_from, and_parts, cond-false, cond-true, le-ltb, lt-ltb, not_from_true}
use Rattle.std.proofs.lemmas.List.{at_drop_all, at_drop_more}
use Rattle.records.specs.declared.level.Level.{Level}
use Rattle.records.specs.Ranges.{level_fits}
use Rattle.frames.specs.declared.denial.FrameDenial.TheVariants.{TooHigh}
use Rattle.frames.specs.Levels.{all_fit, height_of}
use Rattle.frames.specs.Steps.{standing, stands, step_denial}
use Rattle.frames.proofs.Toppings.{no_step_denial}

-- what a read past the end would give
abbrev pub blank : Level
blank = record { weight = 0; height = record { 0 = 0 }; stiffness = 0; mass_centre = 0; torsion_centre = 0; width = 0 }

and_false : (b : Bool) → b && false ≡ false
and_false true = refl
and_false false = refl

-- a level in range stands, but for the count and the height
module _ (k h : ℕ) (l : Level) (fits : level_fits l ≡ true) where
  pub stands_there : k < 24 → h + l.height.0 ≤ 500 → stands k h l ≡ true
  stands_there room low = and_from (ltb k 24) _ (lt-ltb _ _ room) (ap (λ o. not (is_some o)) (no_step_denial k h l fits low))

  pub falls_for_count : 24 ≤ k → stands k h l ≡ false
  falls_for_count many = ap (λ b. b && not (is_some (step_denial k h l))) (le-ltb _ _ many)

  pub falls_for_height : 500 < h + l.height.0 → stands k h l ≡ false
  falls_for_height high =
      let denied : step_denial k h l ≡ Some (TooHigh (k + 1)) =
      cond-false (not (level_fits l)) _ _ (not_from_true _ fits) ∙ cond-true (ltb 500 (h + l.height.0)) _ _ (lt-ltb _ _ high) in
      ap (λ o. ltb k 24 && not (is_some o)) denied ∙ and_false (ltb k 24)

pub fits_at : (ls : List Level) (i : ℕ) → all_fit ls ≡ true → i < length ls → level_fits (get_or ls i blank) ≡ true
fits_at [] i fit p = absurd (omega arith)
fits_at (l ∷ ls) zero fit p = (and_parts (level_fits l) (all_fit ls) fit).0
fits_at (l ∷ ls) (suc i) fit p = fits_at ls i (and_parts (level_fits l) (all_fit ls) fit).1 (omega arith)

pub fit_take : (ls : List Level) (n : ℕ) → all_fit ls ≡ true → all_fit (take n ls) ≡ true
fit_take ls zero fit = refl
fit_take [] (suc n) fit = refl
fit_take (l ∷ ls) (suc n) fit = let p = and_parts (level_fits l) (all_fit ls) fit in and_from (level_fits l) _ p.0 (fit_take ls n p.1)

-- what is left to stand after i storeys makes, with the stack so far, what all of them make on the first stack
pub record Left (ls : List Level) (n g i k h : ℕ) : Type 0 where
  pub levels : k + length (standing k h (drop i ls)) ≡ n + length (standing n g ls)
  pub height : h + height_of (standing k h (drop i ls)) ≡ g + height_of (standing n g ls)

-- nothing more stands
pub record All (ls : List Level) (n g k h : ℕ) : Type 0 where
  pub levels : k ≡ n + length (standing n g ls)
  pub height : h ≡ g + height_of (standing n g ls)

module _ (ls : List Level) (n g i k h : ℕ) (left : Left ls n g i k h) where
  no_more : standing k h (drop i ls) ≡ [] → All ls n g k h
  no_more e = record { levels = omega (arith, left.levels, ap length e); height = omega (arith, left.height, ap height_of e) }

  pub one_more : i < length ls → stands k h (get_or ls i blank) ≡ true → Left ls n g (i + 1) (k + 1) (h + (get_or ls i blank).height.0)
  one_more p there =
      let l = get_or ls i blank in
      let e : standing k h (drop i ls) ≡ l ∷ standing (k + 1) (h + l.height.0) (drop (i + 1) ls) =
      at_drop_more (λ (xs : List Level). standing k h xs) ls i blank p ∙ cond-true (stands k h l) _ [] there in
      record { levels = omega (arith, left.levels, ap length e); height = omega (arith, left.height, ap height_of e) }

  pub stopped : i < length ls → stands k h (get_or ls i blank) ≡ false → All ls n g k h
  stopped p falls =
      let l = get_or ls i blank in
      no_more (at_drop_more (λ (xs : List Level). standing k h xs) ls i blank p ∙ cond-false (stands k h l) (l ∷ standing (k + 1) (h + l.height.0) (drop (i + 1) ls)) [] falls)

  pub ended : length ls ≤ i → All ls n g k h
  ended p = no_more (at_drop_all (λ (xs : List Level). standing k h xs) ls i p)
