-- What stands of the storeys put onto a list.
use Rattle.std.specs.Prelude.{◌≡◌, ℕ, suc, ◌+◌, ◌<◌, ◌≤◌, true, false, List, [], ◌∷◌, ◌++◌, length, get_or, take, drop, nat_lt, slice_index_or, refl}
use Rattle.std.proofs.Common.{ap, ◌∙◌, arith, length-append}
use Rattle.std.proofs.lemmas.List.{at_drop_more, at_drop_all}
use Rattle.std.proofs.lemmas.Bool.{ltb-true, ltb-false, and_parts, and_from, not-true, cond_both, cond-true, cond-false}
use Rattle.records.specs.declared.level.Level.{Level}
use Rattle.records.specs.Ranges.{level_fits}
use Rattle.frames.specs.declared.denial.FrameDenial.TheVariants.{OutOfRange, TooHigh}
use Rattle.frames.specs.Levels.{Sound, all_fit, height_of, level_at}
use Rattle.frames.specs.Steps.{stands, standing, stacked}
use Rattle.frames.specs.Cases.{two_passed}
use Rattle.frames.specs.Lists.{limits, total_append, fit_append, sound_from}
use Rattle.frames.specs.Places.{at_take}

pub record FitToStand (k h : ℕ) (l : Level) : Type 0 where
  pub room : k < 24
  pub fits : level_fits l ≡ true
  pub low : h + l.height.0 ≤ 500

pub stands_parts : (k h : ℕ) (l : Level) → stands k h l ≡ true → FitToStand k h l
stands_parts k h l t =
    let p = and_parts (nat_lt k 24) _ t in
    let q = two_passed (level_fits l) (nat_lt 500 (h + l.height.0)) (OutOfRange (k + 1)) (TooHigh (k + 1)) (not-true _ p.1) in
    record { room = ltb-true _ _ p.0; fits = q.0; low = ltb-false _ _ q.1 }

pub standing_few : (k h : ℕ) (ls : List Level) → k ≤ 24 → k + length (standing k h ls) ≤ 24
standing_few k h [] few = omega arith
standing_few k h (l ∷ ls) few =
    cond_both (stands k h l) _ _ (λ (xs : List Level). k + length xs ≤ 24)
    (λ t. omega (arith, standing_few (k + 1) (h + l.height.0) ls (omega (arith, (stands_parts k h l t).room))))
    (λ f. omega arith)

standing_low : (k h : ℕ) (ls : List Level) → h ≤ 500 → h + height_of (standing k h ls) ≤ 500
standing_low k h [] low = omega arith
standing_low k h (l ∷ ls) low =
    cond_both (stands k h l) _ _ (λ (xs : List Level). h + height_of xs ≤ 500)
    (λ t. omega (arith, standing_low (k + 1) (h + l.height.0) ls (stands_parts k h l t).low))
    (λ f. omega arith)

standing_fits : (k h : ℕ) (ls : List Level) → all_fit (standing k h ls) ≡ true
standing_fits k h [] = refl
standing_fits k h (l ∷ ls) =
    cond_both (stands k h l) _ _ (λ (xs : List Level). all_fit xs ≡ true)
    (λ t. and_from (level_fits l) _ (stands_parts k h l t).fits (standing_fits (k + 1) (h + l.height.0) ls))
    (λ f. refl)

pub stacked_sound : (ls own : List Level) → Sound ls → Sound (stacked ls own)
stacked_sound ls own s =
    let m = limits ls s in
    let top = standing (length ls) (height_of ls) own in
    sound_from (ls ++ top)
    (omega (arith, length-append ls top, standing_few (length ls) (height_of ls) own m.few))
    (omega (arith, total_append (λ (l : Level). l.height.0) ls top, standing_low (length ls) (height_of ls) own m.low))
    (fit_append ls top m.each (standing_fits (length ls) (height_of ls) own))

pub standing_length : (k h : ℕ) (ls : List Level) → length (standing k h ls) ≤ length ls
standing_length k h [] = omega arith
standing_length k h (l ∷ ls) =
    cond_both (stands k h l) _ _ (λ (xs : List Level). length xs ≤ suc (length ls))
    (λ t. omega (arith, standing_length (k + 1) (h + l.height.0) ls))
    (λ f. omega arith)

-- what stands is the first part of the storeys
pub standing_take : (k h : ℕ) (ls : List Level) → standing k h ls ≡ take (length (standing k h ls)) ls
standing_take k h [] = refl
standing_take k h (l ∷ ls) =
    cond_both (stands k h l) _ _ (λ (xs : List Level). xs ≡ take (length xs) (l ∷ ls))
    (λ t. ap (λ (ys : List Level). l ∷ ys) (standing_take (k + 1) (h + l.height.0) ls))
    (λ f. refl)

pub standing_at : (k h : ℕ) (ls : List Level) (j : ℕ) → j ≤ length (standing k h ls) → level_at (standing k h ls) j ≡ level_at ls j
standing_at k h ls j q = ap (λ (xs : List Level). level_at xs j) (standing_take k h ls) ∙ at_take ls (length (standing k h ls)) j q

-- a walk over the storeys, at place i
module _ (ls : List Level) (i : ℕ) (d : Level) (k h : ℕ) where
  pub standing_next : i < length ls → stands k h (slice_index_or ls i d) ≡ true → length (standing k h (drop i ls)) ≡ length (standing (k + 1) (h + (get_or ls i d).height.0) (drop (i + 1) ls)) + 1
  standing_next p s =
      let e = cond-true (stands k h (slice_index_or ls i d)) (slice_index_or ls i d ∷ standing (k + 1) (h + (get_or ls i d).height.0) (drop (i + 1) ls)) [] s in
      omega (arith, at_drop_more (λ (xs : List Level). length (standing k h xs)) ls i d p ∙ ap length e)

  pub standing_stop : i < length ls → stands k h (slice_index_or ls i d) ≡ false → length (standing k h (drop i ls)) ≡ 0
  standing_stop p s =
      let e = cond-false (stands k h (slice_index_or ls i d)) (slice_index_or ls i d ∷ standing (k + 1) (h + (get_or ls i d).height.0) (drop (i + 1) ls)) [] s in
      at_drop_more (λ (xs : List Level). length (standing k h xs)) ls i d p ∙ ap length e

  pub standing_end : length ls ≤ i → length (standing k h (drop i ls)) ≡ 0
  standing_end p = at_drop_all (λ (xs : List Level). length (standing k h xs)) ls i p

pub same_standing : {n m h k : ℕ} {xs ys : List Level} → n ≡ m → h ≡ k → xs ≡ ys → length (standing n h xs) ≡ length (standing m k ys)
same_standing {n} {m} {h} {k} {xs} {ys} p q r = ap (λ (x : ℕ). length (standing x h xs)) p ∙ ap (λ (x : ℕ). length (standing m x xs)) q ∙ ap (λ (zs : List Level). length (standing m k zs)) r
