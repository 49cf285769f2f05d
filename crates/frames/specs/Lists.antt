-- What is known of a list of levels, place by place, and of a sound one.
use Rattle.std.specs.Prelude.{◌≡◌, ℕ, zero, suc, ◌+◌, ◌*◌, ◌≤◌, min, true, List, [], ◌∷◌, ◌++◌, length, take, Some, None, nat_le}
use Rattle.std.proofs.Common.{sym, ap, ◌∙◌, inl, inr, arith, take_all}
use Rattle.std.proofs.lemmas.Bool.{leb-true, le-leb, and_parts, and_from, cases_lt}
use Rattle.records.specs.declared.level.Level.{Level}
use Rattle.records.specs.Ranges.{level_fits, weight_fits}
use Rattle.frames.specs.Levels.{Sound, all_fit, from_bottom, level_at, total, weight_of, height_of}

fit_weight : (l : Level) → level_fits l ≡ true → l.weight ≤ 5000
fit_weight l h =
    let w = (and_parts (weight_fits l.weight) _ h).0 in
    leb-true l.weight 5000 (and_parts (nat_le 1 l.weight) _ w).1

weight_le : (ls : List Level) → all_fit ls ≡ true → weight_of ls ≤ 5000 * length ls
weight_le [] h = omega arith
weight_le (l ∷ ls) h = let p = and_parts (level_fits l) (all_fit ls) h in omega (arith, fit_weight l p.0, weight_le ls p.1)

pub record Limits (ls : List Level) : Type 0 where
  pub few : length ls ≤ 24
  pub low : height_of ls ≤ 500
  pub each : all_fit ls ≡ true
  pub light : weight_of ls ≤ 120000

pub limits : (ls : List Level) → Sound ls → Limits ls
limits ls h =
    let p = and_parts (nat_le (length ls) 24) _ h in
    let q = and_parts (nat_le (height_of ls) 500) _ p.1 in
    let n : length ls ≤ 24 = leb-true _ _ p.0 in
    record { few = n; low = leb-true _ _ q.0; each = q.1; light = omega (arith, weight_le ls q.1) }

pub sound_from : (ls : List Level) → length ls ≤ 24 → height_of ls ≤ 500 → all_fit ls ≡ true → Sound ls
sound_from ls few low each = and_from (nat_le (length ls) 24) _ (le-leb _ _ few) (and_from (nat_le (height_of ls) 500) _ (le-leb _ _ low) each)

module _ (m : Level → ℕ) where
  pub total_step : (ls : List Level) (i : ℕ) (l : Level) → from_bottom ls i ≡ Some l → total m (take (suc i) ls) ≡ total m (take i ls) + m l
  total_step [] i l e = let z : ◌≡◌ {A = ℕ} 0 1 = cc in omega arith
  total_step (x ∷ xs) zero l e = let w : x ≡ l = cc in omega (arith, ap m w)
  total_step (x ∷ xs) (suc i) l e = omega (arith, total_step xs i l e)

  pub total_take : (ls : List Level) (i : ℕ) → total m (take i ls) ≤ total m ls
  total_take ls zero = omega arith
  total_take [] (suc i) = omega arith
  total_take (x ∷ xs) (suc i) = omega (arith, total_take xs i)

  -- one level more, over i others
  pub total_more : (ls : List Level) (i : ℕ) (l : Level) → level_at ls (i + 1) ≡ Some l → total m (take (i + 1) ls) ≡ total m (take i ls) + m l
  total_more ls i l e = let s : i + 1 ≡ suc i = omega arith in rw s (total_step ls i l (rw s at e))

  -- the sum up to a level is at most the sum of all
  pub total_within : (ls : List Level) (i : ℕ) (l : Level) → level_at ls (i + 1) ≡ Some l → total m (take i ls) + m l ≤ total m ls
  total_within ls i l e = omega (arith, total_more ls i l e, total_take ls (i + 1))

  pub total_append : (xs ys : List Level) → total m (xs ++ ys) ≡ total m xs + total m ys
  total_append [] ys = omega arith
  total_append (x ∷ xs) ys = omega (arith, total_append xs ys)

pub fit_append : (xs ys : List Level) → all_fit xs ≡ true → all_fit ys ≡ true → all_fit (xs ++ ys) ≡ true
fit_append [] ys p q = q
fit_append (x ∷ xs) ys p q = let a = and_parts (level_fits x) (all_fit xs) p in and_from (level_fits x) _ a.0 (fit_append xs ys a.1 q)

none_past : (ls : List Level) (i : ℕ) → from_bottom ls i ≡ None → length ls ≤ i
none_past [] i e = omega arith
none_past (x ∷ xs) zero e = let z : ◌≡◌ {A = ℕ} 0 1 = cc in omega arith
none_past (x ∷ xs) (suc i) e = omega (arith, none_past xs i e)

pub none_over : (ls : List Level) (i : ℕ) → level_at ls (i + 1) ≡ None → length ls ≤ i
none_over ls i e = let s : i + 1 ≡ suc i = omega arith in none_past ls i (rw s at e)

-- no more can be taken than there is
pub take_min : {X : Type 0} (n m : ℕ) (xs : List X) → length xs ≤ m → take (min n m) xs ≡ take n xs
take_min n m xs p =
    elim (cases_lt n m) [
      | inl lt ↦ let e : min n m ≡ n = omega arith in rw e
      | inr ge ↦ let e : min n m ≡ m = omega arith in rw e (take_all m xs p ∙ sym (take_all n xs (omega arith)))
    ]
