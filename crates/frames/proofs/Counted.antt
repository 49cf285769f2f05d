-- A walk over a frame's levels that counts them.
use Rattle.std.proofs.Common.{◌≡◌, ℕ, zero, suc, ◌+◌, ◌≤◌, List, [], ◌∷◌, length, drop, Some, sym, ap, ◌∙◌, add-one, arith}
use Rattle.std.specs.declared.iter.Enumerate.{Enumerate}
use Rattle.std.specs.Iterator.Adapters.{enumerate_source, enumerate_count}
use Rattle.records.specs.declared.height.LevelHeight.{LevelHeight}
use Rattle.records.specs.declared.level.Level.{Level}
use Rattle.records.specs.Heights.{raised}
use Rattle.frames.specs.declared.levels.Levels.{Levels}
use Rattle.frames.specs.Levels.{Sound, from_bottom, level_at, level_height}
use Rattle.frames.specs.Lists.{limits, total_more, total_within}
use Rattle.frames.specs.Walks.{levels_left}
use Rattle.frames.proofs.Heights.{raised_within}

-- as many levels are passed as are counted, up to this height
pub record Walked {F : Type 0} (list : F → List Level) (ls : List Level) (height : ℕ) (s : Enumerate (Levels F)) : Type 0 where
  pub within : enumerate_count s ≤ length ls
  pub left : levels_left list (enumerate_source s) ≡ drop (enumerate_count s) ls
  pub high : height ≡ level_height ls (enumerate_count s)

-- what comes first of the levels left over n others
pub record Next (ls : List Level) (n : ℕ) (l : Level) (rest : List Level) : Type 0 where
  pub within : n + 1 ≤ length ls
  pub at : level_at ls (n + 1) ≡ Some l
  pub left : rest ≡ drop (n + 1) ls

next_at : (ls : List Level) (n : ℕ) (l : Level) (rest : List Level) → drop n ls ≡ l ∷ rest → (suc n ≤ length ls) × (from_bottom ls n ≡ Some l) × (rest ≡ drop (suc n) ls)
next_at [] zero l rest e = cc
next_at [] (suc n) l rest e = cc
next_at (x ∷ xs) zero l rest e = (omega arith, cc, cc)
next_at (x ∷ xs) (suc n) l rest e = let p = next_at xs n l rest e in (omega (arith, p.0), p.1, p.2)

pub next : (ls : List Level) (n : ℕ) (l : Level) (rest : List Level) → drop n ls ≡ l ∷ rest → Next ls n l rest
next ls n l rest e =
    let p = next_at ls n l rest e in
    record {
      within = omega (arith, p.0);
      at = ap (level_at ls) (add-one n) ∙ p.1;
      left = p.2 ∙ sym (ap (λ (k : ℕ). drop k ls) (add-one n));
    }

-- the sum passes no limit within a sound list
pub risen : (ls : List Level) (n : ℕ) (l : Level) (height : LevelHeight) → Sound ls → level_at ls (n + 1) ≡ Some l → height.0 ≡ level_height ls n → raised height l.height ≡ Some (record { 0 = level_height ls (n + 1) })
risen ls n l height sound at high =
    let h : Level → ℕ = λ (x : Level). x.height.0 in
    let low : height.0 + l.height.0 ≤ 500 = omega (arith, high, (limits ls sound).low, total_within h ls n l at) in
    let sum : height.0 + l.height.0 ≡ level_height ls (n + 1) = omega (arith, high, total_more h ls n l at) in
    raised_within height l.height low ∙ ap (λ (x : ℕ). Some (record { 0 = x })) sum
