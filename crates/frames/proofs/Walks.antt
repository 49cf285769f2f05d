-- One turn of a walk over a frame's levels.
use Rattle.std.proofs.Common.{◌≡◌, ℕ, zero, suc, ◌+◌, ◌<◌, ◌≤◌, List, [], ◌∷◌, length, drop, Some, None, sym, refl, ap, arith}
use Rattle.records.specs.declared.level.Level.{Level}
use Rattle.frames.specs.Levels.{Sound, from_bottom, level_at}
use Rattle.frames.specs.Lists.{limits}

found : (ls : List Level) (i : ℕ) (l : Level) → from_bottom ls i ≡ Some l → (drop i ls ≡ l ∷ drop (suc i) ls) × (i < length ls)
found [] i l e = cc
found (x ∷ xs) zero l e = let w : x ≡ l = cc in (ap (λ (y : Level). y ∷ xs) w, omega arith)
found (x ∷ xs) (suc i) l e = let f = found xs i l e in (f.0, omega (arith, f.1))

ended : (ls : List Level) (i : ℕ) → from_bottom ls i ≡ None → drop i ls ≡ []
ended [] zero e = refl
ended [] (suc i) e = refl
ended (x ∷ xs) zero e = cc
ended (x ∷ xs) (suc i) e = ended xs i e

-- where there is a level over i others, it comes next
pub level_next : (ls : List Level) (i : ℕ) (l : Level) → Some l ≡ level_at ls (i + 1) → drop i ls ≡ l ∷ drop (i + 1) ls
level_next ls i l e = let s : i + 1 ≡ suc i = omega arith in let f : level_at ls (i + 1) ≡ Some l = sym e in rw s (found ls i l (rw s at f)).0

-- where there is none, nothing is left
pub none_next : (ls : List Level) (i : ℕ) → None ≡ level_at ls (i + 1) → drop i ls ≡ []
none_next ls i e = let s : i + 1 ≡ suc i = omega arith in let f : level_at ls (i + 1) ≡ None = sym e in ended ls i (rw s at f)

-- no more come than a frame may have
pub few_passed : (ls : List Level) (i : ℕ) (l : Level) → Some l ≡ level_at ls (i + 1) → Sound ls → i + 1 ≤ 24
few_passed ls i l e sound = let s : i + 1 ≡ suc i = omega arith in let f : level_at ls (i + 1) ≡ Some l = sym e in omega (arith, (found ls i l (rw s at f)).1, (limits ls sound).few)
