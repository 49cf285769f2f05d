-- Which level stands at a number, in lists put together.
use Rattle.std.specs.Prelude.{◌≡◌, ℕ, zero, suc, ◌+◌, ◌-◌, ◌<◌, ◌≤◌, List, [], ◌∷◌, ◌++◌, length, take, Some, None, Option, slice_index_or, refl}
use Rattle.std.proofs.Common.{sym, ap, ◌∙◌, arith}
use Rattle.std.specs.Borrow.{Bor}
use Rattle.std.specs.Option.{option_map}
use Rattle.std.specs.Slice.{IsGetResult}
use Rattle.records.specs.declared.level.Level.{Level}
use Rattle.frames.specs.Levels.{level_at, from_bottom}

low : (xs ys : List Level) (i : ℕ) → i < length xs → from_bottom (xs ++ ys) i ≡ from_bottom xs i
low [] ys i h = absurd (omega arith)
low (x ∷ xs) ys zero h = refl
low (x ∷ xs) ys (suc i) h = low xs ys i (omega arith)

pub at_low : (xs ys : List Level) (k : ℕ) → k ≤ length xs → level_at (xs ++ ys) k ≡ level_at xs k
at_low xs ys zero h = refl
at_low xs ys (suc k) h = low xs ys k (omega arith)

high : (xs ys : List Level) (i : ℕ) → from_bottom (xs ++ ys) (length xs + i) ≡ from_bottom ys i
high [] ys i = let e : 0 + i ≡ i = omega arith in rw e
high (x ∷ xs) ys i = let e : suc (length xs) + i ≡ suc (length xs + i) = omega arith in rw e (high xs ys i)

pub at_high : (xs ys : List Level) (k : ℕ) → length xs < k → level_at (xs ++ ys) k ≡ level_at ys (k - length xs)
at_high xs ys zero h = absurd (omega arith)
at_high xs ys (suc k) h =
    let i = k - length xs in
    let e : k ≡ length xs + i = omega arith in
    let f : suc k - length xs ≡ suc i = omega arith in
    ap (from_bottom (xs ++ ys)) e ∙ high xs ys i ∙ sym (ap (level_at ys) f)

beyond : (xs : List Level) (i : ℕ) → length xs ≤ i → from_bottom xs i ≡ None
beyond [] i h = refl
beyond (x ∷ xs) zero h = absurd (omega arith)
beyond (x ∷ xs) (suc i) h = beyond xs i (omega arith)

pub at_beyond : (xs : List Level) (k : ℕ) → length xs < k → level_at xs k ≡ None
at_beyond xs zero h = refl
at_beyond xs (suc k) h = beyond xs k (omega arith)

inside : (xs : List Level) (i : ℕ) (d : Level) → i < length xs → from_bottom xs i ≡ Some (slice_index_or xs i d)
inside [] i d h = absurd (omega arith)
inside (x ∷ xs) zero d h = refl
inside (x ∷ xs) (suc i) d h = inside xs i d (omega arith)

pub at_inside : (xs : List Level) (k : ℕ) (d : Level) → 1 ≤ k → k ≤ length xs → level_at xs k ≡ Some (slice_index_or xs (k - 1) d)
at_inside xs zero d p h = absurd (omega arith)
at_inside xs (suc k) d p h = let e : suc k - 1 ≡ k = omega arith in rw e (inside xs k d (omega arith))

below : (ls : List Level) (n i : ℕ) → i < n → from_bottom (take n ls) i ≡ from_bottom ls i
below ls zero i p = absurd (omega arith)
below [] (suc n) i p = refl
below (x ∷ xs) (suc n) zero p = refl
below (x ∷ xs) (suc n) (suc i) p = below xs n i (omega arith)

pub at_take : (ls : List Level) (n k : ℕ) → k ≤ n → level_at (take n ls) k ≡ level_at ls k
at_take ls n zero p = refl
at_take ls n (suc k) p = below ls n k (omega arith)

found : (xs : List Level) (i : ℕ) (r : Option (Bor Level)) → IsGetResult xs i i r → option_map (λ x. x.now) r ≡ from_bottom xs i
found xs i None h = sym (beyond xs i h.3)
found xs i (Some x) h = ap Some h.1 ∙ sym (inside xs i x.now h.3.0)

-- what a slice lends at place k - 1 is level k
pub at_found : (xs : List Level) (k i : ℕ) (r : Option (Bor Level)) → 1 ≤ k → i ≡ k - 1 → IsGetResult xs i i r → option_map (λ x. x.now) r ≡ level_at xs k
at_found xs zero i r p e h = absurd (omega arith)
at_found xs (suc k) i r p e h = let f : i ≡ k = omega arith in found xs i r h ∙ ap (from_bottom xs) f
