-- What stands at a place of a list.
use Rattle.std.proofs.Common.{◌≡◌, ℕ, zero, suc, ◌+◌, ◌<◌, ◌⊎◌, List, [], ◌∷◌, ◌++◌, length, drop, slice_get, Some, sym, refl, ap, ◌∙◌, inl, inr, ⊎_elim, arith}
use Rattle.std.proofs.lemmas.List.{drop_at}

-- of what is left of a list
pub slice_get-drop : {X : Type 0} (n : ℕ) (xs : List X) (k : ℕ) → slice_get (drop n xs) k ≡ slice_get xs (n + k)
slice_get-drop zero xs k = let e : k ≡ 0 + k = omega arith in ap (slice_get xs) e
slice_get-drop (suc n) [] k = refl
slice_get-drop (suc n) (x ∷ xs) k = let e : suc (n + k) ≡ suc n + k = omega arith in slice_get-drop n xs k ∙ ap (slice_get (x ∷ xs)) e

-- past the front of a list, of the rest
pub get_past :
    {X : Type 0} (front rest : List X) (n k : ℕ) → length front ≡ n
    → slice_get (front ++ rest) (n + k) ≡ slice_get rest k
get_past {X} front rest n k len =
    sym (slice_get-drop n (front ++ rest) k) ∙ ap (λ (xs : List X). slice_get xs k) (drop_at front rest n len)

-- something stands at each place below the length
pub some_at : {X : Type 0} (xs : List X) (n : ℕ) → n < length xs → (x : X) × (slice_get xs n ≡ Some x)
some_at [] n low = absurd (omega arith)
some_at (x ∷ xs) zero low = (x, refl)
some_at (x ∷ xs) (suc n) low = some_at xs n (omega arith)

-- what stands in a list with one more at its end
pub get_more : {X : Type 0} (xs : List X) (x : X) (n : ℕ) (y : X) → slice_get (xs ++ x ∷ []) n ≡ Some y → (slice_get xs n ≡ Some y) ⊎ ((n ≡ length xs) × (y ≡ x))
get_more [] x zero y e = inr (refl, cc)
get_more [] x (suc n) y e = cc
get_more (z ∷ xs) x zero y e = inl e
get_more (z ∷ xs) x (suc n) y e = ⊎_elim (λ l. inl l) (λ r. inr (ap suc r.0, r.1)) (get_more xs x n y e)
