-- Lists that are made of one another, place by place.
use Rattle.std.proofs.Common.{◌≡◌, ℕ, zero, suc, ◌+◌, List, [], ◌∷◌, take, drop, map, sum_by, slice_get, Some, None, Option, option_map, sym, refl, ap, ◌∙◌, arith}
use Rattle.std.proofs.lemmas.List.{drop-map, take-map}
use Rattle.std.proofs.lemmas.List.Sums.{sum-map}
use Rattle.std.specs.List.{sum}
use Rattle.seismic.specs.Responses.{map_placed}

module _ {X Y Z : Type 0} (f : Y → Z) (g : ℕ → X → Y) where
  -- what is made of the element over i others
  pub made_at : (k i n : ℕ) (xs : List X) → n ≡ k + i → slice_get (map f (map_placed g k xs)) i ≡ option_map (λ (x : X). f (g n x)) (slice_get xs i)
  made_at k i n [] e = refl
  made_at k zero n (x ∷ xs) e = let same : k ≡ n = omega arith in ap (λ (m : ℕ). Some (f (g m x))) same
  made_at k (suc i) n (x ∷ xs) e = made_at (k + 1) i n xs (omega arith)

  -- where the place does not matter
  pub made_by_map :
      {W : Type 0} (h : Z → W) (q : X → W) → ((k : ℕ) (x : X) → h (f (g k x)) ≡ q x) → (k : ℕ) (xs : List X)
      → map h (map f (map_placed g k xs)) ≡ map q xs
  made_by_map h q same k [] = refl
  made_by_map {W} h q same k (x ∷ xs) =
      ap (λ (w : W). w ∷ map h (map f (map_placed g (k + 1) xs))) (same k x)
      ∙ ap (λ (ws : List W). q x ∷ ws) (made_by_map h q same (k + 1) xs)

-- an element of what is made of an option is made of one in it
pub made_from : {X Y : Type 0} (f : X → Y) (o : Option X) (y : Y) → option_map f o ≡ Some y → (x : X) × (o ≡ Some x) × (f x ≡ y)
made_from f None y e = cc
made_from f (Some x) y e = (x, refl, cc)

module _ {X Y : Type 0} (f : X → ℕ) (g : Y → ℕ) (xs : List X) (ys : List Y) (same : map f xs ≡ map g ys) (i : ℕ) where
  -- equal terms have equal sums
  pub equal_from : sum_by f (drop i xs) ≡ sum_by g (drop i ys)
  equal_from = sym (sum-map f (drop i xs)) ∙ ap sum (sym (drop-map f i xs) ∙ ap (drop i) same ∙ drop-map g i ys) ∙ sum-map g (drop i ys)

  pub equal_up_to : sum_by f (take i xs) ≡ sum_by g (take i ys)
  equal_up_to = sym (sum-map f (take i xs)) ∙ ap sum (sym (take-map f i xs) ∙ ap (take i) same ∙ take-map g i ys) ∙ sum-map g (take i ys)
