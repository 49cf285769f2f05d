-- A mark is a word that has its letters.
use Rattle.std.proofs.Common.{◌≡◌, ℕ, suc, List, [], ◌∷◌, length, get_or, refl, ap, ◌∙◌, arith}

-- these letters stand in w from place i on
abbrev pub Letters : List ℕ → ℕ → List ℕ → Type 0
Letters w i [] = Unit {0}
Letters w i (b ∷ bs) = (get_or w i 0 ≡ b) × Letters w (suc i) bs

-- the same, of a longer word
later : (c : ℕ) (w : List ℕ) (i : ℕ) (v : List ℕ) → Letters (c ∷ w) (suc i) v → Letters w i v
later c w i [] h = tt
later c w i (b ∷ bs) h = (h.0, later c w (suc i) bs h.1)

-- of the same length and with the same letters
pub spelt : (w v : List ℕ) → length w ≡ length v → Letters w 0 v → w ≡ v
spelt [] [] e h = refl
spelt [] (b ∷ bs) e h = absurd (omega arith)
spelt (c ∷ w) [] e h = absurd (omega arith)
spelt (c ∷ w) (b ∷ bs) e h = ap (λ x. x ∷ w) h.0 ∙ ap (λ x. b ∷ x) (spelt w bs (omega arith) (later c w 0 bs h.1))
