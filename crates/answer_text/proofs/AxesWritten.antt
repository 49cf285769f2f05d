-- The words of an axes answer, as they are written one after another.
use Rattle.std.proofs.Common.{◌≡◌, ℕ, ◌≤◌, List, [], ◌∷◌, ◌++◌, length, flat_map, take, codes, decimal, sym, ap, map, ◌∙◌, append-nil}
use Rattle.std.proofs.lemmas.List.{take_all}
use Rattle.tokens.specs.Text.{joined}
use Rattle.seismic.specs.declared.axis.Axis.{Axis}
use Rattle.answer_text.specs.Answers.{axis_word, axes_words}

-- an axis's word, after the space that parts it from the word before
abbrev pub spaced : Axis → List ℕ
spaced a = 32 ∷ axis_word a

joined_axes : (word : List ℕ) (axes : List Axis) → joined (word ∷ map axis_word axes) ≡ word ++ flat_map spaced axes
joined_axes word [] = sym (append-nil word)
joined_axes word (a ∷ axes) = ap (λ (rest : List ℕ). word ++ (32 ∷ rest)) (joined_axes (axis_word a) axes)

-- once no axis is left
pub all_written : (shear n : ℕ) (axes : List Axis) → length axes ≤ n → joined (axes_words shear []) ++ flat_map spaced (take n axes) ≡ joined (axes_words shear axes)
all_written shear n axes over =
    ap (λ (xs : List Axis). joined (axes_words shear []) ++ flat_map spaced xs) (take_all n axes over)
    ∙ sym (ap (λ (rest : List ℕ). codes "AXES" ++ (32 ∷ rest)) (joined_axes (decimal shear) axes))
