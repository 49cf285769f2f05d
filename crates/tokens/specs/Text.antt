-- How words make lines. Both what is read and what is printed are laid out so.
use Rattle.std.specs.Prelude.{ℕ, List, [], ◌∷◌, ◌++◌}

-- words, one space between
abbrev pub joined : List (List ℕ) → List ℕ
joined [] = []
joined (w ∷ []) = w
joined (w ∷ v ∷ vs) = w ++ (32 ∷ joined (v ∷ vs))

-- a line of words, ended by byte 10, before what follows it
abbrev pub line_of : List (List ℕ) → List ℕ → List ℕ
line_of ws after = joined ws ++ (10 ∷ after)
