-- The text that lists the levels of an order file, or tells its refusal.
use Rattle.std.specs.Prelude.{ℕ, zero, suc, List, [], ◌∷◌, ◌++◌, length, Some, None, Ok, Err, codes, decimal, Option, Result}
use Rattle.records.specs.declared.level.Level.{Level}
use Rattle.tokens.specs.Text.{line_of}
use Rattle.frames.specs.Levels.{level_at, level_height, weight_of, height_of}
use Rattle.order_file.specs.File.{Filed}
use Rattle.order_frame.specs.declared.refusal.Refusal.{Refusal}
use Rattle.order_frame.specs.Frames.{frame_levels}
use Rattle.order_frame.specs.Outcomes.{outcome}
use Rattle.order_frame.specs.Refusals.{refused_words}

-- LEVELS, how many, the total weight, the height of the top
abbrev pub heading : List Level → List ℕ
heading ls = line_of (codes "LEVELS" ∷ decimal (length ls) ∷ decimal (weight_of ls) ∷ decimal (height_of ls) ∷ []) []

-- level k, its weight, its height H over the ground
abbrev pub row_words : ℕ → Level → ℕ → List (List ℕ)
row_words k l h = decimal k ∷ decimal l.weight ∷ decimal h ∷ []

abbrev pub row_line : ℕ → ℕ → Option Level → List ℕ
row_line k h None = []
row_line k h (Some l) = line_of (row_words k l h) []

-- the lines of levels 1 to k
abbrev pub lines_to : List Level → ℕ → List ℕ
lines_to ls zero = []
lines_to ls (suc k) = lines_to ls k ++ row_line (suc k) (level_height ls (suc k)) (level_at ls (suc k))

-- the heading, and a line a level, from below
abbrev pub levels_text : List Level → List ℕ
levels_text ls = heading ls ++ lines_to ls (length ls)

-- what is printed for the outcome of a file
abbrev pub text_of : Result Filed Refusal → List ℕ
text_of (Ok f) = levels_text (frame_levels f.kit f.levels)
text_of (Err r) = line_of (refused_words r) []

-- what is printed for the bytes of a file
abbrev pub listing_text : List ℕ → List ℕ
listing_text bytes = text_of (outcome bytes)
