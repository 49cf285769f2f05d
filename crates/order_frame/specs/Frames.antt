-- The frame that a kit or none, and the levels of a file, describe.
use Rattle.std.specs.Prelude.{ℕ, ◌+◌, List, [], ◌∷◌, ◌++◌, length, Some, None, Option}
use Rattle.records.specs.declared.kit_numbers.KitNumbers.{KitNumbers}
use Rattle.records.specs.declared.level.Level.{Level}
use Rattle.frames.specs.declared.denial.FrameDenial.{FrameDenial}
use Rattle.frames.specs.Kits.{kit_list, kit_denial}
use Rattle.frames.specs.Levels.{height_of}
use Rattle.frames.specs.Tables.{or_else, lay_denial}
use Rattle.frames.specs.Additions.{add_denial}

-- the levels of the kit, where there is one
abbrev pub kit_levels : Option KitNumbers → List Level
kit_levels None = []
kit_levels (Some n) = kit_list n

-- the kit's levels, and the file's over them
abbrev pub frame_levels : Option KitNumbers → List Level → List Level
frame_levels kit levels = kit_levels kit ++ levels

-- the first denial as storeys are added from below onto a list of which s are the topping's own already
abbrev pub first_added_denial : List Level → ℕ → List Level → Option FrameDenial
first_added_denial below s [] = None
first_added_denial below s (l ∷ ls) =
    or_else (add_denial (length below) s (height_of below) l) (first_added_denial (below ++ l ∷ []) (s + 1) ls)

-- the denial of the frame: levels without a kit are laid as a table; a kit is judged before the levels on it
abbrev pub frame_denial : Option KitNumbers → List Level → Option FrameDenial
frame_denial None levels = lay_denial levels
frame_denial (Some n) levels = or_else (kit_denial n) (first_added_denial (kit_list n) 0 levels)
