-- What is refused, and the line that is to blame.
use Rattle.std.specs.Prelude.{ℕ, ◌-◌, List, [], ◌∷◌, Some, None, codes, decimal, Option}
use Rattle.std.specs.Option.{option_map}
use Rattle.records.specs.declared.kit_numbers.KitNumbers.{KitNumbers}
use Rattle.tokens.specs.Text.{line_of}
use Rattle.tokens.specs.Faults.{fault_number, fault_place, fault_line}
use Rattle.frames.specs.declared.denial.FrameDenial.{FrameDenial}
use Rattle.frames.specs.declared.denial.FrameDenial.TheVariants.{TooManyLevels, OutOfRange, TooHigh, KitOutOfRange, KitTooHigh}
use Rattle.frames.specs.Denials.{denial_number, denial_place}
use Rattle.order_file.specs.File.{Filed}
use Rattle.order_file.specs.Lines.{kit_line, level_line, where_listed}
use Rattle.order_frame.specs.declared.refusal.Refusal.{Refusal}
use Rattle.order_frame.specs.declared.refusal.Refusal.TheVariants.{Faulty, Unframed}

-- the number that a refusal is told by
abbrev pub refusal_number : Refusal → ℕ
refusal_number (Faulty e) = fault_number e
refusal_number (Unframed d line) = denial_number d

-- the line of the file that is to blame
abbrev pub refusal_line : Refusal → ℕ
refusal_line (Faulty e) = fault_line e
refusal_line (Unframed d line) = line

-- the place that it is about
abbrev pub refusal_place : Refusal → ℕ
refusal_place (Faulty e) = fault_place e
refusal_place (Unframed d line) = denial_place d

-- REFUSED, the refusal's number, the line that is to blame, its place: so every refusal of a file is printed
abbrev pub refusal_words : ℕ → ℕ → ℕ → List (List ℕ)
refusal_words number line place = codes "REFUSED" ∷ decimal number ∷ decimal line ∷ decimal place ∷ []

-- the line of a refusal of any kind, by what its number and its place are
abbrev pub refusal_told : {D : Type 0} → (D → ℕ) → (D → ℕ) → D → ℕ → List ℕ
refusal_told numbered placed denial line = line_of (refusal_words (numbered denial) line (placed denial)) []

-- the words of a refusal of a file or its frame
abbrev pub refused_words : Refusal → List (List ℕ)
refused_words r = refusal_words (refusal_number r) (refusal_line r) (refusal_place r)

-- how many levels stand below the first that the file lists
abbrev pub kit_count : Option KitNumbers → ℕ
kit_count None = 0
kit_count (Some n) = n.levels

-- the line of the record that a frame's denial is about: the kit's, or that of the level, which counts from the ground
abbrev pub blamed_line : Filed → FrameDenial → ℕ
blamed_line f (TooManyLevels k) = level_line f (k - kit_count f.kit)
blamed_line f (OutOfRange k) = level_line f (k - kit_count f.kit)
blamed_line f (TooHigh k) = level_line f (k - kit_count f.kit)
blamed_line f KitOutOfRange = kit_line
blamed_line f KitTooHigh = kit_line

-- the refusal of the file's frame
abbrev pub frame_refusal : Filed → FrameDenial → Refusal
frame_refusal f d = Unframed d (blamed_line f d)

-- the line of level k of the frame, where the file lists it
abbrev pub listed_line : Filed → ℕ → Option ℕ
listed_line f k = where_listed (k - kit_count f.kit) f.levels (level_line f (k - kit_count f.kit))

-- the line of the record that a denial is about, where the file has it
abbrev pub found_line : Filed → FrameDenial → Option ℕ
found_line f (TooManyLevels k) = listed_line f k
found_line f (OutOfRange k) = listed_line f k
found_line f (TooHigh k) = listed_line f k
found_line f KitOutOfRange = option_map (λ _. kit_line) f.kit
found_line f KitTooHigh = option_map (λ _. kit_line) f.kit
