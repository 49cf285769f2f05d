-- The file that some records make.
use Rattle.std.specs.Prelude.{ℕ, List, [], ◌∷◌, length, codes, decimal}
use Rattle.std.specs.Option.{option_to_list}
use Rattle.std.specs.Fmt.{signed_decimal}
use Rattle.records.specs.declared.card.Card.{Card}
use Rattle.records.specs.declared.kit_numbers.KitNumbers.{KitNumbers}
use Rattle.records.specs.declared.level.Level.{Level}
use Rattle.records.specs.declared.line.Line.{Line}
use Rattle.tokens.specs.Text.{line_of}
use Rattle.tokens.specs.Written.{height_text, period_text, soil_text, group_text, walls_text}
use Rattle.order_file.specs.File.{Filed}

-- the words of each record

abbrev pub kit_words : KitNumbers → List (List ℕ)
kit_words k = decimal k.levels ∷ decimal k.floor_weight ∷ decimal k.roof_weight ∷ height_text k.height ∷ decimal k.stiffness ∷ decimal k.mass_centre ∷ decimal k.torsion_centre ∷ decimal k.width ∷ []

abbrev pub level_words : Level → List (List ℕ)
level_words l = decimal l.weight ∷ height_text l.height ∷ decimal l.stiffness ∷ decimal l.mass_centre ∷ decimal l.torsion_centre ∷ decimal l.width ∷ []

abbrev pub load_words : Line → List (List ℕ)
load_words l = decimal l.level ∷ signed_decimal l.load ∷ []

abbrev pub card_words : Card → List (List ℕ)
card_words k = soil_text k.soil ∷ group_text k.group ∷ decimal k.c ∷ decimal k.a0 ∷ decimal k.ta ∷ decimal k.tb ∷ period_text k.period ∷ decimal k.q ∷ decimal k.correction ∷ walls_text k.walls ∷ decimal k.load_factor ∷ decimal k.gap ∷ []

-- a section word and its count
abbrev pub count_words : List ℕ → ℕ → List (List ℕ)
count_words name n = name ∷ decimal n ∷ []

-- records, one a line, before what follows them
abbrev pub lines_of : {A : Type 0} → (A → List (List ℕ)) → List A → List ℕ → List ℕ
lines_of words [] after = after
lines_of words (x ∷ xs) after = line_of (words x) (lines_of words xs after)

-- a section before what follows it
abbrev pub section_text : {A : Type 0} → List ℕ → (A → List (List ℕ)) → List A → List ℕ → List ℕ
section_text name words xs after = line_of (count_words name (length xs)) (lines_of words xs after)

abbrev pub render : Filed → List ℕ
render f =
    section_text (codes "KIT") kit_words (option_to_list f.kit)
    (section_text (codes "LEVELS") level_words f.levels
    (section_text (codes "LOADS") load_words f.loads
    (section_text (codes "CARD") card_words (f.card ∷ []) [])))
