-- Which records a file can hold: numbers of at most nine digits, and counts within their limits.
use Rattle.std.specs.Prelude.{◌≤◌, [], ◌∷◌, length, unsigned_abs}
use Rattle.std.specs.Option.{option_to_list}
use Rattle.std.specs.List.{AllByRecursion}
use Rattle.records.specs.declared.card.Card.{Card}
use Rattle.records.specs.declared.kit_numbers.KitNumbers.{KitNumbers}
use Rattle.records.specs.declared.level.Level.{Level}
use Rattle.records.specs.declared.line.Line.{Line}
use Rattle.tokens.specs.Numbers.{Small}
use Rattle.order_file.specs.File.{Filed, most_levels, most_loads}

abbrev pub KitShort : KitNumbers → Type 0
KitShort k = AllByRecursion Small (k.levels ∷ k.floor_weight ∷ k.roof_weight ∷ k.height.0 ∷ k.stiffness ∷ k.mass_centre ∷ k.torsion_centre ∷ k.width ∷ [])

abbrev pub LevelShort : Level → Type 0
LevelShort l = AllByRecursion Small (l.weight ∷ l.height.0 ∷ l.stiffness ∷ l.mass_centre ∷ l.torsion_centre ∷ l.width ∷ [])

-- the sign counts for nothing
abbrev pub LoadShort : Line → Type 0
LoadShort l = AllByRecursion Small (l.level ∷ unsigned_abs l.load ∷ [])

-- an unknown period fits
abbrev pub CardShort : Card → Type 0
CardShort k = AllByRecursion Small (k.c ∷ k.a0 ∷ k.ta ∷ k.tb ∷ k.q ∷ k.correction ∷ k.load_factor ∷ k.gap ∷ option_to_list k.period)

pub record Fits (f : Filed) : Type 0 where
  pub kit : AllByRecursion KitShort (option_to_list f.kit)
  pub levels : AllByRecursion LevelShort f.levels
  pub level_count : length f.levels ≤ most_levels f.kit
  pub loads : AllByRecursion LoadShort f.loads
  pub load_count : length f.loads ≤ most_loads
  pub card : CardShort f.card
