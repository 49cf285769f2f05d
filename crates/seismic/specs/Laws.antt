-- What every sheet keeps, stated over the card, its levels and its rows alone. A storey is named by how many are below it.
use Rattle.std.specs.Prelude.{◌≡◌, ℕ, ◌+◌, ◌*◌, ◌-ℤ◌, ◌<◌, ◌≤◌, List, [], ◌∷◌, length, take, drop, sum_by, slice_get, Some, Ok, Err, Result, pos, max}
use Rattle.std.specs.Int.{abs_diff}
use Rattle.records.specs.declared.card.Card.{Card}
use Rattle.records.specs.declared.level.Level.{Level}
use Rattle.spreading.specs.Ceilings.{IsCeiling}
use Rattle.cards.specs.Fits.{CheckedWhen, GoodCard}
use Rattle.cards.specs.Shears.{factor, IsBaseShear}
use Rattle.frames.specs.Levels.{level_height, weight_of}
use Rattle.seismic.specs.declared.denial.ShearDenial.TheVariants.{NoLevels, BadCard}
use Rattle.seismic.specs.declared.denial.SheetDenial.{SheetDenial}
use Rattle.seismic.specs.declared.denial.SheetDenial.TheVariants.{NoShears, TooFewRows}
use Rattle.seismic.specs.declared.row.Row.{Row}
use Rattle.seismic.specs.declared.sheet.Sheet.{Sheet}
use Rattle.seismic.specs.declared.verdict.Limit.{Limit}
use Rattle.seismic.specs.declared.verdict.Limit.TheVariants.{Drift, Eccentricity, SecondOrder, Gap}
use Rattle.seismic.specs.declared.verdict.Verdict.{Verdict}
use Rattle.seismic.specs.declared.verdict.Verdict.TheVariants.{Pass, Fail}
use Rattle.seismic.specs.Limits.{allowance, limit_number}
use Rattle.seismic.specs.Rows.{sway}

-- the sum of weight × H over some levels, of which the lowest begins at the height h
abbrev pub weights_times_heights : ℕ → List Level → ℕ
weights_times_heights h [] = 0
weights_times_heights h (l ∷ ls) = l.weight * (h + l.height.0) + weights_times_heights (h + l.height.0) ls

-- the shares, by which V0 is spread, of the levels from the one with i below it up, for i below their count: 19 × the sum
-- of weight × H over these levels, and P, which is that sum over all levels and falls to the top
abbrev pub shares_from : List Level → ℕ → ℕ
shares_from ls i = 19 * weights_times_heights (level_height ls i) (drop i ls) + weights_times_heights 0 ls

-- the sum of F × mass centre over some levels, with their rows
abbrev pub moment_of : List Level → List Row → ℕ
moment_of [] rows = 0
moment_of (l ∷ ls) [] = 0
moment_of (l ∷ ls) (r ∷ rows) = r.force * l.mass_centre + moment_of ls rows

-- |N|: that sum from this level up, less V × torsion centre
abbrev pub twist_at : List Level → List Row → ℕ → Level → Row → ℕ
twist_at ls rows i l r = abs_diff (moment_of (drop i ls) (drop i rows)) (r.shear * l.torsion_centre)

-- the row r of the level l that has i levels below it
pub record RowStands (card : Card) (ls : List Level) (rows : List Row) (i : ℕ) (l : Level) (r : Row) : Type 0 where
  pub level : r.level ≡ i + 1
  pub weight : r.weight ≡ l.weight
  -- H is the sum of the storey heights up to this level
  pub height : r.height.0 ≡ level_height ls (i + 1)
  -- V is the sum of the forces from this level up; so F is V less the V of the storey above, and at the top F is V
  pub shear : r.shear ≡ sum_by (λ (x : Row). x.force) (drop i rows)
  -- u is the smallest whole number that is not below 100 × Q × V / K
  pub drift : IsCeiling (10 * (factor card * r.shear)) l.stiffness r.drift
  -- x is the sum of u up to this storey
  pub displacement : r.displacement ≡ sum_by (λ (x : Row). x.drift) (take (i + 1) rows)
  pub ma : r.ma ≡ 15 * twist_at ls rows i l r + l.width * r.shear
  pub mb : r.mb ≡ pos (10 * twist_at ls rows i l r) -ℤ pos (l.width * r.shear)
  pub separation : r.separation ≡ max 5000 (r.displacement + sway card.soil * r.height.0)

-- what each limit asks of a storey
abbrev pub Keeps : Card → List Level → List Row → ℕ → Level → Row → Limit → Type 0
Keeps card ls rows i l r Drift = r.drift ≤ allowance card.walls * l.height.0
Keeps card ls rows i l r Eccentricity = 30 ≤ factor card → 5 * twist_at ls rows i l r ≤ l.width * r.shear
Keeps card ls rows i l r SecondOrder = 100 * (r.drift * weight_of (drop i ls)) ≤ 8 * (card.load_factor * (r.shear * l.height.0))
Keeps card ls rows i l r Gap = r.separation ≤ 100 * card.gap

-- the storey over i others keeps a limit; so does one that is not there
abbrev pub StoreyKeeps : Card → List Level → List Row → ℕ → Limit → Type 0
StoreyKeeps card ls rows i limit = (l : Level) (r : Row) → slice_get ls i ≡ Some l → slice_get rows i ≡ Some r → Keeps card ls rows i l r limit

-- it is there, and breaks the limit
pub record StoreyBreaks (card : Card) (ls : List Level) (rows : List Row) (i : ℕ) (limit : Limit) : Type 0 where
  pub level : Level
  pub row : Row
  pub level_at : slice_get ls i ≡ Some level
  pub row_at : slice_get rows i ≡ Some row
  pub broken : ¬ Keeps card ls rows i level row limit

-- PASS where every storey keeps every limit; else the lowest that breaks one, and the first that it breaks
abbrev pub Judged : Card → List Level → List Row → Verdict → Type 0
Judged card ls rows Pass = (i : ℕ) (limit : Limit) → StoreyKeeps card ls rows i limit
Judged card ls rows (Fail storey limit) =
    (i : ℕ) × (storey ≡ i + 1) × StoreyBreaks card ls rows i limit
    × ((j : ℕ) (other : Limit) → j < i → StoreyKeeps card ls rows j other)
    × ((other : Limit) → limit_number other < limit_number limit → StoreyKeeps card ls rows i other)

pub record Lawful (card : Card) (ls : List Level) (sheet : Sheet) (rows : List Row) : Type 0 where
  pub levels : sheet.levels ≡ length ls
  -- there are levels, and nothing is wrong with the card
  pub some : 1 ≤ length ls
  pub good : GoodCard card
  pub weight : sheet.weight ≡ weight_of ls
  -- V0 is the smallest whole number of kgf that is not below a × W0 / Q'
  pub base_shear : IsBaseShear card (weight_of ls) sheet.base_shear
  pub row_a_level : length rows ≡ length ls
  pub forces_add_up : sum_by (λ (r : Row). r.force) rows ≡ sheet.base_shear
  -- V is not below its exact share of V0, and less than 1 kgf above it
  pub shears_near_exact_share : (i : ℕ) (r : Row) → slice_get rows i ≡ Some r → IsCeiling (sheet.base_shear * shares_from ls i) (shares_from ls 0) r.shear
  pub rows_stand : (i : ℕ) (l : Level) (r : Row) → slice_get ls i ≡ Some l → slice_get rows i ≡ Some r → RowStands card ls rows i l r
  pub judged : Judged card ls rows sheet.verdict

-- what each denial says of how many levels there are, the card, and the rows; of a bad card, that its check answers so
abbrev pub DeniedWhen : Card → ℕ → ℕ → SheetDenial → Type 0
DeniedWhen card levels room (NoShears NoLevels) = levels ≡ 0
DeniedWhen card levels room (NoShears (BadCard d)) = (1 ≤ levels) × CheckedWhen card (Err d)
DeniedWhen card levels room (TooFewRows needed) = (1 ≤ levels) × GoodCard card × (needed ≡ levels) × (room < levels)

-- of a sheet with its rows, or of a denial
abbrev pub LawOf : Card → List Level → Result Sheet SheetDenial → List Row → Type 0
LawOf card ls (Ok sheet) after = Lawful card ls sheet (take (length ls) after)
LawOf card ls (Err d) after = DeniedWhen card (length ls) (length after) d
