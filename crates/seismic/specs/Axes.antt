-- A storey's shear on its axes.
use Rattle.std.specs.Prelude.{◌≡◌, ℕ, ◌+◌, ◌-◌, ◌*◌, ◌<◌, ◌≤◌, Bool, not, cond, List, length, map, option_map, slice_get, Some, None, Ok, Err, Option, Result}
use Rattle.std.specs.List.{position_from}
use Rattle.records.specs.declared.card.Card.{Card}
use Rattle.records.specs.declared.level.Level.{Level}
use Rattle.records.specs.Ranges.{from_to}
use Rattle.spreading.specs.Ceilings.{IsCeiling}
use Rattle.spreading.specs.Spreads.{spread_over, IsSpread}
use Rattle.cards.specs.Fits.{CheckedWhen, GoodCard}
use Rattle.cards.specs.Shears.{IsBaseShear}
use Rattle.frames.specs.Levels.{weight_of}
use Rattle.seismic.specs.declared.axis.Axis.{Axis}
use Rattle.seismic.specs.declared.denial.AxesDenial.{AxesDenial}
use Rattle.seismic.specs.declared.denial.AxesDenial.TheVariants.{NoShears, NoSuchStorey, WrongCount, OutOfRange}
use Rattle.seismic.specs.declared.denial.ShearDenial.{ShearDenial}
use Rattle.seismic.specs.declared.denial.ShearDenial.TheVariants.{NoLevels, BadCard}
use Rattle.seismic.specs.declared.row.Row.{Row}
use Rattle.seismic.specs.declared.storey.Storey.{Storey}
use Rattle.seismic.specs.Laws.{shares_from}
use Rattle.seismic.specs.Refusals.{shear_denial}
use Rattle.seismic.specs.Sheets.{sheet_rows, sheet_storeys}

-- hundreds of kgf per mm
abbrev pub stiffness_fits : Axis → Bool
stiffness_fits a = from_to 1 10000 a.stiffness

-- an axis with its part of a storey's shear as its direct shear
abbrev pub with_part : Axis → ℕ → ℕ → Axis
with_part a tail part = record a { direct_shear = part }

-- the first axis outside its range, counted from 1
abbrev pub first_outside : List Axis → Option ℕ
first_outside axes = option_map (λ (before : ℕ). before + 1) (position_from (λ (a : Axis). not (stiffness_fits a)) 0 axes)

abbrev pub out_of_range : Option ℕ → Option AxesDenial
out_of_range None = None
out_of_range (Some axis) = Some (OutOfRange axis)

-- why these axes take no shear: their count, 1 to 16, goes before each of them
abbrev pub table_denial : List Axis → Option AxesDenial
table_denial axes = cond (from_to 1 16 (length axes)) (out_of_range (first_outside axes)) (Some WrongCount)

abbrev pub TableJudged : Option AxesDenial → Result (Unit {0}) AxesDenial → Type 0
TableJudged denial (Ok _) = denial ≡ None
TableJudged denial (Err d) = denial ≡ Some d

-- what stands against the storeys' shears goes before what stands against this storey and these axes
abbrev pub sheared_denial : Option ShearDenial → ℕ → ℕ → List Axis → Option AxesDenial
sheared_denial (Some d) levels storey axes = Some (NoShears d)
sheared_denial None levels storey axes = cond (from_to 1 levels storey) (table_denial axes) (Some (NoSuchStorey storey))

abbrev pub axes_denial : ℕ → Card → ℕ → List Axis → Option AxesDenial
axes_denial levels card storey axes = sheared_denial (shear_denial levels card) levels storey axes

-- v is the shear of a storey that is there, counted from 1
abbrev pub ShearAt : List Storey → ℕ → ℕ → Type 0
ShearAt storeys storey v = option_map (λ (s : Storey). s.shear) (slice_get storeys (storey - 1)) ≡ Some v

-- the shear, with it spread over the axes by stiffness; or a denial, with the axes as they were
abbrev pub OnAxes : Card → List Level → ℕ → List Axis → Result ℕ AxesDenial → List Axis → Type 0
OnAxes card ls storey before (Ok v) after =
    (axes_denial (length ls) card storey before ≡ None)
    × ShearAt (sheet_storeys card ls) storey v
    × (after ≡ spread_over (λ (a : Axis). a.stiffness) with_part v before)
OnAxes card ls storey before (Err d) after = (axes_denial (length ls) card storey before ≡ Some d) × (after ≡ before)

-- axis k of the table, counted from 1, lies within its range, where there is one
abbrev pub AxisFits : List Axis → ℕ → Type 0
AxisFits axes k = (a : Axis) → slice_get axes (k - 1) ≡ Some a → (1 ≤ a.stiffness) × (a.stiffness ≤ 10000)

-- the frame has a storey of this number
abbrev pub StoreyIsThere : ℕ → ℕ → Type 0
StoreyIsThere levels storey = (1 ≤ storey) × (storey ≤ levels)

-- there are 1 to 16 axes
abbrev pub CountFits : List Axis → Type 0
CountFits axes = (1 ≤ length axes) × (length axes ≤ 16)

-- what each denial says of the card, the levels, the storey and the axes; of a bad card, that its check answers so
abbrev pub DeniedOnAxes : Card → ℕ → ℕ → List Axis → AxesDenial → Type 0
DeniedOnAxes card levels storey axes (NoShears NoLevels) = levels ≡ 0
DeniedOnAxes card levels storey axes (NoShears (BadCard d)) = (1 ≤ levels) × CheckedWhen card (Err d)
DeniedOnAxes card levels storey axes (NoSuchStorey k) = (1 ≤ levels) × GoodCard card × (k ≡ storey) × ¬ StoreyIsThere levels storey
DeniedOnAxes card levels storey axes WrongCount = GoodCard card × StoreyIsThere levels storey × ¬ CountFits axes
-- the first axis outside its range
DeniedOnAxes card levels storey axes (OutOfRange k) =
    GoodCard card × StoreyIsThere levels storey × CountFits axes × (1 ≤ k) × (k ≤ length axes) × ¬ AxisFits axes k
    × ((j : ℕ) → 1 ≤ j → j < k → AxisFits axes j)

-- what the direct shears keep
pub record Allotted (card : Card) (ls : List Level) (storey v : ℕ) (before after : List Axis) : Type 0 where
  pub good : GoodCard card
  pub storey_from : 1 ≤ storey
  pub storey_to : storey ≤ length ls
  pub axes_from : 1 ≤ length before
  pub axes_to : length before ≤ 16
  pub axes_fit : (k : ℕ) → 1 ≤ k → AxisFits before k
  -- the shear is that of the storey's row in the sheet
  pub as_in_the_sheet : (r : Row) → slice_get (sheet_rows card ls) (storey - 1) ≡ Some r → v ≡ r.shear
  -- it is not below its exact share of V0, and less than 1 kgf above it
  pub near_exact_share : (v0 : ℕ) → IsBaseShear card (weight_of ls) v0 → IsCeiling (v0 * shares_from ls (storey - 1)) (shares_from ls 0) v
  -- the direct shears add up to it, and from each axis on they are near its exact share
  pub spread : IsSpread (λ (a : Axis). a.stiffness) (λ (a : Axis). a.direct_shear) v before after
  -- nothing else of an axis changes
  pub stiffness_stays : map (λ (a : Axis). a.stiffness) after ≡ map (λ (a : Axis). a.stiffness) before

abbrev pub LawOnAxes : Card → List Level → ℕ → List Axis → Result ℕ AxesDenial → List Axis → Type 0
LawOnAxes card ls storey before (Ok v) after = Allotted card ls storey v before after
LawOnAxes card ls storey before (Err d) after = DeniedOnAxes card (length ls) storey before d
