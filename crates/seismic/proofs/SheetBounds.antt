-- How large the numbers of a sheet and of its rows get.
use Rattle.std.proofs.Common.{◌≡◌, ℕ, ◌+◌, ◌*◌, ◌+ℤ◌, ◌-ℤ◌, ◌≤ℤ◌, ◌<◌, ◌≤◌, true, false, is_some, List, length, get_or, take, drop, sum_by, ℤ, pos, negsuc, refl, subst, arith}
use lib.Signed.{mag}
use Rattle.std.proofs.Math.Nat.{mul-le-mul}
use Rattle.std.proofs.lemmas.Bool.Decides.{nat_tests}
use Rattle.std.proofs.lemmas.Int.{ints}
use Rattle.std.proofs.lemmas.List.Elements.{All-from_recursion}
use Rattle.std.proofs.lemmas.List.Sums.{sum_by-take-le}
use Rattle.std.proofs.lemmas.Option.{slice_get_within, slice_get-get_or, get_or_from_slice_get}
use Rattle.std.specs.List.{All}
use Rattle.records.specs.declared.card.Card.{Card}
use Rattle.records.specs.declared.card.Soil.{Soil}
use Rattle.records.specs.declared.card.Soil.TheVariants.{I, II, III}
use Rattle.records.specs.declared.level.Level.{Level}
use Rattle.records.specs.Ranges.{level_fits}
use Rattle.spreading.proofs.Ceilings.{div_ceil_is_ceiling, ceiling_least}
use Rattle.cards.specs.Denials.{card_denial}
use Rattle.cards.specs.Shears.{factor}
use Rattle.cards.proofs.Fields.{field_bounds}
use Rattle.cards.proofs.Shears.{shear_most, shear_value}
use Rattle.frames.specs.Levels.{Sound, weight_of}
use Rattle.frames.specs.Lists.{limits}
use Rattle.seismic.specs.Bounds.{AreBounded, IsBounded}
use Rattle.seismic.specs.Laws.{Judged}
use Rattle.seismic.specs.Responses.{drift, moment, response, twist}
use Rattle.seismic.specs.Rows.{row_of, rows_of, sway}
use Rattle.seismic.specs.Sheets.{sheet_of, sheet_rows}
use Rattle.seismic.specs.Storeys.{base_of, sheared}
use Rattle.seismic.specs.Verdicts.{verdict_of}
use Rattle.seismic.specs.declared.row.Row.{Row}
use Rattle.seismic.specs.declared.sheet.Sheet.{Sheet}
use Rattle.seismic.specs.declared.storey.Storey.{Storey}
use Rattle.seismic.specs.declared.verdict.Verdict.{Verdict}
use Rattle.seismic.specs.declared.verdict.Verdict.TheVariants.{Pass, Fail}
use Rattle.seismic.proofs.Bounded.{sheared_bounded}
use Rattle.seismic.proofs.Bounds.{moments_most, rest_most, sum_most, weight_most}
use Rattle.seismic.proofs.Judgements.{well_judged}
use Rattle.seismic.proofs.RowLaws.{stiff}
use Rattle.seismic.proofs.RowPlaces.{row_from}

-- no number of a row is greater than 24 storeys at their limits make it
pub record IsRowBounded (r : Row) : Type 0 where
  pub level : r.level ≤ 24
  pub weight : r.weight ≤ 5000
  pub height : r.height.0 ≤ 500
  pub force : r.force ≤ 12000000
  pub shear : r.shear ≤ 12000000
  pub drift : r.drift ≤ 4800000000
  pub displacement : r.displacement ≤ 115200000000
  pub ma : r.ma ≤ 4332000000000
  pub mb : mag r.mb ≤ 2880000000000
  pub separation : r.separation ≤ 115200030000

-- a verdict that fails names one of 24 storeys
abbrev pub IsVerdictBounded : Verdict → Type 0
IsVerdictBounded Pass = Unit {0}
IsVerdictBounded (Fail storey limit) = storey ≤ 24

-- nor any number of a sheet's heading
pub record IsSheetBounded (s : Sheet) : Type 0 where
  pub levels : s.levels ≤ 24
  pub weight : s.weight ≤ 120000
  pub base_shear : s.base_shear ≤ 12000000
  pub verdict : IsVerdictBounded s.verdict

-- the torsion centre lies within the greatest width
twisted : (l : Level) → level_fits l ≡ true → l.torsion_centre ≤ 1000
twisted l fits = grind (arith, nat_tests)

-- no level is wider than that
narrow : (l : Level) → level_fits l ≡ true → l.width ≤ 1000
narrow l fits = grind (arith, nat_tests)

-- two numbers are no further apart than the greater is from 0
apart_most : (a b most : ℕ) → a ≤ most → b ≤ most → mag (pos a -ℤ pos b) ≤ most
apart_most a b most low small = within (pos a -ℤ pos b) (omega (arith, ints)) (omega (arith, ints))
  where
    within : (z : ℤ) → pos 0 ≤ℤ (z +ℤ pos most) → z ≤ℤ pos most → mag z ≤ most
    within (pos n) least greatest = omega (arith, ints)
    within (negsuc n) least greatest = omega (arith, ints)

-- no soil makes a level move aside by more than 60
sway_most : (s : Soil) → sway s ≤ 60
sway_most I = omega arith
sway_most II = omega arith
sway_most III = omega arith

-- rows under a card that is not denied, of storeys within their bounds
module _ (card : Card) (ok : is_some (card_denial card) ≡ false) (ss : List Storey) (b : AreBounded ss) where
  -- u, at Q = 4 and K = 1
  drift_most : (s : Storey) → IsBounded s → drift card s ≤ 4800000000
  drift_most s low =
      let some = stiff s.level low.fits in
      let q : factor card * s.shear ≤ 40 * 12000000 = mul-le-mul (field_bounds card ok).factor_most low.shear in
      let n = 10 * (factor card * s.shear) in
      ceiling_least n s.level.stiffness _ 4800000000 some (div_ceil_is_ceiling n s.level.stiffness some) (omega (arith, q, some))

  -- x
  drifts_most : (i : ℕ) → sum_by (drift card) (take i ss) ≤ 115200000000
  drifts_most i = omega (arith, b.few, sum_by-take-le (drift card) ss i, sum_most (drift card) _ drift_most ss b)

  -- |N|
  twist_most : (i : ℕ) (s : Storey) → IsBounded s → twist s (drop i ss) ≤ 288000000000
  twist_most i s low =
      let torque : s.shear * s.level.torsion_centre ≤ 12000000 * 1000 = mul-le-mul low.shear (twisted s.level low.fits) in
      omega (arith, torque, rest_most moment ss i _ (moments_most ss b))

  -- the row of the storey that is over i others
  row_bounded : (i : ℕ) (s : Storey) → i < length ss → IsBounded s → IsRowBounded (row_of card (response card ss i s))
  row_bounded i s within low =
      let n = twist_most i s low in
      let w : s.level.width * s.shear ≤ 1000 * 12000000 = mul-le-mul (narrow s.level low.fits) low.shear in
      let aside : sway card.soil * s.height.0 ≤ 60 * 500 = mul-le-mul (sway_most card.soil) low.low in
      record {
        level = omega (arith, within, b.few);
        weight = weight_most s low;
        height = low.low;
        force = low.force;
        shear = low.shear;
        drift = drift_most s low;
        displacement = drifts_most (i + 1);
        ma = omega (arith, n, w);
        mb = apart_most (10 * twist s (drop i ss)) (s.level.width * s.shear) 2880000000000 (omega (arith, n)) (omega (arith, w));
        separation = omega (arith, aside, drifts_most (i + 1));
      }

  -- all rows
  rows_bounded : All IsRowBounded (rows_of card ss)
  rows_bounded i d h =
      let from = row_from card ss i (get_or (rows_of card ss) i d) (slice_get-get_or (rows_of card ss) i d h) in
      let s = from.0 in
      let within = slice_get_within ss i s from.1 in
      let there = All-from_recursion IsBounded ss b.each i s within in
      let low = subst IsBounded (get_or_from_slice_get ss i s s from.1) there in
      subst IsRowBounded from.2 (row_bounded i s within low)

-- the sheet of a sound list of levels under a card that is not denied
module _ (card : Card) (ls : List Level) (ok : is_some (card_denial card) ≡ false) (sound : Sound ls) (some : 0 < length ls) where
  -- V0
  base_most : base_of card ls ≤ 12000000
  base_most = omega (arith, (limits ls sound).light, shear_value card (weight_of ls) ok, shear_most card (weight_of ls) ok)

  -- the storey that a verdict names is one of the sheet's
  verdict_bounded : (v : Verdict) → Judged card ls (sheet_rows card ls) v → IsVerdictBounded v
  verdict_bounded Pass j = tt
  verdict_bounded (Fail storey limit) j =
      omega (arith, j.1, slice_get_within ls j.0 j.2.level j.2.level_at, (limits ls sound).few)

  -- the heading's numbers
  pub sheet_bounded : IsSheetBounded (sheet_of card ls)
  sheet_bounded =
      let v = verdict_of card (sheared (base_of card ls) ls) in
      record {
        levels = (limits ls sound).few;
        weight = (limits ls sound).light;
        base_shear = base_most;
        verdict = verdict_bounded v (well_judged card (base_of card ls) ls v refl);
      }

  -- and the rows'
  pub sheet_rows_bounded : All IsRowBounded (sheet_rows card ls)
  sheet_rows_bounded =
      let v = base_of card ls in
      rows_bounded card ok (sheared v ls) (sheared_bounded ls v base_most some sound)
