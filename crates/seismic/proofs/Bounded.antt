-- The storeys of a frame keep the bounds of a sheet.
use Rattle.std.proofs.Common.{◌≡◌, ℕ, suc, ◌+◌, ◌<◌, ◌≤◌, true, List, [], ◌∷◌, length, sum_by, refl, ap, ◌∙◌, arith}
use Rattle.std.proofs.Math.Nat.{mul-le-mul_left}
use Rattle.std.proofs.lemmas.Bool.{and_parts}
use Rattle.std.proofs.lemmas.List.Sums.{sum_by-cons}
use Rattle.std.specs.List.{AllByRecursion}
use Rattle.records.specs.declared.level.Level.{Level}
use Rattle.records.specs.Ranges.{level_fits}
use Rattle.spreading.specs.Spreads.{spread_from, tail}
use Rattle.spreading.proofs.Ceilings.{ceiling_of_multiple, ceiling_rises}
use Rattle.frames.specs.Levels.{Sound, all_fit, height_of}
use Rattle.frames.specs.Lists.{limits}
use Rattle.seismic.specs.Bounds.{AreBounded, IsBounded}
use Rattle.seismic.specs.declared.storey.Storey.{Storey}
use Rattle.seismic.specs.Storeys.{bare, crowned, taken, products, sheared, storeys, storeys_from}
use Rattle.seismic.proofs.Standing.{length_storeys}
use Rattle.seismic.proofs.StoreyPlaces.{share_of}
use Rattle.seismic.proofs.StoreyShears.{sheared_spread, some_share}

-- what a storey keeps before anything falls to it
record Stands (s : Storey) : Type 0 where
  fits : level_fits s.level ≡ true
  low : s.height.0 ≤ 500

stand_from : (p h : ℕ) (ls : List Level) → h + height_of ls ≤ 500 → all_fit ls ≡ true → AllByRecursion Stands (crowned p (storeys_from h ls))
stand_from p h [] low fit = tt
stand_from p h (l ∷ []) low fit = (record { fits = (and_parts (level_fits l) _ fit).0; low = omega (arith, low) }, tt)
stand_from p h (l ∷ m ∷ ls) low fit =
    let f = and_parts (level_fits l) (all_fit (m ∷ ls)) fit in
    (record { fits = f.0; low = omega (arith, low) }, stand_from p (h + l.height.0) (m ∷ ls) (omega (arith, low)) f.1)

module _ (amount total : ℕ) (some : 0 < total) (few : amount ≤ 12000000) where
  -- no tail is more than the amount
  tail_most : (rs : List Storey) → sum_by share_of rs ≤ total → tail share_of amount total rs ≤ amount
  tail_most rs part = omega (arith, ceiling_rises _ _ total some (mul-le-mul_left amount part), ceiling_of_multiple amount total some)

  bounded_from :
      (rs : List Storey) → sum_by share_of rs ≤ total → AllByRecursion Stands rs
      → AllByRecursion IsBounded (spread_from share_of taken amount total rs)
  bounded_from [] part stand = tt
  bounded_from (r ∷ rs) part stand = (
    record {
      fits = stand.0.fits;
      low = stand.0.low;
      shear = omega (arith, few, tail_most (r ∷ rs) part);
      force = omega (arith, few, tail_most (r ∷ rs) part);
    },
    bounded_from rs (omega (arith, part, sum_by-cons share_of r rs)) stand.1,
  )

length_crowned : (p : ℕ) (ss : List Storey) → length (crowned p ss) ≡ length ss
length_crowned p [] = refl
length_crowned p (s ∷ []) = refl
length_crowned p (s ∷ t ∷ ss) = ap suc (length_crowned p (t ∷ ss))

pub sheared_bounded : (ls : List Level) (amount : ℕ) → amount ≤ 12000000 → 0 < length ls → Sound ls → AreBounded (sheared amount ls)
sheared_bounded ls amount low some sound =
    let m = limits ls sound in
    let total = sum_by share_of (storeys ls) in
    let flat : 0 + height_of ls ≤ 500 = omega (arith, m.low) in
    let few = (sheared_spread amount ls some m.each).count ∙ length_crowned (products ls) (bare ls) ∙ length_storeys 0 ls in
    record {
      few = omega (arith, few, m.few);
      each = bounded_from amount total (some_share (products ls) 0 ls some m.each) low (storeys ls) (omega arith) (stand_from (products ls) 0 ls flat m.each);
    }
