-- The shear of a storey, and axes that may take it.
use Rattle.std.proofs.Common.{◌≡◌, ℕ, zero, suc, ◌+◌, ◌-◌, ◌*◌, ◌<◌, ◌≤◌, false, not, List, [], ◌∷◌, length, get_or, map, sum_by, slice_get, Some, None, Option, option_map, is_some, subst, sym, refl, ap, ◌∙◌, arith}
use Rattle.std.proofs.lemmas.List.Sums.{sum_by-cons}
use Rattle.std.specs.List.{position_from}
use Rattle.records.specs.declared.card.Card.{Card}
use Rattle.records.specs.declared.level.Level.{Level}
use Rattle.cards.specs.Denials.{card_denial}
use Rattle.cards.specs.Shears.{IsBaseShear}
use Rattle.frames.specs.Levels.{Sound, weight_of}
use Rattle.frames.specs.Lists.{limits}
use Rattle.spreading.specs.Ceilings.{IsCeiling}
use Rattle.spreading.proofs.Ceilings.{one_ceiling}
use Rattle.spreading.specs.Spreads.{spread_from, spread_over}
use Rattle.seismic.specs.declared.axis.Axis.{Axis}
use Rattle.seismic.specs.declared.row.Row.{Row}
use Rattle.seismic.specs.declared.storey.Storey.{Storey}
use Rattle.seismic.specs.Axes.{first_outside, with_part, stiffness_fits, AxisFits, ShearAt}
use Rattle.seismic.specs.Laws.{shares_from}
use Rattle.seismic.specs.Sheets.{sheet_rows, sheet_storeys}
use Rattle.seismic.specs.Storeys.{base_of}
use Rattle.seismic.proofs.AxesDenials.{all_fit, FitsAt}
use Rattle.seismic.proofs.Laws.{lawful}
use Rattle.seismic.proofs.Places.{made_from}
use Rattle.seismic.proofs.RowLaws.{storey_near}
use Rattle.seismic.proofs.RowPlaces.{row_from}

-- what the sum of stiffnesses keeps to, where each stiffness is from 1 to 10,000
record Stiff (axes : List Axis) : Type 0 where
  least : length axes ≤ sum_by (λ (a : Axis). a.stiffness) axes
  most : sum_by (λ (a : Axis). a.stiffness) axes ≤ 10000 * length axes

-- where each axis is within its range, so are the sums
stiff : (axes : List Axis) → ((i : ℕ) → FitsAt axes i) → Stiff axes
stiff [] each = record { least = omega arith; most = omega arith }
stiff (a ∷ axes) each =
    let f = each 0 a refl in
    let rest = stiff axes (λ (i : ℕ). each (suc i)) in
    let more = sum_by-cons (λ (x : Axis). x.stiffness) a axes in
    record { least = omega (arith, f.0, rest.least, more); most = omega (arith, f.1, rest.most, more) }

none_of : (o : Option ℕ) → option_map (λ (before : ℕ). before + 1) o ≡ None → o ≡ None
none_of None e = refl
none_of (Some n) e = cc

-- where the first axis outside its range is none, each is within it
none_outside : (axes : List Axis) → None ≡ first_outside axes → (i : ℕ) → FitsAt axes i
none_outside axes e = all_fit 0 axes (none_of (position_from (λ (x : Axis). not (stiffness_fits x)) 0 axes) (sym e))

pub each_fits : (axes : List Axis) → None ≡ first_outside axes → (k : ℕ) → 1 ≤ k → AxisFits axes k
each_fits axes e k from = none_outside axes e (k - 1)

pub some_stiffness : (axes : List Axis) → None ≡ first_outside axes → 1 ≤ length axes → 0 < sum_by (λ (a : Axis). a.stiffness) axes
some_stiffness axes e some = omega (arith, (stiff axes (none_outside axes e)).least)

pub few_stiffness : (axes : List Axis) → None ≡ first_outside axes → length axes ≤ 16 → sum_by (λ (a : Axis). a.stiffness) axes ≤ 160000
few_stiffness axes e few = omega (arith, (stiff axes (none_outside axes e)).most)

-- what is read of the storeys is the shear of the one that is there
pub shear_read :
    (ss : List Storey) (i : ℕ) (d : Storey) → i < length ss
    → option_map (λ (s : Storey). s.shear) (slice_get ss i) ≡ Some (get_or ss i d).shear
shear_read [] i d inside = absurd (omega arith)
shear_read (s ∷ ss) zero d inside = refl
shear_read (s ∷ ss) (suc i) d inside = shear_read ss i d (omega (arith, inside))

-- it is the shear in the storey's row
pub as_in_row :
    (card : Card) (ls : List Level) (storey v : ℕ) → ShearAt (sheet_storeys card ls) storey v → (r : Row)
    → slice_get (sheet_rows card ls) (storey - 1) ≡ Some r → v ≡ r.shear
as_in_row card ls storey v is r e =
    let f = row_from card (sheet_storeys card ls) (storey - 1) r e in
    let here : Some v ≡ Some f.0.shear = sym is ∙ ap (option_map (λ (s : Storey). s.shear)) f.1 in
    let same : v ≡ f.0.shear = cc in
    same ∙ ap (λ (x : Row). x.shear) f.2

-- a fraction that has a ceiling has a denominator above 0
some_below : (n d q : ℕ) → IsCeiling n d q → 0 < d
some_below n zero q c = absurd (omega (arith, c.enough, c.near))
some_below n (suc d) q c = omega arith

-- the shear is near its exact share of V0
pub near_share :
    (card : Card) (ls : List Level) (storey v : ℕ) → is_some (card_denial card) ≡ false → Sound ls → 1 ≤ storey → storey ≤ length ls
    → ShearAt (sheet_storeys card ls) storey v → (v0 : ℕ) → IsBaseShear card (weight_of ls) v0
    → IsCeiling (v0 * shares_from ls (storey - 1)) (shares_from ls 0) v
near_share card ls storey v ok sound from to is v0 base =
    let some : 0 < length ls = omega (arith, from, to) in
    let s = made_from (λ (s : Storey). s.shear) (slice_get (sheet_storeys card ls) (storey - 1)) v is in
    let near = storey_near card (base_of card ls) ls some (limits ls sound).each (storey - 1) s.0 (omega (arith, from, to)) s.1 in
    let own = (lawful card ls ok sound some).base_shear in
    let same : base_of card ls ≡ v0 = one_ceiling _ _ _ v0 (some_below _ _ v0 base) own base in
    subst (λ (b : ℕ). IsCeiling (b * shares_from ls (storey - 1)) (shares_from ls 0) v) same (subst (IsCeiling _ _) s.2 near)

stiffness_kept :
    (amount total : ℕ) (axes : List Axis)
    → map (λ (a : Axis). a.stiffness) (spread_from (λ (a : Axis). a.stiffness) with_part amount total axes) ≡ map (λ (a : Axis). a.stiffness) axes
stiffness_kept amount total [] = refl
stiffness_kept amount total (a ∷ axes) = ap (λ (ns : List ℕ). a.stiffness ∷ ns) (stiffness_kept amount total axes)

pub stiffness_stays :
    (v : ℕ) (before after : List Axis) → after ≡ spread_over (λ (a : Axis). a.stiffness) with_part v before
    → map (λ (a : Axis). a.stiffness) after ≡ map (λ (a : Axis). a.stiffness) before
stiffness_stays v before after is = ap (map (λ (a : Axis). a.stiffness)) is ∙ stiffness_kept v (sum_by (λ (a : Axis). a.stiffness) before) before
