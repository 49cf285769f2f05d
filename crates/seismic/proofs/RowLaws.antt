-- Each row of a sheet stands as the law says.
use Rattle.std.proofs.Common.{◌≡◌, ℕ, zero, suc, ◌+◌, ◌*◌, ◌-ℤ◌, ◌<◌, true, List, [], ◌∷◌, length, pos, slice_get, Some, sym, refl, ap, ◌∙◌, subst, arith}
use Rattle.std.proofs.lemmas.Bool.{leb-true, and_parts}
use Rattle.std.proofs.lemmas.Option.{slice_get_within}
use Rattle.records.specs.declared.card.Card.{Card}
use Rattle.records.specs.declared.level.Level.{Level}
use Rattle.records.specs.Ranges.{level_fits, height_fits, stiffness_fits, weight_fits}
use Rattle.spreading.specs.Ceilings.{IsCeiling}
use Rattle.spreading.proofs.Ceilings.{div_ceil_is_ceiling}
use Rattle.frames.specs.Levels.{all_fit}
use Rattle.seismic.specs.declared.row.Row.{Row}
use Rattle.seismic.specs.declared.storey.Storey.{Storey}
use Rattle.seismic.specs.Laws.{RowStands, shares_from}
use Rattle.seismic.specs.Storeys.{sheared}
use Rattle.seismic.proofs.RowPlaces.{the_row, the_rows, by_storey, row_from, forces_from, drifts_up_to, row_a_level, twist_stands}
use Rattle.seismic.proofs.Shares.{shares_by_levels}
use Rattle.seismic.proofs.StoreyPlaces.{storey_stands}
use Rattle.seismic.proofs.StoreyShears.{shear_at, sheared_spread}

-- each level is within its ranges
fit_at : (ls : List Level) (i : ℕ) (l : Level) → all_fit ls ≡ true → slice_get ls i ≡ Some l → level_fits l ≡ true
fit_at [] i l fit e = cc
fit_at (x ∷ ls) zero l fit e = let same : x ≡ l = cc in subst (λ (y : Level). level_fits y ≡ true) same (and_parts (level_fits x) _ fit).0
fit_at (x ∷ ls) (suc i) l fit e = fit_at ls i l (and_parts (level_fits x) _ fit).1 e

-- so no storey's stiffness is 0
pub stiff : (l : Level) → level_fits l ≡ true → 0 < l.stiffness
stiff l fits =
    let p = and_parts (height_fits l.height) _ (and_parts (weight_fits l.weight) _ fits).1 in
    omega (arith, leb-true 1 l.stiffness (and_parts _ _ (and_parts (stiffness_fits l.stiffness) _ p.1).0).0)

-- the rows of levels of which each fits, and there is one
module _ (card : Card) (amount : ℕ) (ls : List Level) (some : 0 < length ls) (fit : all_fit ls ≡ true) where
  abbrev ss : List Storey
  ss = sheared amount ls

  abbrev rows : List Row
  rows = the_rows card amount ls

  -- each storey's row stands on the storey's own level
  own_row_stands :
      (i : ℕ) (s : Storey) → slice_get ls i ≡ Some s.level → slice_get ss i ≡ Some s
      → RowStands card ls rows i s.level (the_row card amount ls i s)
  own_row_stands i s el es = record {
    level = refl;
    weight = refl;
    height = (storey_stands amount ls i s.level s el es).height;
    shear = shear_at amount ls some fit i s es ∙ sym (forces_from card ss i);
    drift = div_ceil_is_ceiling _ _ (stiff s.level (fit_at ls i s.level fit el));
    displacement = sym (drifts_up_to card ss (i + 1));
    ma = ap (λ (n : ℕ). 15 * n + s.level.width * s.shear) (twist_stands card amount ls i s);
    mb = ap (λ (n : ℕ). pos (10 * n) -ℤ pos (s.level.width * s.shear)) (twist_stands card amount ls i s);
    separation = refl;
  }

  pub row_stands : (i : ℕ) (l : Level) (r : Row) → slice_get ls i ≡ Some l → slice_get rows i ≡ Some r → RowStands card ls rows i l r
  row_stands i = by_storey card amount ls (RowStands card ls rows i) i (own_row_stands i)

  -- V is the exact share rounded up
  pub storey_near :
      (i : ℕ) (s : Storey) → i < length ls → slice_get ss i ≡ Some s → IsCeiling (amount * shares_from ls i) (shares_from ls 0) s.shear
  storey_near i s within es =
      let near = (sheared_spread amount ls some fit).near_exact_share i in
      rw (sym (shares_by_levels ls i within))
      (rw (sym (shares_by_levels ls 0 some)) (subst (IsCeiling _ _) (sym (shear_at amount ls some fit i s es)) near))

  -- so it is in the storey's row
  pub shear_near : (i : ℕ) (r : Row) → slice_get rows i ≡ Some r → IsCeiling (amount * shares_from ls i) (shares_from ls 0) r.shear
  shear_near i r er =
      let from = row_from card ss i r er in
      let within : i < length ls = omega (arith, slice_get_within rows i r er, row_a_level card amount ls) in
      subst (IsCeiling _ _) (ap (λ (y : Row). y.shear) from.2) (storey_near i from.0 within from.1)
