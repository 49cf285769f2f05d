-- What falls to the storeys of a list of levels.
use Rattle.std.proofs.Common.{◌≡◌, ℕ, zero, suc, ◌+◌, ◌-◌, ◌*◌, ◌<◌, ◌≤◌, true, List, [], ◌∷◌, length, drop, sum_by, slice_get, Some, nat_le, sym, refl, ap, ◌∙◌, arith}
use Rattle.std.proofs.Math.Nat.{mul-pos}
use Rattle.std.proofs.lemmas.Bool.{leb-true, and_parts}
use Rattle.std.proofs.lemmas.List.Sums.{sum_by-cons}
use Rattle.records.specs.declared.level.Level.{Level}
use Rattle.records.specs.Ranges.{level_fits, height_fits, weight_fits}
use Rattle.spreading.specs.Spreads.{tail, spread_from, IsSpread}
use Rattle.spreading.proofs.Ceilings.{div_ceil_is_ceiling, one_ceiling}
use Rattle.spreading.proofs.Laws.{is_spread}
use Rattle.frames.specs.Levels.{all_fit}
use Rattle.seismic.specs.declared.storey.Storey.{Storey}
use Rattle.seismic.specs.Storeys.{storey_of, storeys_from, crowned, storeys, taken, sheared, products}
use Rattle.seismic.proofs.StoreyPlaces.{force_of, share_of}

-- the shear of a storey is the tail of what is spread
tail_at :
    (amount total i : ℕ) (ss : List Storey) (s : Storey) → slice_get (spread_from share_of taken amount total ss) i ≡ Some s
    → s.shear ≡ tail share_of amount total (drop i ss)
tail_at amount total i [] s e = cc
tail_at amount total zero (x ∷ ss) s e =
    let is : taken x (tail share_of amount total (x ∷ ss)) (tail share_of amount total (x ∷ ss) - tail share_of amount total ss) ≡ s = cc in
    ap (λ (y : Storey). y.shear) (sym is)
tail_at amount total (suc i) (x ∷ ss) s e = tail_at amount total i ss s e

-- a level has a weight and a height
some_product : (l : Level) (h : ℕ) → level_fits l ≡ true → 0 < l.weight * (h + l.height.0)
some_product l h fits =
    let p = and_parts (weight_fits l.weight) _ fits in
    let tall = and_parts (nat_le 20 l.height.0) _ (and_parts (height_fits l.height) _ p.1).0 in
    let heavy : 1 ≤ l.weight = leb-true 1 l.weight (and_parts (nat_le 1 l.weight) _ p.0).0 in
    mul-pos (omega (arith, heavy)) (omega (arith, leb-true 20 l.height.0 tall.0))

-- so there is something to share by
pub some_share : (p h : ℕ) (ls : List Level) → 0 < length ls → all_fit ls ≡ true → 0 < sum_by share_of (crowned p (storeys_from h ls))
some_share p h [] some fit = absurd (omega arith)
some_share p h (l ∷ []) some fit = omega (arith, some_product l h (and_parts _ _ fit).0)
some_share p h (l ∷ m ∷ ls) some fit =
    let first = storey_of l (h + l.height.0) in
    let rest = crowned p (storeys_from (h + l.height.0) (m ∷ ls)) in
    omega (arith, some_product l h (and_parts _ _ fit).0, sum_by-cons share_of first rest)

-- what falls to the storeys of levels of which each fits, and there is one
module _ (amount : ℕ) (ls : List Level) (some : 0 < length ls) (fit : all_fit ls ≡ true) where
  abbrev total : ℕ
  total = sum_by share_of (storeys ls)

  some_total : 0 < total
  some_total = some_share (products ls) 0 ls some fit

  pub sheared_spread : IsSpread share_of force_of amount (storeys ls) (sheared amount ls)
  sheared_spread = is_spread share_of force_of taken (λ s t p. refl) amount total some_total (storeys ls) (sheared amount ls) refl refl

  -- V is the sum of the forces from the storey up
  pub shear_at : (i : ℕ) (s : Storey) → slice_get (sheared amount ls) i ≡ Some s → s.shear ≡ sum_by force_of (drop i (sheared amount ls))
  shear_at i s e =
      let n = amount * sum_by share_of (drop i (storeys ls)) in
      let tail = div_ceil_is_ceiling n total some_total in
      tail_at amount total i (storeys ls) s e ∙ one_ceiling n total _ _ some_total tail (sheared_spread.near_exact_share i)
