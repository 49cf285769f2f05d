-- What is spread adds up, and from every record on it is the exact share rounded up.
use Rattle.std.proofs.Common.{◌≡◌, ℕ, zero, suc, ◌-◌, ◌*◌, ◌<◌, ◌≤◌, List, [], ◌∷◌, length, drop, sum_by, sym, refl, ap, ◌∙◌, subst, arith}
use Rattle.std.proofs.Math.Nat.{mul-le-mul_left}
use Rattle.std.proofs.lemmas.List.Sums.{sum_by-cons}
use Rattle.std.specs.Int.{div_ceil}
use Rattle.spreading.specs.Ceilings.{IsCeiling}
use Rattle.spreading.specs.Spreads.{tail, spread_from, IsSpread}
use Rattle.spreading.proofs.Ceilings.{div_ceil_is_ceiling, ceiling_rises, ceiling_of_multiple}
use Rattle.spreading.proofs.Tails.{tail_of_none}

module _ {R : Type 0} (share part : R → ℕ) (taken : R → ℕ → ℕ → R) (keeps_part : (r : R) (t p : ℕ) → part (taken r t p) ≡ p) (amount total : ℕ) (some : 0 < total) where
  -- the parts from a record on add up to its tail
  parts_are_tail : (rs : List R) → sum_by part (spread_from share taken amount total rs) ≡ tail share amount total rs
  parts_are_tail [] = sym (tail_of_none share amount total some)
  parts_are_tail (r ∷ rs) =
      let t = tail share amount total (r ∷ rs) in
      let next = tail share amount total rs in
      let fewer : sum_by share rs ≤ sum_by share (r ∷ rs) = omega (arith, sum_by-cons share r rs) in
      let falls : next ≤ t = ceiling_rises _ _ total some (mul-le-mul_left amount fewer) in
      sum_by-cons part (taken r t (t - next)) (spread_from share taken amount total rs)
      ∙ omega (arith, keeps_part r t (t - next), parts_are_tail rs)

  -- the records from i on are spread as if they stood alone
  drop_spread :
      (i : ℕ) (rs : List R) →
      drop i (spread_from share taken amount total rs) ≡ spread_from share taken amount total (drop i rs)
  drop_spread zero rs = refl
  drop_spread (suc i) [] = refl
  drop_spread (suc i) (r ∷ rs) = drop_spread i rs

  -- no record is lost or added
  length_spread : (rs : List R) → length (spread_from share taken amount total rs) ≡ length rs
  length_spread [] = refl
  length_spread (r ∷ rs) = ap suc (length_spread rs)

  -- what spreading makes keeps the law
  pub is_spread :
      (before after : List R) → total ≡ sum_by share before → after ≡ spread_from share taken amount total before →
      IsSpread share part amount before after
  is_spread before after whole is =
      let at : (i : ℕ) → sum_by part (drop i after) ≡ tail share amount total (drop i before) =
      λ i. ap (λ (l : List R). sum_by part (drop i l)) is
      ∙ ap (sum_by part) (drop_spread i before)
      ∙ parts_are_tail (drop i before) in
      let exact = λ (i : ℕ). amount * sum_by share (drop i before) in
      let ceiling : (i : ℕ) → IsCeiling (exact i) total (sum_by part (drop i after)) =
      λ i. subst (IsCeiling (exact i) total) (sym (at i)) (div_ceil_is_ceiling (exact i) total some) in
      record {
        count = ap length is ∙ length_spread before;
        parts_add_up = at 0 ∙ ap (λ (s : ℕ). div_ceil (amount * s) total) (sym whole) ∙ ceiling_of_multiple amount total some;
        near_exact_share = λ i. subst (λ (d : ℕ). IsCeiling (exact i) d (sum_by part (drop i after))) whole (ceiling i);
      }
