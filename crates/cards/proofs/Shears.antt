-- The base shear in whole numbers is that of the fractions.
use Rattle.std.proofs.Common.{◌≡◌, ℕ, ◌+◌, ◌-◌, ◌*◌, ◌<◌, ◌≤◌, min, false, is_some, Some, None, Option, refl, sym, subst, arith, nat_lt, ◌^◌, Fits, w64}
use Rattle.std.proofs.Math.Nat.{mul-pos, mul-le-mul_left, mul-le-mul_right}
use Rattle.std.proofs.lemmas.Nat.{mul-le}
use Rattle.std.proofs.lemmas.Bool.{cond_both, ltb-true, ltb-false}
use Rattle.std.specs.Int.{div_ceil}
use Rattle.records.specs.declared.card.Card.{Card}
use Rattle.records.specs.declared.card.Group.{Group}
use Rattle.records.specs.declared.card.Group.TheVariants.{B, A, AA}
use Rattle.spreading.proofs.Ceilings.{div_ceil_is_ceiling, ceiling_least, one_ceiling, equal_ceiling}
use Rattle.cards.specs.Denials.{card_denial}
use Rattle.cards.specs.Fractions.{over, times}
use Rattle.cards.specs.Shears.{early, spectrum, importance, ordinate, factor, softening, reduction, kgf, exact_shear, IsBaseShear, base_shear}
use Rattle.cards.specs.Wholes.{counted, quarters, whole_ordinate, whole_reduction}
use Rattle.cards.proofs.Fields.{FieldBounds, field_bounds}
use Rattle.cards.proofs.Fractions.{Equals, times_equals, divided_equals, at_least_one_equals}

-- what holds at each early T, and at Ta where no T is early, holds at every period
at_period : (P : Option ℕ → ℕ → Type 0) (ta : ℕ) (period : Option ℕ) → P None ta → ((t : ℕ) → P (Some t) t) → P (early ta period) (counted ta period)
at_period P ta None late soon = late
at_period P ta (Some t) late soon =
    cond_both (nat_lt t ta) (Some t) None (λ (o : Option ℕ). P o (min t ta))
    (λ l. let e : t ≡ min t ta = omega (arith, ltb-true t ta l) in subst (P (Some t)) e (soon t))
    (λ l. let e : ta ≡ min t ta = omega (arith, ltb-false t ta l) in subst (P None) e late)

-- a group's factor is its quarters over 4
quarters_equal : (g : Group) → Equals (importance g) (quarters g) 4
quarters_equal B = record { some = omega arith; same = refl }
quarters_equal A = record { some = omega arith; same = refl }
quarters_equal AA = record { some = omega arith; same = refl }

-- no group takes more than 7 quarters
quarters_most : (g : Group) → quarters g ≤ 7
quarters_most B = omega arith
quarters_most A = omega arith
quarters_most AA = omega arith

-- the period counts for at most Ta
counted_most : (ta : ℕ) (period : Option ℕ) → counted ta period ≤ ta
counted_most ta None = omega arith
counted_most ta (Some t) = omega arith

-- what the ordinate, the group and a weight make, in quarters of thousandths over Ta
abbrev whole_lateral : Card → ℕ → ℕ
whole_lateral card w = whole_ordinate card * quarters card.group * (100 * w)

-- the base shear as the program works it out
abbrev whole_shear : Card → ℕ → ℕ
whole_shear card w = div_ceil (whole_lateral card w) (4 * whole_reduction card)

module _ (card : Card) (b : FieldBounds card) where
  -- the whole ordinate is that of the spectrum
  spectrum_equals : Equals (spectrum card (early card.ta card.period)) (whole_ordinate card) (1000 * card.ta)
  spectrum_equals =
      let rise = card.c - card.a0 in
      let c : card.c ≡ card.a0 + rise = omega (arith, b.a0_most) in
      at_period (λ (o : Option ℕ) (t : ℕ). Equals (spectrum card o) (card.a0 * card.ta + rise * t) (1000 * card.ta)) card.ta card.period
      (record { some = omega arith; same = let e : card.c * card.ta ≡ (card.a0 + rise) * card.ta = cc in omega arith })
      (λ t. record { some = omega (arith, b.ta_least); same = omega arith })

  -- Q' before its correction, in tenths over Ta
  softening_equals : Equals (softening card (early card.ta card.period)) (10 * card.ta + (factor card - 10) * counted card.ta card.period) (10 * card.ta)
  softening_equals =
      let more = factor card - 10 in
      let q : factor card ≡ 10 + more = omega (arith, b.factor_least) in
      at_period (λ (o : Option ℕ) (t : ℕ). Equals (softening card o) (10 * card.ta + more * t) (10 * card.ta)) card.ta card.period
      (record { some = omega arith; same = let e : factor card * card.ta ≡ (10 + more) * card.ta = cc in omega arith })
      (λ t. record { some = omega (arith, b.ta_least); same = omega arith })

  -- the whole reduction is Q'
  reduction_equals : Equals (reduction card) (whole_reduction card) (1000 * card.ta)
  reduction_equals =
      let n = (10 * card.ta + (factor card - 10) * counted card.ta card.period) * card.correction in
      let s = times_equals _ (over card.correction 100) _ (10 * card.ta) card.correction 100 softening_equals (record { some = omega arith; same = refl }) in
      at_least_one_equals (times (softening card (early card.ta card.period)) (over card.correction 100)) n (1000 * card.ta) (omega (arith, b.ta_least)) (record { some = s.some; same = omega (arith, s.same) })

  -- the ordinate is at most 570 thousandths
  ordinate_within : whole_ordinate card ≤ 570 * card.ta
  ordinate_within =
      let rise = card.c - card.a0 in
      let t : rise * counted card.ta card.period ≤ rise * card.ta = mul-le-mul_left rise (counted_most card.ta card.period) in
      let c : (card.a0 + rise) * card.ta ≤ 570 * card.ta = mul-le-mul_right card.ta (omega (arith, b.a0_most, b.c_most)) in
      omega arith

  -- a × W0 / Q' in whole terms, both of them times 1000 Ta
  shear_equals : (w : ℕ) → Equals (exact_shear card w) (whole_lateral card w * (1000 * card.ta)) (4 * whole_reduction card * (1000 * card.ta))
  shear_equals w =
      let ta = 1000 * card.ta in
      let o = times_equals (spectrum card (early card.ta card.period)) (importance card.group) _ ta _ 4 spectrum_equals (quarters_equal card.group) in
      let a = times_equals (ordinate card) (kgf w) _ (ta * 4) (100 * w) 1 o (record { some = omega arith; same = refl }) in
      let v = divided_equals (times (ordinate card) (kgf w)) (reduction card) (whole_lateral card w) (ta * 4 * 1) (whole_reduction card) ta (omega (arith, b.ta_least)) a reduction_equals in
      record { some = v.some; same = omega (arith, v.same) }

module _ (card : Card) (w : ℕ) (ok : is_some (card_denial card) ≡ false) where
  -- its bounds
  fields_fit : FieldBounds card
  fields_fit = field_bounds card ok

  -- Q' is above 0
  some_reduction : 0 < 4 * whole_reduction card
  some_reduction = omega (arith, fields_fit.ta_least)

  -- a × W0 fits 64 bits where the weight fits 32
  pub lateral_fits : w < 2 ^ 32 → Fits w64 (whole_lateral card w)
  lateral_fits few =
      let o = mul-le (whole_ordinate card) (quarters card.group) 570000 7 (omega (arith, ordinate_within card fields_fit, fields_fit.ta_most)) (quarters_most card.group) in
      let all = mul-le (whole_ordinate card * quarters card.group) (100 * w) 3990000 429496729600 o (omega arith) in
      omega arith

  -- the whole terms give the smallest whole number not below a × W0 / Q'
  pub shear_exact : IsBaseShear card w (whole_shear card w)
  shear_exact =
      let l = whole_lateral card w in
      let d = 4 * whole_reduction card in
      let ta = 1000 * card.ta in
      let s = shear_equals card fields_fit w in
      let pos : 0 < d * ta = mul-pos some_reduction (omega (arith, fields_fit.ta_least)) in
      let c = equal_ceiling l d (l * ta) (d * ta) (whole_shear card w) some_reduction pos (omega arith) (div_ceil_is_ceiling l d some_reduction) in
      equal_ceiling (l * ta) (d * ta) (exact_shear card w).num (exact_shear card w).den (whole_shear card w) pos s.some (sym s.same) c

  -- that number is the one of the definition
  pub shear_value : whole_shear card w ≡ base_shear card w
  shear_value =
      let some = (shear_equals card fields_fit w).some in
      one_ceiling (exact_shear card w).num (exact_shear card w).den (whole_shear card w) (base_shear card w) some shear_exact (div_ceil_is_ceiling (exact_shear card w).num (exact_shear card w).den some)

  -- it is at most the weight itself
  pub shear_most : whole_shear card w ≤ 100 * w
  shear_most =
      let r = whole_reduction card in
      let o = mul-le (whole_ordinate card) (quarters card.group) (570 * card.ta) 7 (ordinate_within card fields_fit) (quarters_most card.group) in
      let up : whole_lateral card w ≤ 4 * r * (100 * w) = mul-le-mul_right (100 * w) (let low : whole_ordinate card * quarters card.group ≤ 4 * r = omega arith in low) in
      ceiling_least (whole_lateral card w) (4 * r) (whole_shear card w) (100 * w) some_reduction (div_ceil_is_ceiling (whole_lateral card w) (4 * r) some_reduction) (omega arith)

-- Q' is at most 4
pub reduction_most : (card : Card) → is_some (card_denial card) ≡ false → whole_reduction card ≤ 4000000
reduction_most card ok =
    let b = field_bounds card ok in
    let more = mul-le (factor card - 10) (counted card.ta card.period) 30 1000 (omega (arith, b.factor_most)) (omega (arith, counted_most card.ta card.period, b.ta_most)) in
    let all = mul-le (10 * card.ta + (factor card - 10) * counted card.ta card.period) card.correction 40000 100 (omega (arith, b.ta_most)) b.correction_most in
    omega (arith, b.ta_most)
