-- What the fields of a card keep within, where nothing is wrong with it.
use Rattle.std.proofs.Common.{◌≡◌, ℕ, ◌≤◌, Bool, true, false, not, List, [], ◌∷◌, is_some, Some, None, Option, option_map, refl, sym, ◌⊎◌, arith}
use Rattle.std.specs.List.{find}
use Rattle.records.specs.declared.card.Card.{Card}
use Rattle.records.specs.declared.card.Group.{Group}
use Rattle.records.specs.declared.card.Group.TheVariants.{B, A, AA}
use Rattle.cards.specs.declared.denial.CardDenial.{CardDenial}
use Rattle.cards.specs.Cards.{fields}
use Rattle.cards.specs.Denials.{card_denial, first_outside, out_of_range}
use Rattle.cards.specs.Fits.{AllFit}
use Rattle.cards.specs.Shears.{factor, factor_in}
use Rattle.cards.proofs.Fits.{field_law}

-- the bounds that sums and products with the fields need
pub record FieldBounds (card : Card) : Type 0 where
  pub c_least : 1 ≤ card.c
  pub c_most : card.c ≤ 570
  pub a0_most : card.a0 ≤ card.c
  pub ta_least : 1 ≤ card.ta
  pub ta_most : card.ta ≤ 1000
  pub tb_most : card.tb ≤ 1000
  pub factor_least : 10 ≤ factor card
  pub factor_most : factor card ≤ 40
  pub correction_least : 50 ≤ card.correction
  pub correction_most : card.correction ≤ 100
  pub load_factor_least : 100 ≤ card.load_factor
  pub load_factor_most : card.load_factor ≤ 200
  pub gap_most : card.gap ≤ 10000

-- the first field outside its range is the field of the first test that fails
pub first_found : (fs : List (ℕ × Bool)) → option_map (λ (f : ℕ × Bool). f.0) (find (λ (f : ℕ × Bool). not f.1) fs) ≡ first_outside fs
first_found [] = refl
first_found ((n, true) ∷ fs) = first_found fs
first_found ((n, false) ∷ fs) = refl

-- Q is 1 to 4, in tenths
factor_range : (g : Group) (q : ℕ) → (q ≡ 10) ⊎ (q ≡ 15) ⊎ (q ≡ 20) ⊎ (q ≡ 30) ⊎ (q ≡ 40) → (10 ≤ factor_in g q) × (factor_in g q ≤ 40)
factor_range B q e = (omega arith, omega arith)
factor_range A q e = (omega arith, omega arith)
factor_range AA q e = (omega arith, omega arith)

-- a card that is not denied has no field outside its range
no_field : (o : Option ℕ) (later : Option CardDenial) → is_some (out_of_range o later) ≡ false → o ≡ None
no_field None later e = refl
no_field (Some f) later e = cc

-- the fields of a card that is not denied are within these bounds
pub field_bounds : (card : Card) → is_some (card_denial card) ≡ false → FieldBounds card
field_bounds card e =
    let all : AllFit card = field_law card None (sym (no_field (first_outside (fields card)) _ e)) in
    let c = (all 3).c refl in
    let ta = (all 5).ta refl in
    let q = factor_range card.group card.q ((all 8).q refl) in
    let correction = (all 9).correction refl in
    let load = (all 11).load_factor refl in
    record {
      c_least = c.0;
      c_most = c.1;
      a0_most = ((all 4).a0 refl).1;
      ta_least = ta.0;
      ta_most = ta.1;
      tb_most = ((all 6).tb refl).1;
      factor_least = q.0;
      factor_most = q.1;
      correction_least = correction.0;
      correction_most = correction.1;
      load_factor_least = load.0;
      load_factor_most = load.1;
      gap_most = (all 12).gap refl;
    }
