-- The tests of a card's fields say what its fields keep within.
use Rattle.std.proofs.Common.{◌≡◌, ℕ, suc, ◌<◌, ◌≤◌, ◌⊎◌, Bool, true, false, sym, List, [], ◌∷◌, Some, None, Option, refl, arith, rules}
use Rattle.std.proofs.lemmas.Bool.{and_parts, leb-true}
use Rattle.std.proofs.lemmas.Bool.Decides.{nat_tests}
use Rattle.records.specs.Ranges.{from_to}
use Rattle.records.specs.declared.card.Card.{Card}
use Rattle.cards.specs.Cards.{fields, is_factor, period_fits}
use Rattle.cards.specs.Denials.{first_outside}
use Rattle.cards.specs.Fits.{IsPeriod, FieldFits, FirstUnfit}

-- field k passes: each test of that field is true
abbrev Passes : List (ℕ × Bool) → ℕ → Type 0
Passes [] k = Unit {0}
Passes (f ∷ fs) k = (k ≡ f.0 → f.1 ≡ true) × Passes fs k

-- the fields stand in their order, from a on
abbrev Ordered : ℕ → List (ℕ × Bool) → Type 0
Ordered a [] = Unit {0}
Ordered a (f ∷ fs) = (a ≤ f.0) × Ordered (suc f.0) fs

-- where no field is outside its range, each passes
all_pass : (fs : List (ℕ × Bool)) (k : ℕ) → first_outside fs ≡ None → Passes fs k
all_pass [] k e = tt
all_pass ((n, true) ∷ fs) k e = (λ h. refl, all_pass fs k e)
all_pass ((n, false) ∷ fs) k e = cc

-- a field that goes before all of them passes
low_pass : (fs : List (ℕ × Bool)) (a j : ℕ) → Ordered a fs → j < a → Passes fs j
low_pass [] a j o l = tt
low_pass ((n, b) ∷ fs) a j o l = (λ h. absurd (omega (arith, o.0)), low_pass fs (suc n) j o.1 (omega (arith, o.0)))

-- the first field outside its range does not pass
first_fails : (fs : List (ℕ × Bool)) (k : ℕ) → first_outside fs ≡ Some k → Passes fs k → ⊥
first_fails [] k e p = cc
first_fails ((n, true) ∷ fs) k e p = first_fails fs k e p.1
first_fails ((n, false) ∷ fs) k e p = let h : k ≡ n = cc in let f : false ≡ true = p.0 h in cc

-- each field before it passes
earlier_pass : (fs : List (ℕ × Bool)) (a k j : ℕ) → Ordered a fs → first_outside fs ≡ Some k → j < k → Passes fs j
earlier_pass [] a k j o e l = tt
earlier_pass ((n, true) ∷ fs) a k j o e l = (λ h. refl, earlier_pass fs (suc n) k j o.1 e l)
earlier_pass ((n, false) ∷ fs) a k j o e l =
    let h : k ≡ n = cc in
    (λ i. absurd (omega arith), low_pass fs (suc n) j o.1 (omega arith))

-- what the test of a range tells
in_range : (least most n : ℕ) → from_to least most n ≡ true → (least ≤ n) × (n ≤ most)
in_range least most n e = let p = and_parts _ _ e in (leb-true _ _ p.0, leb-true _ _ p.1)

-- a number within the range passes the test
range_test : (least most n : ℕ) → (least ≤ n) × (n ≤ most) → from_to least most n ≡ true
range_test least most n p = grind (arith, nat_tests)

-- the same of a period, and of Q
in_period : (o : Option ℕ) → period_fits o ≡ true → IsPeriod o
in_period None e = tt
in_period (Some t) e = in_range 1 1000 t e

period_test : (o : Option ℕ) → IsPeriod o → period_fits o ≡ true
period_test None p = refl
period_test (Some t) p = range_test 1 1000 t p

in_factors : (q : ℕ) → is_factor q ≡ true → (q ≡ 10) ⊎ (q ≡ 15) ⊎ (q ≡ 20) ⊎ (q ≡ 30) ⊎ (q ≡ 40)
in_factors q e = grind (arith, nat_tests)

factor_test : (q : ℕ) → (q ≡ 10) ⊎ (q ≡ 15) ⊎ (q ≡ 20) ⊎ (q ≡ 30) ⊎ (q ≡ 40) → is_factor q ≡ true
factor_test q p = grind (arith, nat_tests)

module _ (card : Card) where
  -- the fields of a card stand in their order
  in_order : Ordered 0 (fields card)
  in_order = search rules

  -- a field that passes fits
  fits : (k : ℕ) → Passes (fields card) k → FieldFits card k
  fits k p = record {
    c = λ e. in_range 1 570 card.c (p.0 e);
    a0 = λ e. in_range 1 card.c card.a0 (p.1.0 e);
    ta = λ e. in_range 1 1000 card.ta (p.1.1.0 e);
    tb = λ e. in_range card.ta 1000 card.tb (p.1.1.1.0 e);
    period = λ e. in_period card.period (p.1.1.1.1.0 e);
    q = λ e. in_factors card.q (p.1.1.1.1.1.0 e);
    correction = λ e. in_range 50 100 card.correction (p.1.1.1.1.1.1.0 e);
    load_factor = λ e. in_range 100 200 card.load_factor (p.1.1.1.1.1.1.1.0 e);
    gap = λ e. (in_range 0 10000 card.gap (p.1.1.1.1.1.1.1.1.0 e)).1;
  }

  -- a field that fits passes
  passes : (k : ℕ) → FieldFits card k → Passes (fields card) k
  passes k f = search (rules, range_test, period_test, factor_test, f.c, f.a0, f.ta, f.tb, f.period, f.q, f.correction, f.load_factor, f.gap)

-- the law of the first field outside its range
pub field_law : (card : Card) (o : Option ℕ) → o ≡ first_outside (fields card) → FirstUnfit card o
field_law card None e = λ k. fits card k (all_pass (fields card) k (sym e))
field_law card (Some k) e = (
  λ f. first_fails (fields card) k (sym e) (passes card k f),
  λ j l. fits card j (earlier_pass (fields card) 0 k j (in_order card) (sym e) l),
)
