-- What a denial says of the card, the levels, the storey and the axes.
use Rattle.std.proofs.Common.{◌≡◌, ℕ, zero, suc, ◌+◌, ◌-◌, ◌<◌, ◌≤◌, Bool, true, false, cond, not, ◌==◌, nat_le, List, [], ◌∷◌, length, slice_get, Some, None, Option, option_map, sym, refl, subst, arith}
use Rattle.std.proofs.lemmas.Bool.{cond_both, eqb-true, leb-true, le-leb, and_parts, and_from}
use Rattle.std.proofs.lemmas.Bool.Decides.{nat_tests}
use Rattle.std.specs.List.{position_from}
use Rattle.records.specs.declared.card.Card.{Card}
use Rattle.records.specs.Ranges.{from_to}
use Rattle.cards.specs.declared.denial.CardDenial.{CardDenial}
use Rattle.cards.specs.Denials.{card_denial}
use Rattle.cards.specs.Fits.{GoodCard}
use Rattle.cards.proofs.Says.{card_says, CardSays}
use Rattle.seismic.specs.declared.axis.Axis.{Axis}
use Rattle.seismic.specs.declared.denial.AxesDenial.{AxesDenial}
use Rattle.seismic.specs.declared.denial.AxesDenial.TheVariants.{NoShears, NoSuchStorey, WrongCount, OutOfRange}
use Rattle.seismic.specs.declared.denial.ShearDenial.{ShearDenial}
use Rattle.seismic.specs.declared.denial.ShearDenial.TheVariants.{NoLevels, BadCard}
use Rattle.seismic.specs.Axes.{axes_denial, first_outside, out_of_range, sheared_denial, stiffness_fits, table_denial, CountFits, DeniedOnAxes, StoreyIsThere}
use Rattle.seismic.specs.Refusals.{by_card}

-- a number that passes the test of a range lies within it
within : (least most n : ℕ) → from_to least most n ≡ true → (least ≤ n) × (n ≤ most)
within least most n e = let p = and_parts (nat_le least n) (nat_le n most) e in (leb-true least n p.0, leb-true n most p.1)

-- and one that fails it does not
outside : (least most n : ℕ) → from_to least most n ≡ false → ¬ ((least ≤ n) × (n ≤ most))
outside least most n e = λ p. let t = and_from (nat_le least n) (nat_le n most) (le-leb _ _ p.0) (le-leb _ _ p.1) in cc

not_true : (b : Bool) → not b ≡ true → b ≡ false
not_true true e = cc
not_true false e = refl

not_false : (b : Bool) → not b ≡ false → b ≡ true
not_false true e = refl
not_false false e = cc

-- the axis over i others lies within its range
abbrev pub FitsAt : List Axis → ℕ → Type 0
FitsAt axes i = (a : Axis) → slice_get axes i ≡ Some a → (1 ≤ a.stiffness) × (a.stiffness ≤ 10000)

-- the first axis, where its test passes
first_fits : (a : Axis) (axes : List Axis) → stiffness_fits a ≡ true → FitsAt (a ∷ axes) 0
first_fits a axes fits = λ b e. let same : a ≡ b = cc in within 1 10000 b.stiffness (subst (λ (x : Axis). stiffness_fits x ≡ true) same fits)

-- it and those after it
rest_fits : (a : Axis) (axes : List Axis) → stiffness_fits a ≡ true → ((i : ℕ) → FitsAt axes i) → (i : ℕ) → FitsAt (a ∷ axes) i
rest_fits a axes fits rest zero = first_fits a axes fits
rest_fits a axes fits rest (suc i) = rest i

-- where no axis is found outside its range, each is within it
pub all_fit : (n : ℕ) (axes : List Axis) → position_from (λ (a : Axis). not (stiffness_fits a)) n axes ≡ None → (i : ℕ) → FitsAt axes i
all_fit n [] e = λ i a h. cc
all_fit n (x ∷ axes) e =
    cond_both (not (stiffness_fits x)) (Some n) (position_from _ (n + 1) axes) (λ (o : Option ℕ). o ≡ None → (i : ℕ) → FitsAt (x ∷ axes) i)
    (λ out h. cc) (λ fits h. rest_fits x axes (not_false (stiffness_fits x) fits) (all_fit (n + 1) axes h)) e

-- the axis over i others is the first outside its range
record FirstOut (axes : List Axis) (i : ℕ) : Type 0 where
  there : i < length axes
  out : ¬ FitsAt axes i
  before : (j : ℕ) → j < i → FitsAt axes j

-- it is the first axis of all, where its test fails
out_here : (a : Axis) (axes : List Axis) → stiffness_fits a ≡ false → FirstOut (a ∷ axes) 0
out_here a axes out = record {
  there = omega arith;
  out = λ fits. outside 1 10000 a.stiffness out (fits a refl);
  before = λ j under. absurd (omega (arith, under));
}

-- one axis more, within its range, stands before it
under_further :
    (a : Axis) (axes : List Axis) (i : ℕ) → stiffness_fits a ≡ true → ((j : ℕ) → j < i → FitsAt axes j) → (j : ℕ) → j < suc i
    → FitsAt (a ∷ axes) j
under_further a axes i fits before zero under = first_fits a axes fits
under_further a axes i fits before (suc j) under = before j (omega (arith, under))

out_further : (a : Axis) (axes : List Axis) (i : ℕ) → stiffness_fits a ≡ true → FirstOut axes i → FirstOut (a ∷ axes) (suc i)
out_further a axes i fits first = record {
  there = omega (arith, first.there);
  out = first.out;
  before = under_further a axes i fits first.before;
}

-- the axis that is found outside its range is the first
first_out :
    (n m : ℕ) (axes : List Axis) → position_from (λ (a : Axis). not (stiffness_fits a)) n axes ≡ Some m → (i : ℕ) × (m ≡ n + i) × FirstOut axes i
first_out n m [] e = cc
first_out n m (x ∷ axes) e =
    cond_both (not (stiffness_fits x)) (Some n) (position_from _ (n + 1) axes)
    (λ (o : Option ℕ). o ≡ Some m → (i : ℕ) × (m ≡ n + i) × FirstOut (x ∷ axes) i)
    (λ out h. let same : n ≡ m = cc in (0, omega (arith, same), out_here x axes (not_true (stiffness_fits x) out)))
    (λ fits h. let f = first_out (n + 1) m axes h in (suc f.0, omega (arith, f.1), out_further x axes f.0 (not_false (stiffness_fits x) fits) f.2)) e

-- it is the one that the denial names, counted from 1
denied_by_axis :
    (card : Card) (levels storey : ℕ) (axes : List Axis) (d : AxesDenial) → GoodCard card → StoreyIsThere levels storey
    → CountFits axes → (o : Option ℕ)
    → position_from (λ (a : Axis). not (stiffness_fits a)) 0 axes ≡ o
    → out_of_range (option_map (λ (before : ℕ). before + 1) o) ≡ Some d → DeniedOnAxes card levels storey axes d
denied_by_axis card levels storey axes d good there count None found e = cc
denied_by_axis card levels storey axes d good there count (Some m) found e =
    let f = first_out 0 m axes found in
    let same : OutOfRange (m + 1) ≡ d = cc in
    let at : m ≡ f.0 = omega (arith, f.1) in
    let first = subst (FirstOut axes) (sym at) f.2 in
    let back : m ≡ (m + 1) - 1 = omega arith in
    let out = subst (λ (i : ℕ). ¬ FitsAt axes i) back first.out in
    let before = λ (j : ℕ) (from : 1 ≤ j) (under : j < m + 1). first.before (j - 1) (omega (arith, from, under)) in
    subst (DeniedOnAxes card levels storey axes) same (good, there, count, omega arith, omega (arith, first.there), out, before)

-- a table that takes no shear, of a storey that is there
table_denied :
    (card : Card) (levels storey : ℕ) (axes : List Axis) (d : AxesDenial) → GoodCard card → StoreyIsThere levels storey
    → table_denial axes ≡ Some d → DeniedOnAxes card levels storey axes d
table_denied card levels storey axes d good there e =
    cond_both (from_to 1 16 (length axes)) (out_of_range (first_outside axes)) (Some WrongCount)
    (λ (o : Option AxesDenial). o ≡ Some d → DeniedOnAxes card levels storey axes d)
    (λ few h. denied_by_axis card levels storey axes d good there (within 1 16 (length axes) few) _ refl h)
    (λ many h. let same : WrongCount ≡ d = cc in subst (DeniedOnAxes card levels storey axes) same (good, there, outside 1 16 (length axes) many)) e

-- a storey that is not there, or axes that take no shear
storey_denied :
    (card : Card) (levels storey : ℕ) (axes : List Axis) (d : AxesDenial) → GoodCard card → 1 ≤ levels
    → cond (from_to 1 levels storey) (table_denial axes) (Some (NoSuchStorey storey)) ≡ Some d → DeniedOnAxes card levels storey axes d
storey_denied card levels storey axes d good some e =
    cond_both (from_to 1 levels storey) (table_denial axes) (Some (NoSuchStorey storey))
    (λ (o : Option AxesDenial). o ≡ Some d → DeniedOnAxes card levels storey axes d)
    (λ there h. table_denied card levels storey axes d good (within 1 levels storey there) h)
    (λ gone h. let same : NoSuchStorey storey ≡ d = cc in subst (DeniedOnAxes card levels storey axes) same (some, good, refl, outside 1 levels storey gone)) e

-- where there are levels: the card, or one of these
card_denied :
    (card : Card) (levels storey : ℕ) (axes : List Axis) (d : AxesDenial) → 1 ≤ levels → (o : Option CardDenial) → CardSays card o
    → sheared_denial (by_card o) levels storey axes ≡ Some d → DeniedOnAxes card levels storey axes d
card_denied card levels storey axes d some None good e = storey_denied card levels storey axes d good some e
card_denied card levels storey axes d some (Some bad) says e =
    let same : NoShears (BadCard bad) ≡ d = cc in subst (DeniedOnAxes card levels storey axes) same (some, says)

-- whatever stands against an axes call, what its denial says is so
pub denied_on :
    (levels : ℕ) (card : Card) (storey : ℕ) (axes : List Axis) (d : AxesDenial) → axes_denial levels card storey axes ≡ Some d
    → DeniedOnAxes card levels storey axes d
denied_on levels card storey axes d e =
    cond_both (levels == 0) (Some NoLevels) (by_card (card_denial card))
    (λ (o : Option ShearDenial). sheared_denial o levels storey axes ≡ Some d → DeniedOnAxes card levels storey axes d)
    (λ none h. let same : NoShears NoLevels ≡ d = cc in subst (DeniedOnAxes card levels storey axes) same (eqb-true levels 0 none))
    (λ some h. card_denied card levels storey axes d (grind (arith, nat_tests, some)) (card_denial card) (card_says card) h) e
