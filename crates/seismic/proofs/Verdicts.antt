-- The first verdict that fails, and the first limit that is broken.
use Rattle.std.proofs.Common.{◌≡◌, ℕ, zero, suc, ◌<◌, ◌≤◌, Bool, true, false, cond, List, [], ◌∷◌, slice_get, Some, None, Option, sym, refl, ap, subst, inl, inr, arith}
use Rattle.std.proofs.lemmas.Option.{cond_some}
use Rattle.frames.specs.Cases.{one_some, one_none}
use Rattle.seismic.specs.declared.verdict.Limit.{Limit}
use Rattle.seismic.specs.declared.verdict.Limit.TheVariants.{Drift, Eccentricity, SecondOrder, Gap}
use Rattle.seismic.specs.declared.verdict.Verdict.{Verdict}
use Rattle.seismic.specs.declared.verdict.Verdict.TheVariants.{Pass, Fail}
use Rattle.seismic.specs.Limits.{limit_number}
use Rattle.seismic.specs.Verdicts.{of_storey, first_failed}

-- where none fails, each passes
pub each_passes : (vs : List Verdict) (i : ℕ) (v : Verdict) → first_failed vs ≡ Pass → slice_get vs i ≡ Some v → v ≡ Pass
each_passes [] i v e at = cc
each_passes (Fail n limit ∷ vs) i v e at = cc
each_passes (Pass ∷ vs) zero v e at = cc
each_passes (Pass ∷ vs) (suc i) v e at = each_passes vs i v e at

-- each below this place passes
abbrev pub PassBelow : List Verdict → ℕ → Type 0
PassBelow vs i = (j : ℕ) (v : Verdict) → j < i → slice_get vs j ≡ Some v → v ≡ Pass

-- one fails, and those below it pass
pub record FailsAt (vs : List Verdict) (failed : Verdict) : Type 0 where
  pub place : ℕ
  pub at : slice_get vs place ≡ Some failed
  pub below : PassBelow vs place

more_below : (vs : List Verdict) (i : ℕ) → PassBelow vs i → PassBelow (Pass ∷ vs) (suc i)
more_below vs i below zero v less at = cc
more_below vs i below (suc j) v less at = below j v (omega arith) at

-- where one fails, the first that does
pub one_fails : (vs : List Verdict) (n : ℕ) (limit : Limit) → first_failed vs ≡ Fail n limit → FailsAt vs (Fail n limit)
one_fails [] n limit e = cc
one_fails (Fail m other ∷ vs) n limit e = record { place = 0; at = ap Some e; below = λ j v less at. absurd (omega arith) }
one_fails (Pass ∷ vs) n limit e =
    let f = one_fails vs n limit e in
    record { place = suc f.place; at = f.at; below = more_below vs f.place f.below }

-- a storey's verdict passes where it breaks nothing
pub nothing_broken : (n : ℕ) (o : Option Limit) → of_storey n o ≡ Pass → o ≡ None
nothing_broken n None e = refl
nothing_broken n (Some limit) e = cc

-- and one that fails tells its number and the first limit that it breaks
pub something_broken : (n m : ℕ) (o : Option Limit) (limit : Limit) → of_storey n o ≡ Fail m limit → (m ≡ n) × (o ≡ Some limit)
something_broken n m None limit e = cc
something_broken n m (Some other) limit e = let same : n ≡ m = cc in (sym same, cc)

-- the first limit, in their order, of which a test says that it is broken
module _ (broken : Limit → Bool) where
  abbrev first_of : Option Limit
  first_of =
      cond (broken Drift) (Some Drift)
      (cond (broken Eccentricity) (Some Eccentricity)
      (cond (broken SecondOrder) (Some SecondOrder)
      (cond (broken Gap) (Some Gap) None)))

  -- where there is no such limit, none is broken
  none_of : first_of ≡ None → (broken Drift ≡ false) × (broken Eccentricity ≡ false) × (broken SecondOrder ≡ false) × (broken Gap ≡ false)
  none_of e =
      let a = one_none (broken Drift) Drift _ e in
      let b = one_none (broken Eccentricity) Eccentricity _ a.1 in
      let c = one_none (broken SecondOrder) SecondOrder _ b.1 in
      (a.0, b.0, c.0, (one_none (broken Gap) Gap None c.1).0)

  pub none_broken : first_of ≡ None → (limit : Limit) → broken limit ≡ false
  none_broken e Drift = (none_of e).0
  none_broken e Eccentricity = (none_of e).1
  none_broken e SecondOrder = (none_of e).2
  none_broken e Gap = (none_of e).3

  -- no limit before the one with this number is broken
  abbrev pub NoneBefore : ℕ → Type 0
  NoneBefore n = (other : Limit) → limit_number other < n → broken other ≡ false

  none_before :
      (n : ℕ) → n ≤ 4 → (1 < n → broken Drift ≡ false) → (2 < n → broken Eccentricity ≡ false) → (3 < n → broken SecondOrder ≡ false)
      → NoneBefore n
  none_before n most a b c Drift less = a less
  none_before n most a b c Eccentricity less = b less
  none_before n most a b c SecondOrder less = c less
  none_before n most a b c Gap less = absurd (omega arith)

  abbrev IsFirst : Limit → Type 0
  IsFirst limit = (broken limit ≡ true) × NoneBefore (limit_number limit)

  -- where there is one, it is broken, and none before it is
  pub first_broken_is : (limit : Limit) → first_of ≡ Some limit → IsFirst limit
  first_broken_is limit e =
      elim (one_some (broken Drift) Drift limit _ e) [
        | inl (t, is) ↦
            let none = none_before 1 (omega arith) (λ h. absurd (omega arith)) (λ h. absurd (omega arith)) (λ h. absurd (omega arith)) in
            subst IsFirst is (t, none)
        | inr (a, e2) ↦ elim (one_some (broken Eccentricity) Eccentricity limit _ e2) [
          | inl (t, is) ↦ subst IsFirst is (t, none_before 2 (omega arith) (λ h. a) (λ h. absurd (omega arith)) (λ h. absurd (omega arith)))
          | inr (b, e3) ↦ elim (one_some (broken SecondOrder) SecondOrder limit _ e3) [
            | inl (t, is) ↦ subst IsFirst is (t, none_before 3 (omega arith) (λ h. a) (λ h. b) (λ h. absurd (omega arith)))
            | inr (c, e4) ↦
                let last = cond_some (broken Gap) Gap limit e4 in
                subst IsFirst last.1 (last.0, none_before 4 (omega arith) (λ h. a) (λ h. b) (λ h. c))
          ]
        ]
      ]
