-- What an answer tells of the tests that it came from, by cases on the tests themselves: they may be long.
use Rattle.std.specs.Prelude.{◌≡◌, ℕ, Bool, true, false, cond, not, ◌⊎◌, is_some, Some, None, Option, refl}
use Rattle.std.proofs.Common.{inl, inr, arith}
use Rattle.frames.specs.declared.denial.FrameDenial.{FrameDenial}
use Rattle.frames.specs.Tables.{or_else}

-- one test, that answers
pub one_some : {X : Type 0} (t : Bool) (a d : X) (later : Option X) → cond t (Some a) later ≡ Some d → ((t ≡ true) × (a ≡ d)) ⊎ ((t ≡ false) × (later ≡ Some d))
one_some true a d later e = inl (refl, cc)
one_some false a d later e = inr (refl, e)

pub one_none : {X : Type 0} (t : Bool) (a : X) (later : Option X) → cond t (Some a) later ≡ None → (t ≡ false) × (later ≡ None)
one_none true a later e = let z : ◌≡◌ {A = ℕ} 0 1 = cc in absurd (omega arith)
one_none false a later e = (refl, e)

-- two tests in turn, where the first must hold and the second must not
module _ (t u : Bool) (a b : FrameDenial) where
  abbrev pub two : Option FrameDenial
  two = cond (not t) (Some a) (cond u (Some b) None)

pub two_some : (t u : Bool) (a b d : FrameDenial) (later : Option FrameDenial) → or_else (two t u a b) later ≡ Some d → ((t ≡ false) × (a ≡ d)) ⊎ (((t ≡ true) × (u ≡ true) × (b ≡ d)) ⊎ ((t ≡ true) × (u ≡ false) × (later ≡ Some d)))
two_some false u a b d later e = inl (refl, cc)
two_some true true a b d later e = inr (inl (refl, refl, cc))
two_some true false a b d later e = inr (inr (refl, refl, e))

pub two_none : (t u : Bool) (a b : FrameDenial) (later : Option FrameDenial) → or_else (two t u a b) later ≡ None → (t ≡ true) × (u ≡ false) × (later ≡ None)
two_none false u a b later e = let z : ◌≡◌ {A = ℕ} 0 1 = cc in absurd (omega arith)
two_none true true a b later e = let z : ◌≡◌ {A = ℕ} 0 1 = cc in absurd (omega arith)
two_none true false a b later e = (refl, refl, e)

pub two_passed : (t u : Bool) (a b : FrameDenial) → is_some (two t u a b) ≡ false → (t ≡ true) × (u ≡ false)
two_passed false u a b e = let z : ◌≡◌ {A = ℕ} 0 1 = cc in absurd (omega arith)
two_passed true true a b e = let z : ◌≡◌ {A = ℕ} 0 1 = cc in absurd (omega arith)
two_passed true false a b e = (refl, refl)
