-- One number of the levels, summed from the lowest up.
use Rattle.std.proofs.Common.{◌≡◌, ℕ, ◌+◌, ◌≤◌, List, length, take, Some, sym, refl, ap, ◌∙◌, subst, arith, take_all}
use Rattle.std.specs.Option.{IsSome}
use Rattle.records.specs.declared.level.Level.{Level}
use Rattle.frames.specs.Levels.{level_at, total}
use Rattle.frames.specs.Lists.{total_more, total_within}
use Rattle.frames.specs.Places.{at_inside}

-- the sum is that of the levels below level k
pub record Passed (m : Level → ℕ) (ls : List Level) (k sum : ℕ) : Type 0 where
  pub below : ℕ
  pub is : k ≡ below + 1
  pub summed : sum ≡ total m (take below ls)

module _ (m : Level → ℕ) (ls : List Level) (k sum : ℕ) (l : Level) (p : Passed m ls k sum) (at : level_at ls k ≡ Some l) where
  at_next : level_at ls (p.below + 1) ≡ Some l
  at_next = ap (level_at ls) (let e : p.below + 1 ≡ k = omega (arith, p.is) in e) ∙ at

  pub pass : Passed m ls (k + 1) (sum + m l)
  pass = record {
    below = p.below + 1;
    is = omega (arith, p.is);
    summed = omega (arith, p.summed, total_more m ls p.below l at_next);
  }

  pub pass_within : sum + m l ≤ total m ls
  pass_within = omega (arith, p.summed, total_within m ls p.below l at_next)

  -- level k is the last
  pub pass_last : length ls ≤ k → sum + m l ≡ total m ls
  pass_last last =
      let all : length ls ≤ p.below + 1 = omega (arith, p.is, last) in
      (let e : sum + m l ≡ total m (take (p.below + 1) ls) = omega (arith, p.summed, total_more m ls p.below l at_next) in e)
      ∙ ap (total m) (take_all (p.below + 1) ls all)

-- there is a level k as long as one is left
pub there : (m : Level → ℕ) (ls : List Level) (k sum : ℕ) → Passed m ls k sum → k ≤ length ls → IsSome (level_at ls k)
there m ls k sum p within =
    let blank : Level = record { weight = 0; height = record { 0 = 0 }; stiffness = 0; mass_centre = 0; torsion_centre = 0; width = 0 } in
    subst IsSome (sym (at_inside ls k blank (omega (arith, p.is)) within)) refl
