-- What the levels weigh with the loads on them, where all of them are within their ranges.
use Rattle.std.proofs.Common.{◌≡◌, ℕ, zero, suc, ◌≤◌, true, List, [], ◌∷◌, ℤ, pos, negsuc, ◌+ℤ◌, Some, nat_le, option_map, sym, refl, ap, ◌∙◌, subst, arith}
use Rattle.std.proofs.lemmas.Bool.{and_parts, leb-true}
use Rattle.std.proofs.lemmas.Option.{same_Some}
use Rattle.records.specs.declared.level.Level.{Level}
use Rattle.records.specs.declared.line.Line.{Line}
use Rattle.records.specs.Ranges.{level_fits, weight_fits}
use Rattle.frames.specs.Levels.{Sound, all_fit, from_bottom, level_at}
use Rattle.frames.specs.Lists.{limits}
use Rattle.orders.specs.Loads.{loaded, natural, raised, standing}
use Rattle.runs.specs.Runs.{Weighed, Weighs}
use Rattle.orders.proofs.Raising.{raised_at, raised_length}

fits_over : (ls : List Level) (i : ℕ) (l : Level) → all_fit ls ≡ true → from_bottom ls i ≡ Some l → level_fits l ≡ true
fits_over [] i l fit e = cc
fits_over (x ∷ ls) zero l fit e =
    let same : x ≡ l = cc in
    subst (λ (y : Level). level_fits y ≡ true) same (and_parts (level_fits x) (all_fit ls) fit).0
fits_over (x ∷ ls) (suc i) l fit e = fits_over ls i l (and_parts (level_fits x) (all_fit ls) fit).1 e

-- each level of a sound list is within its ranges
level_fits_at : (ls : List Level) (k : ℕ) (l : Level) → Sound ls → level_at ls k ≡ Some l → level_fits l ≡ true
level_fits_at ls zero l sound e = cc
level_fits_at ls (suc i) l sound e = fits_over ls i l (limits ls sound).each e

-- a weight that is not 0 was not cut
not_cut : (z : ℤ) → 1 ≤ natural z → pos (natural z) ≡ z
not_cut (pos n) some = refl
not_cut (negsuc n) some = absurd (omega arith)

raised_some :
    (lines : List Line) (ls : List Level) (k : ℕ) (l : Level) → level_at ls k ≡ Some l
    → level_at (raised lines ls) k ≡ Some (loaded (standing k lines) l)
raised_some lines ls k l at = raised_at lines ls k ∙ ap (option_map (loaded (standing k lines))) at

-- a level that is within its ranges under its loads weighs what it does and they do together
weighs_with :
    (k : ℕ) (lines : List Line) (l : Level) → level_fits (loaded (standing k lines) l) ≡ true
    → Weighs k lines l (loaded (standing k lines) l)
weighs_with k lines l fits =
    let w = (loaded (standing k lines) l).weight in
    let p = and_parts (nat_le 1 w) (nat_le w 5000) (and_parts (weight_fits w) _ fits).0 in
    let least : 1 ≤ w = leb-true 1 w p.0 in
    record { weight = not_cut (pos l.weight +ℤ standing k lines) least; least = least; most = leb-true w 5000 p.1; else = refl }

-- where the levels with the loads on them are within their ranges, no load is lost on the way
pub weighed : (ls : List Level) (lines : List Line) → Sound (raised lines ls) → Weighed ls lines (raised lines ls)
weighed ls lines sound =
    record {
      count = raised_length lines ls;
      each = λ k l w at at_raised.
          let is = raised_some lines ls k l at in
          let same : loaded (standing k lines) l ≡ w = same_Some _ _ (sym is ∙ at_raised) in
          subst (Weighs k lines l) same (weighs_with k lines l (level_fits_at _ k _ sound is));
    }
