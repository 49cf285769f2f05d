-- What loads make of a list of levels.
use Rattle.std.proofs.Common.{◌≡◌, ℕ, zero, suc, ◌+◌, true, List, [], ◌∷◌, ◌++◌, length, fold, ℤ, pos, ◌+ℤ◌, ◌==◌, Some, option_map, refl, sym, ap, ap₂, add-zero, zero-add, ◌∙◌, subst, arith}
use lib.IntN.{+ℤ_idr}
use Rattle.std.proofs.lemmas.Bool.{and_parts, and_from, cond_both, eqb-true}
use Rattle.records.specs.declared.level.Level.{Level}
use Rattle.records.specs.declared.line.Line.{Line}
use Rattle.records.specs.Ranges.{level_fits, weight_fits}
use Rattle.frames.specs.Levels.{Sound, all_fit, from_bottom, height_of, level_at}
use Rattle.frames.specs.Lists.{limits, sound_from}
use Rattle.orders.specs.Calls.{bears}
use Rattle.orders.specs.Loads.{load_on, loaded, raised, raised_over, standing}

length_over : (k : ℕ) (lines : List Line) (ls : List Level) → length (raised_over k lines ls) ≡ length ls
length_over k lines [] = refl
length_over k lines (l ∷ ls) = ap suc (length_over (k + 1) lines ls)

pub raised_length : (lines : List Line) (ls : List Level) → length (raised lines ls) ≡ length ls
raised_length lines ls = length_over 0 lines ls

height_over : (k : ℕ) (lines : List Line) (ls : List Level) → height_of (raised_over k lines ls) ≡ height_of ls
height_over k lines [] = refl
height_over k lines (l ∷ ls) = omega (arith, height_over (k + 1) lines ls)

at_over : (k : ℕ) (lines : List Line) (ls : List Level) (i : ℕ) → from_bottom (raised_over k lines ls) i ≡ option_map (loaded (standing (k + suc i) lines)) (from_bottom ls i)
at_over k lines [] i = refl
at_over k lines (l ∷ ls) zero = refl
at_over k lines (l ∷ ls) (suc i) =
    at_over (k + 1) lines ls i
    ∙ ap (λ (j : ℕ). option_map (loaded (standing j lines)) (from_bottom ls i)) (omega arith)

-- level k is that of the frame, with the loads that stand on it
pub raised_at : (lines : List Line) (ls : List Level) (k : ℕ) → level_at (raised lines ls) k ≡ option_map (loaded (standing k lines)) (level_at ls k)
raised_at lines ls zero = refl
raised_at lines ls (suc i) = at_over 0 lines ls i ∙ ap (λ (j : ℕ). option_map (loaded (standing j lines)) (from_bottom ls i)) (omega arith)

-- nothing stands on a level without lines
none_over : (k : ℕ) (ls : List Level) → raised_over k [] ls ≡ ls
none_over k [] = refl
none_over k (l ∷ ls) = ap₂ (λ (w : ℕ) (xs : List Level). record l { weight = w } ∷ xs) (add-zero l.weight) (none_over (k + 1) ls)

pub raised_by_none : (ls : List Level) → raised [] ls ≡ ls
raised_by_none ls = none_over 0 ls

-- one line more adds what it puts on the level
pub standing_more : (k : ℕ) (lines : List Line) (x : Line) → standing k (lines ++ x ∷ []) ≡ standing k lines +ℤ load_on k x
standing_more k lines x = fold_more (pos 0) lines
  where
    fold_more : (z : ℤ) (ys : List Line) → fold (λ (sum : ℤ) (y : Line). sum +ℤ load_on k y) z (ys ++ x ∷ []) ≡ fold (λ (sum : ℤ) (y : Line). sum +ℤ load_on k y) z ys +ℤ load_on k x
    fold_more z [] = refl
    fold_more z (y ∷ ys) = fold_more (z +ℤ load_on k y) ys

-- a level with one line more: that line is on another level, or this one bears its load
level_more :
    (k : ℕ) (lines : List Line) (x : Line) (l : Level)
    → level_fits (loaded (standing k lines) l) ≡ true
    → (x.level ≡ k → bears l (standing x.level lines +ℤ x.load) ≡ true)
    → level_fits (loaded (standing k (lines ++ x ∷ [])) l) ≡ true
level_more k lines x l fit bearing =
    let others = (and_parts (weight_fits (loaded (standing k lines) l).weight) _ fit).1 in
    subst (λ (z : ℤ). level_fits (loaded z l) ≡ true) (sym (standing_more k lines x))
    (cond_both (x.level == k) x.load (pos 0) (λ (z : ℤ). level_fits (loaded (standing k lines +ℤ z) l) ≡ true)
    (λ t. and_from (weight_fits (loaded (standing k lines +ℤ x.load) l).weight) _ (let e = eqb-true x.level k t in subst (λ (j : ℕ). bears l (standing j lines +ℤ x.load) ≡ true) e (bearing e)) others)
    (λ f. subst (λ (z : ℤ). level_fits (loaded z l) ≡ true) (sym (+ℤ_idr (standing k lines))) fit))

-- the levels over k others: those that fit with the lines fit with one line more, where its level bears the load
fit_more :
    (k : ℕ) (lines : List Line) (x : Line) (ls : List Level)
    → all_fit (raised_over k lines ls) ≡ true
    → ((i : ℕ) (l : Level) → from_bottom ls i ≡ Some l → x.level ≡ k + suc i → bears l (standing x.level lines +ℤ x.load) ≡ true)
    → all_fit (raised_over k (lines ++ x ∷ []) ls) ≡ true
fit_more k lines x [] fit bearing = refl
fit_more k lines x (l ∷ ls) fit bearing =
    let p = and_parts (level_fits (loaded (standing (k + 1) lines) l)) _ fit in
    and_from (level_fits (loaded (standing (k + 1) (lines ++ x ∷ [])) l)) _
    (level_more (k + 1) lines x l p.0 (λ e. bearing 0 l refl (omega (arith, e))))
    (fit_more (k + 1) lines x ls p.1 (λ i m e q. bearing (suc i) m e (omega (arith, q))))

-- a sound list that is raised by one line more stays sound, where the level of that line bears its load
pub sound_more :
    (lines : List Line) (x : Line) (ls : List Level)
    → Sound (raised lines ls)
    → ((l : Level) → level_at ls x.level ≡ Some l → bears l (standing x.level lines +ℤ x.load) ≡ true)
    → Sound (raised (lines ++ x ∷ []) ls)
sound_more lines x ls sound bearing =
    let m = limits (raised lines ls) sound in
    let more = lines ++ x ∷ [] in
    sound_from (raised more ls)
    (omega (arith, m.few, raised_length lines ls, raised_length more ls))
    (omega (arith, m.low, height_over 0 lines ls, height_over 0 more ls))
    (fit_more 0 lines x ls m.each (λ i l e q. bearing l (ap (level_at ls) (q ∙ zero-add (suc i)) ∙ e)))
