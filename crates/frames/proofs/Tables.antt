-- When each denial of a table comes, from the scan.
use Rattle.std.proofs.Common.{◌≡◌, ℕ, zero, suc, ◌+◌, ◌≤◌, true, ltb, List, [], ◌∷◌, length, drop, Some, None, sym, refl, ap, ◌∙◌, subst, inl, inr, arith}
use Rattle.std.proofs.lemmas.Bool.{ltb-true, ltb-false, and_from, cases_lt}
use Rattle.records.specs.declared.level.Level.{Level}
use Rattle.records.specs.Ranges.{level_fits}
use Rattle.frames.specs.declared.denial.FrameDenial.{FrameDenial}
use Rattle.frames.specs.declared.denial.FrameDenial.TheVariants.{TooManyLevels, OutOfRange, TooHigh}
use Rattle.frames.specs.Levels.{Sound, all_fit, from_bottom, level_at, level_height, height_of}
use Rattle.frames.specs.Tables.{denial_from, lay_denial, IsInRange, GoodBelow, DeniedWhen}
use Rattle.frames.specs.Cases.{one_some, one_none, two_some, two_none}
use Rattle.frames.specs.Lists.{total_step, sound_from}

-- the level over k others, and what is left over it
next : (ls : List Level) (k : ℕ) (l : Level) (rest : List Level) → drop k ls ≡ l ∷ rest → (from_bottom ls k ≡ Some l) × (drop (suc k) ls ≡ rest)
next [] zero l rest e = cc
next [] (suc k) l rest e = cc
next (x ∷ xs) zero l rest e = let a : x ≡ l = cc in let b : xs ≡ rest = cc in (ap Some a, b)
next (x ∷ xs) (suc k) l rest e = next xs k l rest e

-- a table of at most 24 levels, with k good ones below what is left
module _ (table : List Level) (few : length table ≤ 24) where
  good_more : (k : ℕ) → GoodBelow table (k + 1) → IsInRange table (k + 1) → level_height table (k + 1) ≤ 500 → GoodBelow table (k + 1 + 1)
  good_more k good here low j p q =
      elim (cases_lt j (k + 1)) [
        | inl lt ↦ good j p lt
        | inr ge ↦ let e : k + 1 ≡ j = omega arith in subst (λ (n : ℕ). IsInRange table n × (level_height table n ≤ 500)) e (here, low)
      ]

  met : (rest : List Level) (k h : ℕ) (d : FrameDenial) → drop k table ≡ rest → level_height table k ≡ h → GoodBelow table (k + 1) → denial_from k h rest ≡ Some d → DeniedWhen table d
  met [] k h d left height good e = cc
  met (l ∷ rest) k h d left height good e =
      let s : suc k ≡ k + 1 = omega arith in
      let n = next table k l rest left in
      let here : level_at table (k + 1) ≡ Some l = subst (λ (x : ℕ). level_at table x ≡ Some l) s n.0 in
      let step : level_height table (suc k) ≡ level_height table k + l.height.0 = total_step (λ (x : Level). x.height.0) table k l n.0 in
      let high : level_height table (k + 1) ≡ h + l.height.0 = sym (ap (level_height table) s) ∙ step ∙ ap (λ (x : ℕ). x + l.height.0) height in
      elim (two_some (level_fits l) (ltb 500 (h + l.height.0)) (OutOfRange (k + 1)) (TooHigh (k + 1)) d _ e) [
        | inl (f, is) ↦ subst (DeniedWhen table) is (few, good, (l, here, f))
        | inr (inl (f, t, is)) ↦ subst (DeniedWhen table) is (few, good, (l, here, f), omega (arith, ltb-true _ _ t))
        | inr (inr (f, t, more)) ↦ met rest (k + 1) (h + l.height.0) d (subst (λ (x : ℕ). drop x table ≡ rest) s n.1) high (good_more k good (l, here, f) (omega (arith, ltb-false _ _ t))) more
      ]

passed : (k h : ℕ) (ls : List Level) → h ≤ 500 → denial_from k h ls ≡ None → (all_fit ls ≡ true) × (h + height_of ls ≤ 500)
passed k h [] low e = (refl, omega arith)
passed k h (l ∷ ls) low e =
    let p = two_none (level_fits l) (ltb 500 (h + l.height.0)) (OutOfRange (k + 1)) (TooHigh (k + 1)) (denial_from (k + 1) (h + l.height.0) ls) e in
    let n = passed (k + 1) (h + l.height.0) ls (ltb-false _ _ p.1) p.2 in
    (and_from (level_fits l) _ p.0 n.0, omega (arith, n.1))

pub laid_sound : (table : List Level) → lay_denial table ≡ None → Sound table
laid_sound table e =
    let p = one_none (ltb 24 (length table)) (TooManyLevels 25) _ e in
    let n = passed 0 0 table (omega arith) p.1 in
    sound_from table (ltb-false _ _ p.0) (omega (arith, n.1)) n.0

none_below : (table : List Level) → GoodBelow table (0 + 1)
none_below table j p q = absurd (omega arith)

pub denied_when : (table : List Level) (d : FrameDenial) → lay_denial table ≡ Some d → DeniedWhen table d
denied_when table d e =
    elim (one_some (ltb 24 (length table)) (TooManyLevels 25) d _ e) [
      | inl (t, is) ↦ subst (DeniedWhen table) is (refl, ltb-true _ _ t)
      | inr (t, more) ↦ met table (ltb-false _ _ t) table 0 0 d refl refl (none_below table) more
    ]
