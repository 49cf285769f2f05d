-- What one storey more tells, within the limit and beyond it.
use Rattle.std.proofs.Common.{◌≡◌, ℕ, ◌+◌, ◌<◌, ◌≤◌, Bool, true, false, cond, leb, Some, None, refl, ap, arith}
use Rattle.std.proofs.lemmas.Bool.{cond-true, le-leb, leb-true, leb-false}
use Rattle.records.specs.declared.height.LevelHeight.{LevelHeight}
use Rattle.records.specs.declared.height.StoreyHeight.{StoreyHeight}
use Rattle.records.specs.Heights.{raised}
use Rattle.frames.specs.Cases.{one_none}

pub raised_within : (h : LevelHeight) (s : StoreyHeight) → h.0 + s.0 ≤ 500 → raised h s ≡ Some (record { 0 = h.0 + s.0 })
raised_within h s low = cond-true (leb (h.0 + s.0) 500) _ None (le-leb _ _ low)

-- by cases on the test itself
some_when : {X : Type 0} (b : Bool) (x y : X) → cond b (Some x) None ≡ Some y → (b ≡ true) × (y ≡ x)
some_when true x y e = (refl, cc)
some_when false x y e = let z : ◌≡◌ {A = ℕ} 0 1 = cc in absurd (omega arith)

pub raised_some : (h : LevelHeight) (s : StoreyHeight) (t : LevelHeight) → raised h s ≡ Some t → (h.0 + s.0 ≤ 500) × (t.0 ≡ h.0 + s.0)
raised_some h s t e =
    let p = some_when (leb (h.0 + s.0) 500) (record { 0 = h.0 + s.0 }) t e in
    (leb-true _ _ p.0, ap (λ (x : LevelHeight). x.0) p.1)

pub raised_none : (h : LevelHeight) (s : StoreyHeight) → raised h s ≡ None → 500 < h.0 + s.0
raised_none h s e = leb-false _ _ (one_none (leb (h.0 + s.0) 500) (record { 0 = h.0 + s.0 }) None e).0

pub same_height : (h t : LevelHeight) → h.0 ≡ t.0 → h ≡ t
same_height h t e = ap (λ (n : ℕ). record { 0 = n }) e
