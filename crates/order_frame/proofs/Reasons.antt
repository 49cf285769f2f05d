-- Each denial of a file's frame has its reason.
use Rattle.std.proofs.Common.{◌≡◌, ℕ, ◌+◌, ◌-◌, ◌*◌, ◌<◌, ◌≤◌, Bool, true, false, cond, not, ltb, leb, ◌⊎◌, List, [], ◌∷◌, ◌++◌, length, take, is_some, Some, None, Ok, Err, Option, Result, sym, refl, ap, ◌∙◌, subst, inl, inr, append_assoc, append-nil, arith, length-append}
use lib.Seq.{take-append_seam}
use Rattle.std.proofs.lemmas.Bool.{ltb-true, ltb-false, leb-true, leb-false}
use Rattle.records.specs.declared.kit_numbers.KitNumbers.{KitNumbers}
use Rattle.records.specs.declared.level.Level.{Level}
use Rattle.records.specs.Ranges.{level_fits}
use Rattle.frames.specs.declared.denial.FrameDenial.{FrameDenial}
use Rattle.frames.specs.declared.denial.FrameDenial.TheVariants.{TooManyLevels, OutOfRange, TooHigh, KitOutOfRange, KitTooHigh}
use Rattle.records.specs.declared.failure.Failure.{Failure}
use Rattle.records.specs.declared.failure.Failure.TheVariants.{Denied, NoMemory}
use Rattle.frames.specs.Kits.{kit_in_range, kit_denial, kit_list}
use Rattle.frames.specs.Levels.{Sound, level_at, level_height, height_of}
use Rattle.frames.specs.Steps.{step_denial}
use Rattle.frames.specs.Tables.{or_else, denial_from}
use Rattle.frames.specs.Cases.{one_some, two_some}
use Rattle.frames.specs.KitLists.{kit_sound, kit_length, ranged}
use Rattle.frames.specs.Lists.{limits, total_append}
use Rattle.frames.specs.Places.{at_high}
use Rattle.frames.proofs.Tables.{laid_sound}
use Rattle.frames.proofs.Toppings.{sound_more}
use Rattle.order_frame.specs.declared.frame.OrderFrame.{OrderFrame}
use Rattle.order_frame.specs.Frames.{frame_levels, first_added_denial, frame_denial}
use Rattle.order_frame.specs.OrderFrames.{Framed}
use Rattle.order_frame.specs.Reasons.{FrameBelow, KitTaken, room, Reached, Reason, Reasoned}

-- a level in the middle of a list
module _ (whole base : List Level) (l : Level) (rest : List Level) (is : whole ≡ base ++ l ∷ rest) where
  below_here : take (length base + 1 - 1) whole ≡ base
  below_here =
      ap (λ (n : ℕ). take n whole) (let e : length base + 1 - 1 ≡ length base = omega arith in e)
      ∙ ap (take (length base)) is
      ∙ take-append_seam base (l ∷ rest)

  level_here : level_at whole (length base + 1) ≡ Some l
  level_here =
      ap (λ (ls : List Level). level_at ls (length base + 1)) is
      ∙ at_high base (l ∷ rest) (length base + 1) (omega arith)
      ∙ ap (level_at (l ∷ rest)) (let e : length base + 1 - length base ≡ 1 = omega arith in e)

  after_here : whole ≡ (base ++ l ∷ []) ++ rest
  after_here = is ∙ sym (append_assoc base (l ∷ []) rest)

  height_here : level_height whole (length base + 1) ≡ height_of base + l.height.0
  height_here =
      let n : length base + 1 ≡ length (base ++ l ∷ []) = omega (arith, length-append base (l ∷ [])) in
      ap (λ (ls : List Level). height_of ls) (ap (λ (k : ℕ). take k whole) n ∙ ap (take (length (base ++ l ∷ []))) after_here ∙ take-append_seam (base ++ l ∷ []) rest)
      ∙ total_append (λ (x : Level). x.height.0) base (l ∷ [])
      ∙ (let e : height_of base + (l.height.0 + 0) ≡ height_of base + l.height.0 = omega arith in e)

-- the tests that a denial of one level more came through
pub added_some : (t u : Bool) (a b d : FrameDenial) (step later : Option FrameDenial) → or_else (cond t (Some a) (cond u (Some b) step)) later ≡ Some d → ((t ≡ true) × (a ≡ d)) ⊎ (((t ≡ false) × (u ≡ true) × (b ≡ d)) ⊎ ((t ≡ false) × (u ≡ false) × (or_else step later ≡ Some d)))
added_some true u a b d step later e = inl (refl, cc)
added_some false true a b d step later e = inr (inl (refl, refl, cc))
added_some false false a b d step later e = inr (inr (refl, refl, e))

added_none : (t u : Bool) (a b : FrameDenial) (step later : Option FrameDenial) → or_else (cond t (Some a) (cond u (Some b) step)) later ≡ None → (t ≡ false) × (u ≡ false) × (step ≡ None) × (later ≡ None)
added_none true u a b step later e = cc
added_none false true a b step later e = cc
added_none false false a b None later e = (refl, refl, refl, e)
added_none false false a b (Some d) later e = cc

passed : (t u : Bool) (a b : FrameDenial) → t ≡ true → u ≡ false → cond (not t) (Some a) (cond u (Some b) None) ≡ None
passed true false a b h k = refl
passed true true a b h k = let z : true ≡ false = k in let y : ◌≡◌ {A = ℕ} 0 1 = cc in absurd (omega arith)
passed false u a b h k = let y : ◌≡◌ {A = ℕ} 0 1 = cc in absurd (omega arith)

-- storeys added onto a kit, from below
added : (n : KitNumbers) (levels base rest : List Level) (s : ℕ) (d : FrameDenial) → KitTaken (Some n) → frame_levels (Some n) levels ≡ base ++ rest → Sound base → length base ≡ n.levels + s → s ≤ 8 → first_added_denial base s rest ≡ Some d → Reason (Some n) levels d
added n levels base [] s d taken is sound count own e = cc
added n levels base (l ∷ rest) s d taken is sound count own e =
    let whole = frame_levels (Some n) levels in
    let k = length base + 1 in
    let below : FrameBelow whole k = subst Sound (sym (below_here whole base l rest is)) sound in
    let here = level_here whole base l rest is in
    let within : k ≤ length whole = omega (arith, ap length is, length-append base (l ∷ rest)) in
    let few = (limits base sound).few in
    elim (added_some (leb 24 (length base)) (leb 8 s) (TooManyLevels k) (TooManyLevels k) d (step_denial (length base) (height_of base) l) _ e) [
      | inl (t, same) ↦ subst (Reason (Some n) levels) same (taken, (omega (arith, few, count, own, leb-true _ _ t), within, below))
      | inr (inl (t, u, same)) ↦ subst (Reason (Some n) levels) same (taken, (omega (arith, count, own, leb-false _ _ t, leb-true _ _ u), within, below))
      | inr (inr (t, u, more)) ↦
          let has : k ≤ room (Some n) = omega (arith, count, leb-false _ _ t, leb-false _ _ u) in
          let reached : Reached (Some n) levels k = (taken, has, below) in
          elim (two_some (level_fits l) (ltb 500 (height_of base + l.height.0)) (OutOfRange k) (TooHigh k) d _ more) [
            | inl (f, same) ↦ subst (Reason (Some n) levels) same (reached, (l, here, f))
            | inr (inl (f, h, same)) ↦ subst (Reason (Some n) levels) same (reached, (l, here, f), omega (arith, ltb-true _ _ h, height_here whole base l rest is))
            | inr (inr (f, h, later)) ↦
                added n levels (base ++ l ∷ []) rest (s + 1) d taken (after_here whole base l rest is)
                (sound_more base l sound (leb-false _ _ t) (passed _ _ _ _ f h))
                (omega (arith, length-append base (l ∷ []))) (omega (arith, leb-false _ _ u)) later
          ]
    ]

all_added : (base rest : List Level) (s : ℕ) → Sound base → first_added_denial base s rest ≡ None → Sound (base ++ rest)
all_added base [] s sound e = subst Sound (sym (append-nil base)) sound
all_added base (l ∷ rest) s sound e =
    let p = added_none (leb 24 (length base)) (leb 8 s) _ _ (step_denial (length base) (height_of base) l) _ e in
    subst Sound (append_assoc base (l ∷ []) rest)
    (all_added (base ++ l ∷ []) rest (s + 1) (sound_more base l sound (leb-false _ _ p.0) p.2) p.3)

-- a table, scanned from below
scanned : (levels base rest : List Level) (d : FrameDenial) → levels ≡ base ++ rest → Sound base → length levels ≤ 24 → denial_from (length base) (height_of base) rest ≡ Some d → Reason None levels d
scanned levels base [] d is sound few e = cc
scanned levels base (l ∷ rest) d is sound few e =
    let k = length base + 1 in
    let below : FrameBelow levels k = subst Sound (sym (below_here levels base l rest is)) sound in
    let here = level_here levels base l rest is in
    let reached : Reached None levels k = (tt, few, below) in
    let fits : length base < 24 = omega (arith, ap length is, length-append base (l ∷ rest)) in
    elim (two_some (level_fits l) (ltb 500 (height_of base + l.height.0)) (OutOfRange k) (TooHigh k) d _ e) [
      | inl (f, same) ↦ subst (Reason None levels) same (reached, (l, here, f))
      | inr (inl (f, h, same)) ↦ subst (Reason None levels) same (reached, (l, here, f), omega (arith, ltb-true _ _ h, height_here levels base l rest is))
      | inr (inr (f, h, later)) ↦
          scanned levels (base ++ l ∷ []) rest d (after_here levels base l rest is)
          (sound_more base l sound fits (passed _ _ _ _ f h)) few
          (ap (λ (x : ℕ). denial_from x (height_of (base ++ l ∷ [])) rest) (let c : length (base ++ l ∷ []) ≡ k = omega (arith, length-append base (l ∷ [])) in c)
          ∙ ap (λ (x : ℕ). denial_from k x rest) (let c : height_of (base ++ l ∷ []) ≡ height_of base + l.height.0 = omega (arith, total_append (λ (x : Level). x.height.0) base (l ∷ [])) in c)
          ∙ later)
    ]

kit_good : (n : KitNumbers) → kit_denial n ≡ None → is_some (kit_denial n) ≡ false
kit_good n e = ap is_some e

pub good_sound : (kit : Option KitNumbers) (levels : List Level) → frame_denial kit levels ≡ None → Sound (frame_levels kit levels)
good_sound None levels e = laid_sound levels e
good_sound (Some n) levels e =
    let p = both_none (kit_denial n) _ e in
    all_added (kit_list n) levels 0 (kit_sound n (kit_good n p.0)) p.1
  where
    both_none : (o later : Option FrameDenial) → or_else o later ≡ None → (o ≡ None) × (later ≡ None)
    both_none None later h = (refl, h)
    both_none (Some d) later h = cc

pub denied_reason : (kit : Option KitNumbers) (levels : List Level) (d : FrameDenial) → frame_denial kit levels ≡ Some d → Reason kit levels d
denied_reason None levels d e =
    elim (one_some (ltb 24 (length levels)) (TooManyLevels 25) d _ e) [
      | inl (t, same) ↦ subst (Reason None levels) same (tt, (refl, ltb-true _ _ t))
      | inr (t, more) ↦ scanned levels [] levels d refl refl (ltb-false _ _ t) more
    ]
denied_reason (Some n) levels d e =
    elim (two_some (kit_in_range n) (ltb 500 (n.levels * n.height.0)) KitOutOfRange KitTooHigh d _ e) [
      | inl (f, same) ↦ subst (Reason (Some n) levels) same (n, refl, f)
      | inr (inl (f, h, same)) ↦ subst (Reason (Some n) levels) same (n, refl, f, ltb-true _ _ h)
      | inr (inr (f, h, more)) ↦
          added n levels (kit_list n) levels 0 d (f, ltb-false _ _ h) refl (kit_sound n (kit_good n (passed _ _ _ _ f h)))
          (kit_length n (ranged n f).some ∙ (let z : n.levels ≡ n.levels + 0 = omega arith in z)) (omega arith) more
    ]

pub reasoned : (kit : Option KitNumbers) (levels : List Level) (r : Result OrderFrame (Failure FrameDenial)) → Framed kit levels r → Reasoned kit levels r
reasoned kit levels (Ok f) h = good_sound kit levels h.0
reasoned kit levels (Err (Denied d)) h = denied_reason kit levels d h
reasoned kit levels (Err NoMemory) h = good_sound kit levels h.0
