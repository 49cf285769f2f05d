-- A reason holds of no denial but the one that is told.
use Rattle.std.proofs.Common.{◌≡◌, ℕ, zero, suc, ◌+◌, ◌-◌, ◌*◌, ◌<◌, ◌≤◌, true, false, not, ltb, leb, List, [], ◌∷◌, ◌++◌, length, take, get_or, is_some, Some, None, Ok, Err, Option, Result, sym, refl, ap, ◌∙◌, subst, inl, inr, arith, length-append}
use Rattle.std.proofs.Math.Seq.{take-append-add}
use Rattle.std.proofs.lemmas.List.{take-append-le}
use Rattle.std.proofs.lemmas.Bool.{and_parts, cond-true, cond-false, lt-ltb, le-ltb, le-leb, lt-leb, not_from_true, not_from_false, cases_lt}
use Rattle.records.specs.declared.kit_numbers.KitNumbers.{KitNumbers}
use Rattle.records.specs.declared.level.Level.{Level}
use Rattle.records.specs.Kits.{roof}
use Rattle.records.specs.Ranges.{level_fits}
use Rattle.frames.specs.declared.denial.FrameDenial.{FrameDenial}
use Rattle.frames.specs.declared.denial.FrameDenial.TheVariants.{TooManyLevels, OutOfRange, TooHigh, KitOutOfRange, KitTooHigh}
use Rattle.records.specs.declared.failure.Failure.{Failure}
use Rattle.records.specs.declared.failure.Failure.TheVariants.{Denied, NoMemory}
use Rattle.frames.specs.Additions.{add_denial}
use Rattle.frames.specs.Kits.{kit_in_range, kit_list}
use Rattle.frames.specs.KitLists.{kit_sound, kit_length, ranged, no_denial}
use Rattle.frames.specs.Levels.{Sound, all_fit, from_bottom, level_at, level_height, height_of}
use Rattle.frames.specs.Lists.{Limits, limits, total_append, total_more, total_take}
use Rattle.frames.specs.Places.{at_low, at_high, at_inside}
use Rattle.frames.specs.Steps.{step_denial}
use Rattle.frames.specs.Tables.{or_else, denial_from}
use Rattle.frames.proofs.Toppings.{fit_over, no_step_denial}
use Rattle.order_frame.specs.declared.frame.OrderFrame.{OrderFrame}
use Rattle.order_frame.specs.Frames.{kit_levels, frame_levels, first_added_denial, frame_denial}
use Rattle.order_frame.specs.OrderFrames.{Framed}
use Rattle.order_frame.specs.Reasons.{FrameBelow, KitTaken, Reached, Reason, ReasonTold}

-- each level of a list that fits does so
fits_over : (ls : List Level) (i : ℕ) (l : Level) → all_fit ls ≡ true → from_bottom ls i ≡ Some l → level_fits l ≡ true
fits_over [] i l fit e = cc
fits_over (x ∷ ls) zero l fit e =
    let same : x ≡ l = cc in subst (λ (y : Level). level_fits y ≡ true) same (and_parts (level_fits x) (all_fit ls) fit).0
fits_over (x ∷ ls) (suc i) l fit e = fits_over ls i l (and_parts (level_fits x) (all_fit ls) fit).1 e

-- so does the level with a given number
pub fits_at : (ls : List Level) (k : ℕ) (l : Level) → all_fit ls ≡ true → level_at ls k ≡ Some l → level_fits l ≡ true
fits_at ls zero l fit e = cc
fits_at ls (suc i) l fit e = fits_over ls i l fit e

-- where there is room for it, a storey is judged as a level is
roomy :
    (n own h : ℕ) (l : Level) (o : Option FrameDenial) → n < 24 → own < 8 → step_denial n h l ≡ o → add_denial n own h l ≡ o
roomy n own h l o few storeys e =
    cond-false (leb 24 n) _ _ (lt-leb _ _ few) ∙ cond-false (leb 8 own) _ _ (lt-leb _ _ storeys) ∙ e

-- a table's levels in range and low enough are passed, up to one that is denied
scan_told :
    (rest : List Level) (k h i n m : ℕ) (l : Level) (d : FrameDenial) → all_fit (take i rest) ≡ true → m ≤ 500
    → from_bottom rest i ≡ Some l → n ≡ k + i → m ≡ h + height_of (take i rest) → step_denial n m l ≡ Some d
    → denial_from k h rest ≡ Some d
scan_told [] k h i n m l d fit low at count high e = cc
scan_told (x ∷ xs) k h zero n m l d fit low at count high e =
    let same : x ≡ l = cc in
    let k_is : k ≡ n = omega (arith, count) in
    let h_is : h ≡ m = omega (arith, high) in
    rw (same, k_is, h_is) (ap (λ (o : Option FrameDenial). or_else o (denial_from (n + 1) (m + l.height.0) xs)) e)
scan_told (x ∷ xs) k h (suc i) n m l d fit low at count high e =
    let p = and_parts (level_fits x) (all_fit (take i xs)) fit in
    let passed = no_step_denial k h x p.0 (omega (arith, low, high)) in
    ap (λ (o : Option FrameDenial). or_else o (denial_from (k + 1) (h + x.height.0) xs)) passed
    ∙ scan_told xs (k + 1) (h + x.height.0) i n m l d p.1 low at (omega (arith, count)) (omega (arith, high)) e

-- so are the storeys on a kit, while there is room for them
add_told :
    (base rest : List Level) (s i n m own : ℕ) (l : Level) (d : FrameDenial) → all_fit (take i rest) ≡ true → m ≤ 500
    → n ≤ 24 → own ≤ 8 → from_bottom rest i ≡ Some l → n ≡ length base + i → own ≡ s + i
    → m ≡ height_of base + height_of (take i rest) → add_denial n own m l ≡ Some d → first_added_denial base s rest ≡ Some d
add_told base [] s i n m own l d fit low few storeys at count more high e = cc
add_told base (x ∷ xs) s zero n m own l d fit low few storeys at count more high e =
    let same : x ≡ l = cc in
    let base_is : length base ≡ n = omega (arith, count) in
    let s_is : s ≡ own = omega (arith, more) in
    let height_is : height_of base ≡ m = omega (arith, high) in
    let here : add_denial (length base) s (height_of base) x ≡ Some d = rw (base_is, s_is, height_is, same) e in
    ap (λ (o : Option FrameDenial). or_else o (first_added_denial (base ++ x ∷ []) (s + 1) xs)) here
add_told base (x ∷ xs) s (suc i) n m own l d fit low few storeys at count more high e =
    let p = and_parts (level_fits x) (all_fit (take i xs)) fit in
    let step = no_step_denial (length base) (height_of base) x p.0 (omega (arith, low, high)) in
    let passed = roomy (length base) s (height_of base) x None (omega (arith, few, count)) (omega (arith, storeys, more)) step in
    ap (λ (o : Option FrameDenial). or_else o (first_added_denial (base ++ x ∷ []) (s + 1) xs)) passed
    ∙ add_told (base ++ x ∷ []) xs (s + 1) i n m own l d p.1 low few storeys at
    (omega (arith, count, length-append base (x ∷ []))) (omega (arith, more))
    (omega (arith, high, total_append (λ (y : Level). y.height.0) base (x ∷ []))) e

-- a level out of range is denied for that
out_of_range :
    (n m k : ℕ) (l : Level) → k ≡ n + 1 → level_fits l ≡ false → step_denial n m l ≡ Some (OutOfRange k)
out_of_range n m k l is unfit =
    cond-true (not (level_fits l)) _ _ (not_from_false _ unfit) ∙ ap (λ (x : ℕ). Some (OutOfRange x)) (sym is)

-- a level in range and too high is denied for that
too_high :
    (n m k : ℕ) (l : Level) → k ≡ n + 1 → level_fits l ≡ true → 500 < m + l.height.0
    → step_denial n m l ≡ Some (TooHigh k)
too_high n m k l is fits high =
    cond-false (not (level_fits l)) _ _ (not_from_true _ fits)
    ∙ cond-true (ltb 500 (m + l.height.0)) _ _ (lt-ltb _ _ high)
    ∙ ap (λ (x : ℕ). Some (TooHigh x)) (sym is)

-- where there is no room for it, a storey is one too many
crowded :
    (n own h k : ℕ) (l : Level) → k ≡ n + 1 → (n < 24 → 8 ≤ own) → add_denial n own h l ≡ Some (TooManyLevels k)
crowded n own h k l is full =
    elim (cases_lt n 24) [
      | inl few ↦ cond-false (leb 24 n) _ _ (lt-leb _ _ few) ∙ cond-true (leb 8 own) _ _ (le-leb _ _ (full few)) ∙ told
      | inr many ↦ cond-true (leb 24 n) _ _ (le-leb _ _ many) ∙ told
    ]
  where
    told : Some (TooManyLevels (n + 1)) ≡ Some (TooManyLevels k)
    told = ap (λ (x : ℕ). Some (TooManyLevels x)) (sym is)

-- level k of the frame, over the base, where those below it are a frame
module _ (base levels : List Level) (k : ℕ) (over : length base < k) (below : FrameBelow (base ++ levels) k) where
  -- how many levels stand on the base below it
  abbrev own : ℕ
  own = k - 1 - length base

  -- how high the levels below it stand
  abbrev top : ℕ
  top = height_of base + height_of (take own levels)

  -- the levels below it
  under : take (k - 1) (base ++ levels) ≡ base ++ take own levels
  under =
      ap (λ (x : ℕ). take x (base ++ levels)) (let e : k - 1 ≡ length base + own = omega (arith, over) in e)
      ∙ take-append-add base levels own

  -- they keep a frame's limits
  kept : Limits (base ++ take own levels)
  kept = limits (base ++ take own levels) (subst Sound under below)

  -- those on the base are in range
  fit : all_fit (take own levels) ≡ true
  fit = fit_over base (take own levels) kept.each

  -- they end at 500 dm or lower
  low : top ≤ 500
  low = omega (arith, kept.low, total_append (λ (l : Level). l.height.0) base (take own levels))

  module _ (l : Level) (at : level_at (base ++ levels) k ≡ Some l) where
    -- it is a level of the file
    own_level : from_bottom levels own ≡ Some l
    own_level =
        let e : k - length base ≡ suc own = omega (arith, over) in
        sym (at_high base levels k over ∙ ap (level_at levels) e) ∙ at

    -- how high it stands
    high : level_height (base ++ levels) k ≡ top + l.height.0
    high =
        let e : k ≡ k - 1 + 1 = omega (arith, over) in
        let height : Level → ℕ = λ (x : Level). x.height.0 in
        let here = subst (λ (x : ℕ). level_at (base ++ levels) x ≡ Some l) e at in
        omega (
          arith,
          ap (level_height (base ++ levels)) e,
          total_more height (base ++ levels) (k - 1) l here,
          ap height_of under,
          total_append height base (take own levels),
        )

    -- in a table, what it is denied for is told
    table_told :
        (d : FrameDenial) → step_denial (k - 1) top l ≡ Some d → denial_from (length base) (height_of base) levels ≡ Some d
    table_told d e =
        scan_told levels (length base) (height_of base) own (k - 1) top l d fit low own_level (omega (arith, over)) refl e

    -- so it is of a storey on a kit
    storey_told :
        (d : FrameDenial) → k ≤ 25 → own ≤ 8 → add_denial (k - 1) own top l ≡ Some d
        → first_added_denial base 0 levels ≡ Some d
    storey_told d few storeys e =
        add_told base levels 0 own (k - 1) top own l d fit low (omega (arith, few)) storeys own_level
        (omega (arith, over)) (omega arith) refl e

    -- where there is room for it, as in a table
    roomy_told :
        (d : FrameDenial) → k ≤ 24 → own < 8 → step_denial (k - 1) top l ≡ Some d → first_added_denial base 0 levels ≡ Some d
    roomy_told d few storeys e =
        storey_told d (omega (arith, few)) (omega (arith, storeys))
        (roomy (k - 1) own top l (Some d) (omega (arith, few, over)) storeys e)

    -- where there is none, as one too many
    crowded_told :
        k ≤ 25 → own ≤ 8 → (k ≤ 24 → 8 ≤ own) → first_added_denial base 0 levels ≡ Some (TooManyLevels k)
    crowded_told few storeys full =
        storey_told (TooManyLevels k) few storeys
        (crowded (k - 1) own top k l (omega (arith, over)) (λ room. full (omega (arith, room))))

-- a level that makes no frame stands over the base, where that is one
module _ (base levels : List Level) (k : ℕ) (l : Level) (sound : Sound base) (at : level_at (base ++ levels) k ≡ Some l) where
  -- a level out of range
  over_fitting : level_fits l ≡ false → length base < k
  over_fitting unfit =
      elim (cases_lt (length base) k) [
        | inl lt ↦ lt
        | inr ge ↦ let fits = fits_at base k l (limits base sound).each (sym (at_low base levels k ge) ∙ at) in cc
      ]

  -- a level too high
  over_low : 500 < level_height (base ++ levels) k → length base < k
  over_low above =
      elim (cases_lt (length base) k) [
        | inl lt ↦ lt
        | inr ge ↦
            let within = ap height_of (take-append-le k base levels ge) in
            absurd (omega (arith, above, within, total_take (λ (x : Level). x.height.0) base k, (limits base sound).low))
      ]

-- the levels of a kit that is taken are a frame
taken_sound : (kit : Option KitNumbers) → KitTaken kit → Sound (kit_levels kit)
taken_sound None good = refl
taken_sound (Some n) good = kit_sound n (ap is_some (no_denial n good.0 good.1))

-- a kit that is taken leaves the denial to the levels on it
on_taken :
    (n : KitNumbers) (levels : List Level) (o : Option FrameDenial) → KitTaken (Some n)
    → first_added_denial (kit_list n) 0 levels ≡ o → frame_denial (Some n) levels ≡ o
on_taken n levels o good e =
    ap (λ (x : Option FrameDenial). or_else x (first_added_denial (kit_list n) 0 levels)) (no_denial n good.0 good.1) ∙ e

-- what a level that comes to be judged is denied for is told
level_told :
    (kit : Option KitNumbers) (levels : List Level) (k : ℕ) (l : Level) (d : FrameDenial) (r : Reached kit levels k)
    (over : length (kit_levels kit) < k) → level_at (frame_levels kit levels) k ≡ Some l
    → step_denial (k - 1) (top (kit_levels kit) levels k over r.2) l ≡ Some d → frame_denial kit levels ≡ Some d
level_told None levels k l d r over at e =
    cond-false (ltb 24 (length levels)) _ _ (le-ltb _ _ r.1) ∙ table_told [] levels k over r.2 l at d e
level_told (Some n) levels k l d r over at e =
    let base = kit_list n in
    let count = kit_length n (ranged n r.0.0).some in
    let few : k ≤ 24 = omega (arith, r.1) in
    let storeys : k ≤ n.levels + 8 = omega (arith, r.1) in
    on_taken n levels _ r.0
    (roomy_told base levels k over r.2 l at d few (omega (arith, storeys, count, over)) e)

-- each reason is that of the denial
reason_told :
    (kit : Option KitNumbers) (levels : List Level) (d : FrameDenial) → Reason kit levels d → frame_denial kit levels ≡ Some d
reason_told None levels (TooManyLevels k) (good, (is, within)) =
    cond-true (ltb 24 (length levels)) _ _ (lt-ltb _ _ (omega (arith, is, within)))
    ∙ ap (λ (x : ℕ). Some (TooManyLevels x)) (sym is)
reason_told (Some n) levels (TooManyLevels k) (good, (is, within, below)) =
    let base = kit_list n in
    let count = kit_length n (ranged n good.0).some in
    let over : length base < k = omega (arith, is, count, (ranged n good.0).few) in
    let here = at_inside (base ++ levels) k (roof n) (omega (arith, is)) within in
    on_taken n levels _ good
    (crowded_told base levels k over below (get_or (base ++ levels) (k - 1) (roof n)) here
    (omega (arith, is)) (omega (arith, is, count)) (λ few. omega (arith, is, count, few)))
reason_told kit levels (OutOfRange k) (r, (l, at, unfit)) =
    let over = over_fitting (kit_levels kit) levels k l (taken_sound kit r.0) at unfit in
    level_told kit levels k l (OutOfRange k) r over at (out_of_range (k - 1) _ k l (omega (arith, over)) unfit)
reason_told kit levels (TooHigh k) (r, (l, at, fits), above) =
    let over = over_low (kit_levels kit) levels k l (taken_sound kit r.0) at above in
    let high_here = high (kit_levels kit) levels k over r.2 l at in
    level_told kit levels k l (TooHigh k) r over at
    (too_high (k - 1) (top (kit_levels kit) levels k over r.2) k l (omega (arith, over)) fits (omega (arith, above, high_here)))
reason_told kit levels KitOutOfRange (n, is, unfit) =
    subst (λ (o : Option KitNumbers). frame_denial o levels ≡ Some KitOutOfRange) (sym is)
    (ap (λ (o : Option FrameDenial). or_else o (first_added_denial (kit_list n) 0 levels))
    (cond-true (not (kit_in_range n)) _ _ (not_from_false _ unfit)))
reason_told kit levels KitTooHigh (n, is, fits, above) =
    subst (λ (o : Option KitNumbers). frame_denial o levels ≡ Some KitTooHigh) (sym is)
    (ap (λ (o : Option FrameDenial). or_else o (first_added_denial (kit_list n) 0 levels))
    (cond-false (not (kit_in_range n)) _ _ (not_from_true _ fits)
    ∙ cond-true (ltb 500 (n.levels * n.height.0)) _ _ (lt-ltb _ _ above)))

-- so the denial that has a reason is what making the frame answers
pub told :
    (kit : Option KitNumbers) (levels : List Level) (r : Result OrderFrame (Failure FrameDenial)) → Framed kit levels r
    → ReasonTold kit levels r
told kit levels (Ok f) h d why = let e = reason_told kit levels d why in let none = h.0 in cc
told kit levels (Err (Denied e)) h d why = let same = reason_told kit levels d why in cc
told kit levels (Err NoMemory) h d why = let e = reason_told kit levels d why in let none = h.0 in cc
