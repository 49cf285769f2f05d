-- The frame of a file whose levels keep a frame's limits is taken.
use Rattle.std.proofs.Common.{◌≡◌, ℕ, zero, suc, ◌-◌, ◌*◌, ◌≤◌, true, List, [], ◌∷◌, ◌++◌, length, replicate, Some, None, Ok, Option, sym, refl, ap, ◌∙◌, subst, arith, suc-mul, length-append}
use Rattle.records.specs.declared.kit_numbers.KitNumbers.{KitNumbers}
use Rattle.records.specs.declared.level.Level.{Level}
use Rattle.records.specs.Kits.{floor, roof}
use Rattle.frames.specs.declared.denial.FrameDenial.{FrameDenial}
use Rattle.frames.specs.declared.denial.FrameDenial.TheVariants.{TooManyLevels, OutOfRange, TooHigh, KitOutOfRange, KitTooHigh}
use Rattle.frames.specs.KitLists.{kit_length, ranged}
use Rattle.frames.specs.Kits.{kit_in_range, kit_list}
use Rattle.frames.specs.Levels.{Sound, height_of}
use Rattle.frames.specs.Lists.{limits, total_append, total_take}
use Rattle.order_file.specs.File.{Filed, most_levels, order_file_of}
use Rattle.order_file.proofs.Whole.{file_forth}
use Rattle.order_frame.specs.Frames.{frame_denial, frame_levels}
use Rattle.order_frame.specs.Outcomes.{framed, judged, outcome}
use Rattle.order_frame.specs.Reasons.{Reason}
use Rattle.order_frame.proofs.Reasons.{denied_reason}
use Rattle.order_frame.proofs.Told.{fits_at}
use Rattle.report.specs.Laws.{Stands}

-- equal levels are so many times as high as one
equal_height : (n : ℕ) (l : Level) → height_of (replicate n l) ≡ n * l.height.0
equal_height zero l = omega arith
equal_height (suc n) l = omega (arith, equal_height n l, suc-mul n l.height.0)

-- a kit is as high as its levels together
kit_height : (n : KitNumbers) → 1 ≤ n.levels → height_of (kit_list n) ≡ n.levels * n.height.0
kit_height n some =
    let before = n.levels - 1 in
    let t = total_append (λ (l : Level). l.height.0) (replicate before (floor n)) (roof n ∷ []) in
    let u = equal_height before (floor n) in
    let s : suc before ≡ n.levels = omega (arith, some) in
    let v = sym (ap (λ (x : ℕ). x * n.height.0) s) ∙ suc-mul before n.height.0 in
    omega (arith, t, u, v)

-- no denial has a reason where the kit is in range, the levels over it are few, and all levels keep a frame's limits
no_reason :
    (kit : Option KitNumbers) (levels : List Level) → ((n : KitNumbers) → kit ≡ Some n → kit_in_range n ≡ true)
    → length levels ≤ most_levels kit → Sound (frame_levels kit levels) → (d : FrameDenial) → ¬ Reason kit levels d
no_reason None levels in_range few sound (TooManyLevels k) r = absurd (omega (arith, r.1.0, r.1.1, few))
no_reason (Some n) levels in_range few sound (TooManyLevels k) r =
    let kit = kit_length n (ranged n r.0.0).some in
    let all = length-append (kit_list n) levels in
    absurd (omega (arith, r.1.0, r.1.1, kit, all, few, (limits (kit_list n ++ levels) sound).few))
no_reason kit levels in_range few sound (OutOfRange k) r =
    let fit = fits_at (frame_levels kit levels) k r.1.0 (limits (frame_levels kit levels) sound).each r.1.1 in
    cc
no_reason kit levels in_range few sound (TooHigh k) r =
    let whole = frame_levels kit levels in
    absurd (omega (arith, r.2, total_take (λ (l : Level). l.height.0) whole k, (limits whole sound).low))
no_reason kit levels in_range few sound KitOutOfRange r = let t = in_range r.0 r.1 in cc
no_reason kit levels in_range few sound KitTooHigh r =
    let n = r.0 in
    let is = subst (λ (o : Option KitNumbers). Sound (frame_levels o levels)) r.1 sound in
    let kit_high = kit_height n (ranged n r.2).some in
    let all = total_append (λ (l : Level). l.height.0) (kit_list n) levels in
    absurd (omega (arith, r.3, kit_high, all, (limits (kit_list n ++ levels) is).low))

-- where no denial has a reason the records stand
stands_framed :
    (f : Filed) (o : Option FrameDenial) → frame_denial f.kit f.levels ≡ o → ((d : FrameDenial) → ¬ Reason f.kit f.levels d)
    → framed f o ≡ Ok f
stands_framed f None e none = refl
stands_framed f (Some d) e none = absurd (none d (denied_reason f.kit f.levels d e))

-- a file that stands comes to its records
pub taken : (bytes : List ℕ) (f : Filed) → Stands f bytes → outcome bytes ≡ Ok f
taken bytes f stands =
    let read : order_file_of bytes ≡ Ok f = ap order_file_of stands.laid_out.written ∙ file_forth f stands.laid_out.fits in
    let none = no_reason f.kit f.levels stands.kit stands.laid_out.fits.level_count stands.levels in
    ap judged read ∙ stands_framed f (frame_denial f.kit f.levels) refl none
