-- What a kit tells of its level k, and of its top.
use Rattle.std.proofs.Common.{◌≡◌, ℕ, zero, suc, ◌-◌, ◌*◌, ◌<◌, ◌≤◌, [], ◌∷◌, replicate, Some, None, ap, ◌∙◌, arith, suc-mul}
use Rattle.records.specs.declared.kit_numbers.KitNumbers.{KitNumbers}
use Rattle.records.specs.declared.level.Level.{Level}
use Rattle.records.specs.Kits.{floor, roof}
use Rattle.frames.specs.Kits.{kit_list}
use Rattle.frames.specs.Lists.{total_append}
use Rattle.frames.specs.declared.kit.Kit.{Kit}
use Rattle.frames.specs.KitFrames.{Alike, made_list}
use Rattle.frames.specs.KitLists.{allowed, kit_alike}
use Rattle.records.specs.Heights.{ground, raised}
use Rattle.frames.specs.Levels.{height_of, level_at, top_of}
use Rattle.frames.proofs.Heights.{raised_within, same_height}

alike : (kit : Kit) → Alike kit.numbers (made_list kit)
alike kit = kit_alike kit.numbers (allowed kit.numbers kit.ok).in_range.some

pub floor_at : (kit : Kit) (k : ℕ) → 1 ≤ k → k < kit.numbers.levels → level_at (made_list kit) k ≡ Some (floor kit.numbers)
floor_at kit k = (alike kit).floors k

pub roof_at : (kit : Kit) → level_at (made_list kit) kit.numbers.levels ≡ Some (roof kit.numbers)
roof_at kit = (alike kit).last

pub none_above : (kit : Kit) (k : ℕ) → kit.numbers.levels < k → level_at (made_list kit) k ≡ None
none_above kit k = (alike kit).above k

height_replicate : (n : ℕ) (l : Level) → height_of (replicate n l) ≡ n * l.height.0
height_replicate zero l = omega arith
height_replicate (suc n) l = omega (arith, height_replicate n l, suc-mul n l.height.0)

pub kit_height : (n : KitNumbers) → 1 ≤ n.levels → height_of (kit_list n) ≡ n.levels * n.height.0
kit_height n some =
    let before = n.levels - 1 in
    let s : suc before ≡ n.levels = omega (arith, some) in
    let whole = suc-mul before n.height.0 in
    let all = total_append (λ (l : Level). l.height.0) (replicate before (floor n)) (roof n ∷ []) in
    (let e : height_of (kit_list n) ≡ suc before * n.height.0 = omega (arith, all, height_replicate before (floor n), whole) in e)
    ∙ ap (λ x. x * n.height.0) s

-- one storey of all their heights together reaches the top
pub raised_to_top : (kit : Kit) → raised ground (record { 0 = kit.numbers.levels * kit.numbers.height.0 }) ≡ Some (top_of (made_list kit))
raised_to_top kit =
    let a = allowed kit.numbers kit.ok in
    let n : ℕ = kit.numbers.levels * kit.numbers.height.0 in
    raised_within ground (record { 0 = n }) (omega (arith, a.low))
    ∙ ap Some (same_height _ (top_of (made_list kit)) (omega (arith, kit_height kit.numbers a.in_range.some)))
