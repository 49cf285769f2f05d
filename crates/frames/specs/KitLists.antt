-- What is known of a kit's list.
use Rattle.std.specs.Prelude.{◌≡◌, ℕ, zero, suc, ◌+◌, ◌-◌, ◌*◌, ◌<◌, ◌≤◌, true, false, not, [], ◌∷◌, length, replicate, is_some, Some, None, nat_le, nat_lt, refl}
use Rattle.std.proofs.Common.{sym, ap, ◌∙◌, arith, suc-mul, length-append}
use Rattle.std.proofs.lemmas.List.{get_or-replicate, get_or_append_left, get_or_at, length-replicate}
use Rattle.std.proofs.lemmas.Bool.{and_from, and_parts, leb-true, ltb-false, le-ltb, not_from_true, cond-false}
use Rattle.records.specs.declared.kit_numbers.KitNumbers.{KitNumbers}
use Rattle.records.specs.declared.level.Level.{Level}
use Rattle.records.specs.Kits.{floor, roof}
use Rattle.records.specs.Ranges.{from_to, level_fits, weight_fits, height_fits}
use Rattle.frames.specs.declared.denial.FrameDenial.TheVariants.{KitOutOfRange, KitTooHigh}
use Rattle.frames.specs.Kits.{kit_in_range, kit_denial, kit_list}
use Rattle.frames.specs.KitFrames.{Alike}
use Rattle.frames.specs.Levels.{Sound, all_fit, total}
use Rattle.frames.specs.Cases.{two_passed}
use Rattle.frames.specs.Lists.{total_append, fit_append, sound_from}
use Rattle.frames.specs.Places.{at_inside, at_beyond}

total_replicate : (m : Level → ℕ) (n : ℕ) (l : Level) → total m (replicate n l) ≡ n * m l
total_replicate m zero l = omega arith
total_replicate m (suc n) l = omega (arith, total_replicate m n l, suc-mul n (m l))

fit_replicate : (n : ℕ) (l : Level) → level_fits l ≡ true → all_fit (replicate n l) ≡ true
fit_replicate zero l h = refl
fit_replicate (suc n) l h = and_from (level_fits l) _ h (fit_replicate n l h)

pub record Ranged (n : KitNumbers) : Type 0 where
  pub some : 1 ≤ n.levels
  pub few : n.levels ≤ 24
  pub floor_fits : level_fits (floor n) ≡ true
  pub roof_fits : level_fits (roof n) ≡ true
  pub storey : n.height.0 ≤ 60

pub ranged : (n : KitNumbers) → kit_in_range n ≡ true → Ranged n
ranged n e =
    let a = and_parts (from_to 1 24 n.levels) _ e in
    let b = and_parts (nat_le 1 n.levels) _ a.0 in
    let f = and_parts (level_fits (floor n)) _ a.1 in
    let g = and_parts (weight_fits n.floor_weight) _ f.0 in
    let h = and_parts (height_fits n.height) _ g.1 in
    let i = and_parts (nat_le 20 n.height.0) _ h.0 in
    record { some = leb-true _ _ b.0; few = leb-true _ _ b.1; floor_fits = f.0; roof_fits = f.1; storey = leb-true _ _ i.1 }

pub record Allowed (n : KitNumbers) : Type 0 where
  pub in_range : Ranged n
  pub low : n.levels * n.height.0 ≤ 500

pub allowed : (n : KitNumbers) → is_some (kit_denial n) ≡ false → Allowed n
allowed n e =
    let p = two_passed (kit_in_range n) (nat_lt 500 (n.levels * n.height.0)) KitOutOfRange KitTooHigh e in
    record { in_range = ranged n p.0; low = ltb-false _ _ p.1 }

pub no_denial : (n : KitNumbers) → kit_in_range n ≡ true → n.levels * n.height.0 ≤ 500 → kit_denial n ≡ None
no_denial n t low = cond-false (not (kit_in_range n)) _ _ (not_from_true _ t) ∙ cond-false (nat_lt 500 (n.levels * n.height.0)) _ _ (le-ltb _ _ low)

pub kit_length : (n : KitNumbers) → 1 ≤ n.levels → length (kit_list n) ≡ n.levels
kit_length n p = omega (arith, length-append (replicate (n.levels - 1) (floor n)) (roof n ∷ []), length-replicate (n.levels - 1) (floor n))

pub kit_sound : (n : KitNumbers) → is_some (kit_denial n) ≡ false → Sound (kit_list n)
kit_sound n e =
    let a = allowed n e in
    let r = a.in_range in
    let height : Level → ℕ = λ (l : Level). l.height.0 in
    let before = n.levels - 1 in
    let t = total_append height (replicate before (floor n)) (roof n ∷ []) in
    let u = total_replicate height before (floor n) in
    let s : suc before ≡ n.levels = omega (arith, r.some) in
    let v : n.levels * n.height.0 ≡ before * n.height.0 + n.height.0 = sym (ap (λ (x : ℕ). x * n.height.0) s) ∙ suc-mul before n.height.0 in
    sound_from (kit_list n)
    (omega (arith, kit_length n r.some, r.few))
    (omega (arith, a.low))
    (fit_append (replicate before (floor n)) (roof n ∷ []) (fit_replicate before (floor n) r.floor_fits) (and_from (level_fits (roof n)) true r.roof_fits refl))

pub kit_alike : (n : KitNumbers) → 1 ≤ n.levels → Alike n (kit_list n)
kit_alike n p =
    let before = n.levels - 1 in
    let len = kit_length n p in
    record {
      count = len;
      floors = λ k low high.
          let b : k - 1 < length (replicate before (floor n)) = simp length-replicate (omega arith) in
          at_inside (kit_list n) k (floor n) low (omega arith)
          ∙ ap Some (get_or_append_left (replicate before (floor n)) (roof n ∷ []) (floor n) (k - 1) b ∙ get_or-replicate before (k - 1) (floor n) (floor n) (omega arith));
      last =
          at_inside (kit_list n) n.levels (floor n) p (omega arith)
          ∙ ap Some (get_or_at (replicate before (floor n)) (roof n) [] (floor n) before (length-replicate before (floor n)));
      none = refl;
      above = λ k high. at_beyond (kit_list n) k (omega arith);
    }
