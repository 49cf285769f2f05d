-- Levels put on from below, up to the first that is denied.
use Rattle.std.proofs.Common.{◌≡◌, ℕ, ◌+◌, ◌<◌, ◌≤◌, List, [], ◌∷◌, ◌++◌, length, get_or, take, drop, Some, None, Ok, Err, Option, sym, ap, ◌∙◌, append_assoc, arith, length-append, length-take-le, take_all}
use Rattle.std.proofs.lemmas.List.{take_more, at_drop_more, at_drop_all}
use Rattle.records.specs.declared.kit_numbers.KitNumbers.{KitNumbers}
use Rattle.records.specs.declared.level.Level.{Level}
use Rattle.frames.specs.declared.denial.FrameDenial.{FrameDenial}
use Rattle.frames.specs.Kits.{kit_denial, kit_list}
use Rattle.frames.specs.Levels.{height_of}
use Rattle.frames.specs.Tables.{or_else}
use Rattle.frames.specs.Additions.{add_denial}
use Rattle.frames.specs.Toppings.{own_count, Added}
use Rattle.order_frame.specs.Frames.{first_added_denial, frame_denial}

-- the first i levels stand on the base, and the denial is that of the others
pub record PutOn (base levels : List Level) (i : ℕ) (whole : List Level) : Type 0 where
  pub list : whole ≡ base ++ take i levels
  pub denial : first_added_denial base 0 levels ≡ first_added_denial whole i (drop i levels)

module _ (base levels : List Level) (i : ℕ) (d : Level) (h : i < length levels) (below before : List Level) (same : below ≡ base) (on : PutOn base levels i before) where
  own : own_count below before ≡ i
  own =
      omega (arith, ap length same, ap length on.list, length-append base (take i levels), length-take-le i levels (let le : i ≤ length levels = omega arith in le))

  -- what the topping judged is what the definition judges next
  next : first_added_denial before i (drop i levels) ≡ or_else (add_denial (length before) (own_count below before) (height_of before) (get_or levels i d)) (first_added_denial (before ++ get_or levels i d ∷ []) (i + 1) (drop (i + 1) levels))
  next =
      at_drop_more (first_added_denial before i) levels i d h
      ∙ ap (λ (s : ℕ). or_else (add_denial (length before) s (height_of before) (get_or levels i d)) (first_added_denial (before ++ get_or levels i d ∷ []) (i + 1) (drop (i + 1) levels))) (sym own)

  pub put_more : (after : List Level) → Added below before after (get_or levels i d) (Ok tt) → PutOn base levels (i + 1) after
  put_more after a = record {
    list =
        a.1
        ∙ ap (λ (ls : List Level). ls ++ get_or levels i d ∷ []) on.list
        ∙ append_assoc base (take i levels) (get_or levels i d ∷ [])
        ∙ ap (λ (ls : List Level). base ++ ls) (sym (take_more levels i d h));
    denial =
        on.denial
        ∙ next
        ∙ ap (λ (o : Option FrameDenial). or_else o (first_added_denial (before ++ get_or levels i d ∷ []) (i + 1) (drop (i + 1) levels))) a.0
        ∙ ap (λ (ls : List Level). first_added_denial ls (i + 1) (drop (i + 1) levels)) (sym a.1);
  }

  pub put_denied : (after : List Level) (e : FrameDenial) → Added below before after (get_or levels i d) (Err e) → first_added_denial base 0 levels ≡ Some e
  put_denied after e a =
      on.denial
      ∙ next
      ∙ ap (λ (o : Option FrameDenial). or_else o (first_added_denial (before ++ get_or levels i d ∷ []) (i + 1) (drop (i + 1) levels))) a.0

pub put_all : (base levels : List Level) (i : ℕ) (whole : List Level) → length levels ≤ i → PutOn base levels i whole → (first_added_denial base 0 levels ≡ None) × (whole ≡ base ++ levels)
put_all base levels i whole h on = (
  on.denial ∙ at_drop_all (first_added_denial whole i) levels i h,
  on.list ∙ ap (λ (ls : List Level). base ++ ls) (take_all i levels h),
)

-- a kit that is not denied leaves the denial to the levels on it
pub on_kit : (n : KitNumbers) (base levels : List Level) (o : Option FrameDenial) → kit_denial n ≡ None → base ≡ kit_list n → first_added_denial base 0 levels ≡ o → frame_denial (Some n) levels ≡ o
on_kit n base levels o good same e =
    ap (λ (k : Option FrameDenial). or_else k (first_added_denial (kit_list n) 0 levels)) good
    ∙ ap (λ (ls : List Level). first_added_denial ls 0 levels) (sym same)
    ∙ e
