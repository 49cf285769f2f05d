-- A denial is about a record that the file has.
use Rattle.std.proofs.Common.{◌≡◌, ℕ, ◌+◌, ◌-◌, ◌*◌, ◌<◌, ◌≤◌, ◌&&◌, ltb, leb, List, [], ◌∷◌, ◌++◌, length, get_or, Some, None, Ok, Err, Option, Result, sym, refl, ap, ◌∙◌, subst, inl, inr, arith, length-append}
use Rattle.std.specs.Option.{option_map}
use Rattle.std.proofs.lemmas.Bool.{cond-true, le-leb, ltb-true, and_from}
use Rattle.records.specs.declared.kit_numbers.KitNumbers.{KitNumbers}
use Rattle.records.specs.declared.level.Level.{Level}
use Rattle.records.specs.Ranges.{level_fits}
use Rattle.records.specs.declared.failure.Failure.{Failure}
use Rattle.records.specs.declared.failure.Failure.TheVariants.{Denied, NoMemory}
use Rattle.tokens.specs.declared.fault.Fault.{Fault}
use Rattle.frames.specs.declared.denial.FrameDenial.{FrameDenial}
use Rattle.frames.specs.declared.denial.FrameDenial.TheVariants.{TooManyLevels, OutOfRange, TooHigh, KitOutOfRange, KitTooHigh}
use Rattle.frames.specs.Kits.{kit_in_range, kit_list}
use Rattle.frames.specs.Levels.{level_at, height_of}
use Rattle.frames.specs.Steps.{step_denial}
use Rattle.frames.specs.Tables.{denial_from}
use Rattle.frames.specs.Cases.{one_some, two_some}
use Rattle.frames.specs.KitLists.{kit_length, ranged}
use Rattle.frames.specs.Places.{at_high, at_inside}
use Rattle.order_file.specs.File.{Filed, order_file_of}
use Rattle.order_file.specs.Lines.{kit_line, level_line, LinedUp}
use Rattle.order_frame.specs.declared.refusal.Refusal.{Refusal}
use Rattle.order_frame.specs.declared.frame.OrderFrame.{OrderFrame}
use Rattle.order_frame.specs.Blame.{HoldsKit, HoldsLevel, HoldsRecord, Blames, Blamed, BlamedOn}
use Rattle.order_frame.specs.Frames.{kit_levels, first_added_denial, frame_denial}
use Rattle.order_frame.specs.Outcomes.{framed, FrameAs}
use Rattle.order_frame.specs.Refusals.{kit_count, blamed_line, listed_line, found_line, refusal_line, frame_refusal}
use Rattle.order_frame.proofs.Reasons.{added_some, denied_reason}

-- level k is one that the file lists, over the kit
pub record Listed (f : Filed) (k : ℕ) : Type 0 where
  pub over_kit : kit_count f.kit < k
  pub within : k ≤ kit_count f.kit + length f.levels
  pub kit_long : length (kit_levels f.kit) ≡ kit_count f.kit

listed : (f : Filed) (k : ℕ) → Listed f k → listed_line f k ≡ Some (blamed_line f (OutOfRange k))
listed f k p =
    cond-true (leb 1 (k - kit_count f.kit) && leb (k - kit_count f.kit) (length f.levels)) _ None
    (and_from _ _ (le-leb 1 _ (omega (arith, p.over_kit))) (le-leb _ (length f.levels) (omega (arith, p.within))))

-- a level denied, of those over `low` up to `high`
abbrev Between : ℕ → ℕ → FrameDenial → Type 0
Between low high (TooManyLevels k) = (low < k) × (k ≤ high)
Between low high (OutOfRange k) = (low < k) × (k ≤ high)
Between low high (TooHigh k) = (low < k) × (k ≤ high)
Between low high KitOutOfRange = ⊥
Between low high KitTooHigh = ⊥

wider : (a b c d : ℕ) (x : FrameDenial) → a ≤ b → c ≡ d → Between b c x → Between a d x
wider a b c d (TooManyLevels k) h e (low, high) = (omega arith, omega arith)
wider a b c d (OutOfRange k) h e (low, high) = (omega arith, omega arith)
wider a b c d (TooHigh k) h e (low, high) = (omega arith, omega arith)
wider a b c d KitOutOfRange h e p = p
wider a b c d KitTooHigh h e p = p

added_between : (base rest : List Level) (s : ℕ) (d : FrameDenial) → first_added_denial base s rest ≡ Some d → Between (length base) (length base + length rest) d
added_between base [] s d e = cc
added_between base (l ∷ rest) s d e =
    let k = length base + 1 in
    let here : (length base < k) × (k ≤ length base + length (l ∷ rest)) = (omega arith, omega arith) in
    elim (added_some (leb 24 (length base)) (leb 8 s) (TooManyLevels k) (TooManyLevels k) d (step_denial (length base) (height_of base) l) _ e) [
      | inl (t, same) ↦ subst (Between (length base) (length base + length (l ∷ rest))) same here
      | inr (inl (t, u, same)) ↦ subst (Between (length base) (length base + length (l ∷ rest))) same here
      | inr (inr (t, u, more)) ↦
          elim (two_some (level_fits l) (ltb 500 (height_of base + l.height.0)) (OutOfRange k) (TooHigh k) d _ more) [
            | inl (f, same) ↦ subst (Between (length base) (length base + length (l ∷ rest))) same here
            | inr (inl (f, h, same)) ↦ subst (Between (length base) (length base + length (l ∷ rest))) same here
            | inr (inr (f, h, later)) ↦
                let n = length-append base (l ∷ []) in
                wider (length base) (length (base ++ l ∷ [])) (length (base ++ l ∷ []) + length rest) _ d (omega arith) (omega arith) (added_between (base ++ l ∷ []) rest (s + 1) d later)
          ]
    ]

scanned_between : (k h : ℕ) (rest : List Level) (d : FrameDenial) → denial_from k h rest ≡ Some d → Between k (k + length rest) d
scanned_between k h [] d e = cc
scanned_between k h (l ∷ rest) d e =
    let here : (k < k + 1) × (k + 1 ≤ k + length (l ∷ rest)) = (omega arith, omega arith) in
    elim (two_some (level_fits l) (ltb 500 (h + l.height.0)) (OutOfRange (k + 1)) (TooHigh (k + 1)) d _ e) [
      | inl (f, same) ↦ subst (Between k (k + length (l ∷ rest))) same here
      | inr (inl (f, g, same)) ↦ subst (Between k (k + length (l ∷ rest))) same here
      | inr (inr (f, g, later)) ↦ wider k (k + 1) (k + 1 + length rest) _ d (omega arith) (omega arith) (scanned_between (k + 1) (h + l.height.0) rest d later)
    ]

-- the record that a denial is about
abbrev pub Located : Filed → FrameDenial → Type 0
Located f (TooManyLevels k) = Listed f k
Located f (OutOfRange k) = Listed f k
Located f (TooHigh k) = Listed f k
Located f KitOutOfRange = (n : KitNumbers) × (f.kit ≡ Some n)
Located f KitTooHigh = (n : KitNumbers) × (f.kit ≡ Some n)

between_located : (f : Filed) (d : FrameDenial) → length (kit_levels f.kit) ≡ kit_count f.kit → Between (kit_count f.kit) (kit_count f.kit + length f.levels) d → Located f d
between_located f (TooManyLevels k) e (low, high) = record { over_kit = low; within = high; kit_long = e }
between_located f (OutOfRange k) e (low, high) = record { over_kit = low; within = high; kit_long = e }
between_located f (TooHigh k) e (low, high) = record { over_kit = low; within = high; kit_long = e }
between_located f KitOutOfRange e p = absurd p
between_located f KitTooHigh e p = absurd p

located_at : (kit : Option KitNumbers) (f : Filed) (d : FrameDenial) → f.kit ≡ kit → length f.levels ≤ 24 → frame_denial kit f.levels ≡ Some d → Located f d
located_at None f d is few e =
    let c = ap kit_count is in
    elim (one_some (ltb 24 (length f.levels)) (TooManyLevels 25) d _ e) [
      | inl (t, same) ↦ absurd (omega (arith, ltb-true _ _ t))
      | inr (t, more) ↦
          between_located f d (ap (λ (k : Option KitNumbers). length (kit_levels k)) is ∙ sym c)
          (wider _ 0 (0 + length f.levels) _ d (omega arith) (omega arith) (scanned_between 0 0 f.levels d more))
    ]
located_at (Some n) f d is few e =
    elim (two_some (kit_in_range n) (ltb 500 (n.levels * n.height.0)) KitOutOfRange KitTooHigh d _ e) [
      | inl (g, same) ↦ subst (Located f) same (n, is)
      | inr (inl (g, h, same)) ↦ subst (Located f) same (n, is)
      | inr (inr (g, h, more)) ↦
          let long = kit_length n (ranged n g).some in
          let c = ap kit_count is in
          between_located f d (ap (λ (k : Option KitNumbers). length (kit_levels k)) is ∙ long ∙ sym c)
          (wider _ (length (kit_list n)) (length (kit_list n) + length f.levels) _ d (omega arith) (omega arith) (added_between (kit_list n) f.levels 0 d more))
    ]

pub located : (f : Filed) (d : FrameDenial) → length f.levels ≤ 24 → frame_denial f.kit f.levels ≡ Some d → Located f d
located f d few e = located_at f.kit f d refl few e

kit_found : (f : Filed) → (n : KitNumbers) × (f.kit ≡ Some n) → option_map (λ _. kit_line) f.kit ≡ Some kit_line
kit_found f (n, is) = ap (option_map (λ _. kit_line)) is

pub found : (f : Filed) (d : FrameDenial) → Located f d → found_line f d ≡ Some (blamed_line f d)
found f (TooManyLevels k) p = listed f k p
found f (OutOfRange k) p = listed f k p
found f (TooHigh k) p = listed f k p
found f KitOutOfRange p = kit_found f p
found f KitTooHigh p = kit_found f p

-- a level that the file lists stands on its line
holds_level : (f : Filed) (bytes : List ℕ) (k : ℕ) → LinedUp f bytes → Listed f k → HoldsLevel f k (level_line f (k - kit_count f.kit)) bytes
holds_level f bytes k lines p =
    let n = kit_count f.kit in
    let blank : Level = record { weight = 0; height = record { 0 = 0 }; stiffness = 0; mass_centre = 0; torsion_centre = 0; width = 0 } in
    let some : 1 ≤ k - n = omega (arith, p.over_kit) in
    let few : k - n ≤ length f.levels = omega (arith, p.within) in (
      get_or f.levels (k - n - 1) blank,
      at_high (kit_levels f.kit) f.levels k (omega (arith, p.over_kit, p.kit_long))
          ∙ ap (λ (x : ℕ). level_at f.levels (k - x)) p.kit_long
          ∙ at_inside f.levels (k - n) blank some few,
      lines.level (k - n) blank some few,
    )

holds_kit : (f : Filed) (bytes : List ℕ) → LinedUp f bytes → (n : KitNumbers) × (f.kit ≡ Some n) → HoldsKit f kit_line bytes
holds_kit f bytes lines (n, is) = (n, is, lines.kit n is)

holds : (f : Filed) (bytes : List ℕ) (d : FrameDenial) → LinedUp f bytes → Located f d → HoldsRecord f d (blamed_line f d) bytes
holds f bytes (TooManyLevels k) lines p = holds_level f bytes k lines p
holds f bytes (OutOfRange k) lines p = holds_level f bytes k lines p
holds f bytes (TooHigh k) lines p = holds_level f bytes k lines p
holds f bytes KitOutOfRange lines p = holds_kit f bytes lines p
holds f bytes KitTooHigh lines p = holds_kit f bytes lines p

-- records whose frame is denied
blames : (f : Filed) (bytes : List ℕ) (d : FrameDenial) (r : Refusal) → LinedUp f bytes → length f.levels ≤ 24 → frame_denial f.kit f.levels ≡ Some d → r ≡ frame_refusal f d → Blames r (Ok f) bytes
blames f bytes d r lines few denied told = (
  d,
  told,
  denied_reason f.kit f.levels d denied,
  subst (λ (x : Refusal). HoldsRecord f d (refusal_line x) bytes) (sym told) (holds f bytes d lines (located f d few denied)),
)

pub blamed_on : (f : Filed) (bytes : List ℕ) (r : Result OrderFrame (Failure Refusal)) → LinedUp f bytes → length f.levels ≤ 24 → FrameAs r f → BlamedOn bytes r f
blamed_on f bytes (Ok frame) lines few h = tt
blamed_on f bytes (Err NoMemory) lines few h = tt
blamed_on f bytes (Err (Denied r)) lines few h = cases (frame_denial f.kit f.levels) refl h
  where
    cases : (o : Option FrameDenial) → frame_denial f.kit f.levels ≡ o → framed f o ≡ Err r → Blames r (Ok f) bytes
    cases None is e = cc
    cases (Some d) is e = blames f bytes d r lines few is cc

-- a file that is read, and whose frame is denied
pub blamed : (f : Filed) (bytes : List ℕ) (e : Failure Refusal) → order_file_of bytes ≡ Ok f → BlamedOn bytes (Err e) f → Blamed (Err e) bytes
blamed f bytes (Denied r) is h = subst (λ (o : Result Filed Fault). Blames r o bytes) (sym is) h
blamed f bytes NoMemory is h = tt
