-- The storeys of a list of levels, place by place: their levels and heights, and what they weigh.
use Rattle.std.proofs.Common.{◌≡◌, ℕ, zero, suc, ◌+◌, List, [], ◌∷◌, take, drop, map, sum_by, slice_get, Some, option_map, sym, refl, ap, ◌∙◌, add-one, arith}
use Rattle.std.proofs.lemmas.List.{drop-map}
use Rattle.std.proofs.lemmas.List.Sums.{sum_by-cons}
use Rattle.std.proofs.lemmas.Option.{slice_get-map}
use Rattle.records.specs.declared.height.LevelHeight.{LevelHeight}
use Rattle.records.specs.declared.level.Level.{Level}
use Rattle.spreading.specs.Spreads.{spread_from}
use Rattle.frames.specs.Levels.{height_of, level_height, weight_of}
use Rattle.seismic.specs.declared.storey.Storey.{Storey}
use Rattle.seismic.specs.Responses.{weight}
use Rattle.seismic.specs.Storeys.{storey_of, storeys_from, bare, crowned, storeys, taken, sheared, products}

abbrev pub share_of : Storey → ℕ
share_of s = s.share

abbrev pub force_of : Storey → ℕ
force_of s = s.force

abbrev pub level_of : Storey → Level
level_of s = s.level

-- what a storey's level and height tell is kept when V0 is spread
module _ {Y : Type 0} (tell : Level → LevelHeight → Y) where
  abbrev told : Storey → Y
  told s = tell s.level s.height

  spread_keeps : (amount total : ℕ) (ss : List Storey) → map told (spread_from share_of taken amount total ss) ≡ map told ss
  spread_keeps amount total [] = refl
  spread_keeps amount total (s ∷ ss) = ap (λ (ys : List Y). told s ∷ ys) (spread_keeps amount total ss)

  crowned_keeps : (p : ℕ) (ss : List Storey) → map told (crowned p ss) ≡ map told ss
  crowned_keeps p [] = refl
  crowned_keeps p (s ∷ []) = refl
  crowned_keeps p (s ∷ t ∷ ss) = ap (λ (ys : List Y). told s ∷ ys) (crowned_keeps p (t ∷ ss))

  sheared_keeps : (amount : ℕ) (ls : List Level) → map told (sheared amount ls) ≡ map told (bare ls)
  sheared_keeps amount ls = spread_keeps amount (sum_by share_of (storeys ls)) (storeys ls) ∙ crowned_keeps (products ls) (bare ls)

bare_levels : (h : ℕ) (ls : List Level) → map level_of (storeys_from h ls) ≡ ls
bare_levels h [] = refl
bare_levels h (l ∷ ls) = ap (λ (ms : List Level). l ∷ ms) (bare_levels (h + l.height.0) ls)

-- a storey a level
pub levels_stand : (amount : ℕ) (ls : List Level) → map level_of (sheared amount ls) ≡ ls
levels_stand amount ls = sheared_keeps (λ l h. l) amount ls ∙ bare_levels 0 ls

-- the storey that stands over i others, n high
bare_at :
    (h i n : ℕ) (ls : List Level) (l : Level) → n ≡ h + height_of (take (suc i) ls) → slice_get ls i ≡ Some l
    → slice_get (storeys_from h ls) i ≡ Some (storey_of l n)
bare_at h i n [] l high e = cc
bare_at h zero n (x ∷ ls) l high e =
    let same : x ≡ l = cc in
    let low : h + x.height.0 ≡ n = omega arith in
    ap (λ (m : ℕ). Some (storey_of x m)) low ∙ ap (λ (y : Level). Some (storey_of y n)) same
bare_at h (suc i) n (x ∷ ls) l high e = bare_at (h + x.height.0) i n ls l (omega arith) e

-- the storey under the level that is over i others
pub record StandsAt (ls : List Level) (i : ℕ) (l : Level) (s : Storey) : Type 0 where
  pub level : s.level ≡ l
  pub height : s.height.0 ≡ level_height ls (i + 1)

pub storey_stands :
    (amount : ℕ) (ls : List Level) (i : ℕ) (l : Level) (s : Storey)
    → slice_get ls i ≡ Some l → slice_get (sheared amount ls) i ≡ Some s → StandsAt ls i l s
storey_stands amount ls i l s el es =
    let pair : Storey → Level × LevelHeight = λ (x : Storey). (x.level, x.height) in
    let kept = ap (λ (ps : List (Level × LevelHeight)). slice_get ps i) (sheared_keeps (λ m h. (m, h)) amount ls) in
    let same = sym (slice_get-map pair (sheared amount ls) i) ∙ kept ∙ slice_get-map pair (bare ls) i in
    let n = height_of (take (suc i) ls) in
    let was = bare_at 0 i n ls l (omega arith) el in
    let is : Some (pair s) ≡ Some (pair (storey_of l n)) = ap (option_map pair) (sym es) ∙ same ∙ ap (option_map pair) was in
    let both : pair s ≡ pair (storey_of l n) = cc in
    record {
      level = ap (λ (p : Level × LevelHeight). p.0) both;
      height = ap (λ (p : Level × LevelHeight). p.1.0) both ∙ ap (level_height ls) (sym (add-one i));
    }

-- the weights of the storeys are those of the levels
weights : (ss : List Storey) → sum_by weight ss ≡ weight_of (map level_of ss)
weights [] = refl
weights (s ∷ ss) = sum_by-cons weight s ss ∙ ap (λ (n : ℕ). weight s + n) (weights ss)

-- the weight from a level up
pub weights_stand : (amount : ℕ) (ls : List Level) (i : ℕ) → sum_by weight (drop i (sheared amount ls)) ≡ weight_of (drop i ls)
weights_stand amount ls i =
    weights (drop i (sheared amount ls))
    ∙ ap weight_of (sym (drop-map level_of i (sheared amount ls)) ∙ ap (drop i) (levels_stand amount ls))
