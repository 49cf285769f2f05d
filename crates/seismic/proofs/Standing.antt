-- The storeys of a frame's levels, one after another.
use Rattle.std.proofs.Common.{◌≡◌, ℕ, zero, suc, ◌+◌, ◌*◌, ◌<◌, ◌≤◌, true, List, [], ◌∷◌, ◌++◌, length, length-drop, take, drop, get_or, set, sum_by, Some, sym, refl, ap, ◌∙◌, subst, add-one, take_all, arith}
use Rattle.std.proofs.Math.Nat.{mul-le-mul_left}
use Rattle.std.proofs.lemmas.Bool.{and_parts}
use Rattle.std.proofs.lemmas.List.{take_more, take_more_set}
use Rattle.std.proofs.lemmas.List.Sums.{sum_by-cons, sum_by_more, sum_by-take-le}
use Rattle.records.specs.declared.level.Level.{Level}
use Rattle.records.specs.Ranges.{level_fits}
use Rattle.frames.specs.Levels.{Sound, all_fit, from_bottom, level_at, level_height, height_of, weight_of}
use Rattle.frames.specs.Lists.{limits, total_more, total_take, total_within}
use Rattle.seismic.specs.declared.storey.Storey.{Storey}
use Rattle.seismic.specs.Storeys.{bare, product, products, storey_of, storeys_from}

fits_over : (ls : List Level) (n : ℕ) (l : Level) → all_fit ls ≡ true → from_bottom ls n ≡ Some l → level_fits l ≡ true
fits_over [] n l fit e = cc
fits_over (x ∷ xs) zero l fit e = let same : x ≡ l = cc in ap level_fits (sym same) ∙ (and_parts (level_fits x) (all_fit xs) fit).0
fits_over (x ∷ xs) (suc n) l fit e = fits_over xs n l (and_parts (level_fits x) (all_fit xs) fit).1 e

-- the storey over n others
storey_over :
    (h : ℕ) (ls : List Level) (n : ℕ) (l : Level) (d : Storey) → from_bottom ls n ≡ Some l
    → get_or (storeys_from h ls) n d ≡ storey_of l (h + height_of (take (suc n) ls))
storey_over h [] n l d e = cc
storey_over h (x ∷ xs) zero l d e =
    let same : x ≡ l = cc in
    ap (λ (y : Level). storey_of y (h + x.height.0)) same ∙ ap (storey_of l) (omega arith)
storey_over h (x ∷ xs) (suc n) l d e = storey_over (h + x.height.0) xs n l d e ∙ ap (storey_of l) (omega arith)

pub length_storeys : (h : ℕ) (ls : List Level) → length (storeys_from h ls) ≡ length ls
length_storeys h [] = refl
length_storeys h (l ∷ ls) = ap suc (length_storeys (h + l.height.0) ls)

-- weight × H is at most 500 times the weight
products_by_weight : (h : ℕ) (ls : List Level) → h + height_of ls ≤ 500 → sum_by product (storeys_from h ls) ≤ 500 * weight_of ls
products_by_weight h [] low = omega arith
products_by_weight h (l ∷ ls) low =
    let s = storey_of l (h + l.height.0) in
    let here : l.weight * (h + l.height.0) ≤ l.weight * 500 = mul-le-mul_left l.weight (omega (arith, low)) in
    omega (arith, here, sum_by-cons product s (storeys_from (h + l.height.0) ls), products_by_weight (h + l.height.0) ls (omega (arith, low)))

-- P of a frame
pub products_most : (ls : List Level) → Sound ls → products ls ≤ 60000000
products_most ls sound =
    let low : 0 + height_of ls ≤ 500 = omega (arith, (limits ls sound).low) in
    omega (arith, (limits ls sound).light, products_by_weight 0 ls low)

-- the storeys of the first n levels stand, with the sums over them
pub record StoodTo (ls : List Level) (n weight p : ℕ) (out : List Storey) : Type 0 where
  pub weighed : weight ≡ weight_of (take n ls)
  pub summed : p ≡ sum_by product (take n (bare ls))
  pub list : take n out ≡ take n (bare ls)

-- what the level over n others needs, and brings
pub record Next (ls : List Level) (n weight p : ℕ) (l : Level) (height : ℕ) : Type 0 where
  pub fits : level_fits l ≡ true
  pub low : height ≤ 500
  pub light : weight + l.weight ≤ 120000
  pub little : p + l.weight * height ≤ 60000000

-- the storeys stand up to the level l over n others, at this height
pub record Turn (ls : List Level) (n weight p : ℕ) (l : Level) (height : ℕ) (out : List Storey) : Type 0 where
  pub sound : Sound ls
  pub stood : StoodTo ls n weight p out
  pub at : level_at ls (n + 1) ≡ Some l
  pub high : height ≡ level_height ls (n + 1)
  pub inside : n + 1 ≤ length ls
  pub long : length out ≡ length ls

module _ {ls : List Level} {n weight p height : ℕ} {l : Level} {out : List Storey} (t : Turn ls n weight p l height out) where
  over : from_bottom ls n ≡ Some l
  over = ap (level_at ls) (sym (add-one n)) ∙ t.at

  here : (d : Storey) → get_or (bare ls) n d ≡ storey_of l height
  here d = storey_over 0 ls n l d over ∙ ap (storey_of l) (omega (arith, t.high, ap (λ (k : ℕ). height_of (take k ls)) (add-one n)))

  within : n < length (bare ls)
  within = omega (arith, t.inside, length_storeys 0 ls)

  summed_more : sum_by product (take (n + 1) (bare ls)) ≡ p + l.weight * height
  summed_more =
      let d = storey_of l height in
      omega (arith, t.stood.summed, sum_by_more product (bare ls) n d within, ap product (here d))

  pub next_storey : Next ls n weight p l height
  next_storey =
      let m = limits ls t.sound in
      record {
        fits = fits_over ls n l m.each over;
        low = omega (arith, t.high, m.low, total_take (λ (x : Level). x.height.0) ls (n + 1));
        light = omega (arith, t.stood.weighed, m.light, total_within (λ (x : Level). x.weight) ls n l t.at);
        little = omega (arith, summed_more, sum_by-take-le product (bare ls) (n + 1), products_most ls t.sound);
      }

  pub stood_more : StoodTo ls (n + 1) (weight + l.weight) (p + l.weight * height) (set out n (storey_of l height))
  stood_more =
      let y = storey_of l height in
      record {
        weighed = omega (arith, t.stood.weighed, total_more (λ (x : Level). x.weight) ls n l t.at);
        summed = sym summed_more;
        list =
            take_more_set out n y (omega (arith, t.long, t.inside)) ∙ ap (λ (xs : List Storey). xs ++ y ∷ []) t.stood.list
            ∙ ap (λ (s : Storey). take n (bare ls) ++ s ∷ []) (sym (here y)) ∙ sym (take_more (bare ls) n y within);
      }

  -- the same, with the place, the storey and its product told by other names
  pub stood_by :
      (m b q : ℕ) (y : Storey) → m ≡ n + 1 → b ≡ n → q ≡ product y → y ≡ storey_of l height
      → StoodTo ls m (weight + l.weight) (p + q) (set out b y)
  stood_by m b q y em eb eq ey =
      subst (λ (k : ℕ). StoodTo ls k (weight + l.weight) (p + q) (set out b y)) (sym em)
      (subst (λ (k : ℕ). StoodTo ls (n + 1) (weight + l.weight) (p + q) (set out k y)) (sym eb)
      (subst (λ (z : Storey). StoodTo ls (n + 1) (weight + l.weight) (p + q) (set out n z)) (sym ey)
      (subst (λ (k : ℕ). StoodTo ls (n + 1) (weight + l.weight) (p + k) (set out n (storey_of l height))) (sym (eq ∙ ap product ey)) stood_more)))

-- all of them stand
pub all_stood :
    (ls : List Level) (n weight p : ℕ) (out : List Storey) → drop n ls ≡ [] → length out ≡ length ls → StoodTo ls n weight p out
    → (out ≡ bare ls) × (weight ≡ weight_of ls) × (p ≡ products ls)
all_stood ls n weight p out none long stood = let all : length ls ≤ n = omega (arith, ap length none, length-drop n ls) in (
  sym (take_all n out (omega (arith, all, long))) ∙ stood.list ∙ take_all n (bare ls) (omega (arith, all, length_storeys 0 ls)),
  stood.weighed ∙ ap weight_of (take_all n ls all),
  stood.summed ∙ ap (sum_by product) (take_all n (bare ls) (omega (arith, all, length_storeys 0 ls))),
)
