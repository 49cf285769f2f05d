-- The shares of a frame's storeys, and that V0 can be spread by them.
use Rattle.std.proofs.Common.{◌≡◌, ℕ, zero, suc, ◌+◌, ◌-◌, ◌*◌, ◌^◌, ◌<◌, ◌≤◌, List, [], ◌∷◌, length, drop, get_or, set, sum_by, sym, refl, ap, ◌∙◌, subst, arith}
use Rattle.std.proofs.Math.Nat.{mul-le-mul}
use Rattle.std.proofs.lemmas.List.Sums.{sum_by-cons, get_or-le-sum_by}
use Rattle.records.specs.declared.level.Level.{Level}
use Rattle.frames.specs.Levels.{Sound, level_height}
use Rattle.frames.specs.Lists.{limits}
use Rattle.seismic.specs.declared.storey.Storey.{Storey}
use Rattle.seismic.specs.Laws.{shares_from, weights_times_heights}
use Rattle.seismic.specs.Storeys.{bare, crowned, product, products, storey_of, storeys, storeys_from}
use Rattle.seismic.proofs.Standing.{length_storeys, products_most}
use Rattle.seismic.proofs.StoreyPlaces.{share_of}
use Rattle.seismic.proofs.StoreyShears.{some_share}

-- the top's share is among those summed
pub top_within :
    (ss : List Storey) (more : ℕ) (d : Storey) → 0 < length ss → sum_by share_of ss + more < 2 ^ 64
    → (get_or ss (length ss - 1) d).share + more < 2 ^ 64
top_within ss more d some fits = omega (arith, get_or-le-sum_by share_of ss (length ss - 1) d (omega (arith, some)))

-- with its share raised, they are crowned
crowned_at :
    (p n : ℕ) (ss : List Storey) (d : Storey) → length ss ≡ suc n
    → set ss n (record (get_or ss n d) { share = (get_or ss n d).share + p }) ≡ crowned p ss
crowned_at p n [] d long = absurd (omega (arith, long))
crowned_at p zero (s ∷ []) d long = refl
crowned_at p (suc n) (s ∷ []) d long = absurd (omega (arith, long))
crowned_at p zero (s ∷ t ∷ ss) d long = absurd (omega (arith, long))
crowned_at p (suc n) (s ∷ t ∷ ss) d long = ap (λ (xs : List Storey). s ∷ xs) (crowned_at p n (t ∷ ss) d (omega (arith, long)))

pub top_crowned :
    (p : ℕ) (ss : List Storey) (d : Storey) → 0 < length ss
    → set ss (length ss - 1) (record (get_or ss (length ss - 1) d) { share = (get_or ss (length ss - 1) d).share + p }) ≡ crowned p ss
top_crowned p ss d some = crowned_at p (length ss - 1) ss d (omega (arith, some))

-- before the top has more, the shares are 19 times the products
bare_shares : (h : ℕ) (ls : List Level) → sum_by share_of (storeys_from h ls) ≡ 19 * sum_by product (storeys_from h ls)
bare_shares h [] = refl
bare_shares h (l ∷ ls) =
    let s = storey_of l (h + l.height.0) in
    let rest = storeys_from (h + l.height.0) ls in
    omega (arith, sum_by-cons share_of s rest, sum_by-cons product s rest, bare_shares (h + l.height.0) ls)

crowned_shares : (p : ℕ) (ss : List Storey) → 0 < length ss → sum_by share_of (crowned p ss) ≡ sum_by share_of ss + p
crowned_shares p [] some = absurd (omega arith)
crowned_shares p (s ∷ []) some = omega arith
crowned_shares p (s ∷ t ∷ ss) some = omega (arith, sum_by-cons share_of s (t ∷ ss), sum_by-cons share_of s (crowned p (t ∷ ss)), crowned_shares p (t ∷ ss) (omega arith))

-- with p more at the top, they are greater by p
all_shares :
    (p h : ℕ) (ls : List Level) → 0 < length ls
    → sum_by share_of (crowned p (storeys_from h ls)) ≡ 19 * sum_by product (storeys_from h ls) + p
all_shares p h ls some = omega (arith, crowned_shares p (storeys_from h ls) (omega (arith, some, length_storeys h ls)), bare_shares h ls)

-- the sum of weight × H, told by levels
products_by_levels : (h : ℕ) (ls : List Level) → sum_by product (storeys_from h ls) ≡ weights_times_heights h ls
products_by_levels h [] = refl
products_by_levels h (l ∷ ls) =
    let s = storey_of l (h + l.height.0) in
    let rest = storeys_from (h + l.height.0) ls in
    omega (arith, sum_by-cons product s rest, products_by_levels (h + l.height.0) ls)

-- the shares from the storey over i others up, which begins at the height n
shares_over :
    (p h n i : ℕ) (ls : List Level) → n ≡ h + level_height ls i → i < length ls
    → sum_by share_of (drop i (crowned p (storeys_from h ls))) ≡ 19 * weights_times_heights n (drop i ls) + p
shares_over p h n i [] begin within = absurd (omega (arith, within))
shares_over p h n zero (l ∷ ls) begin within =
    let here : h ≡ n = omega (arith, begin) in
    all_shares p h (l ∷ ls) within ∙ ap (λ (k : ℕ). 19 * k + p) (products_by_levels h (l ∷ ls) ∙ ap (λ (k : ℕ). weights_times_heights k (l ∷ ls)) here)
shares_over p h n (suc i) (l ∷ []) begin within = absurd (omega (arith, within))
shares_over p h n (suc i) (l ∷ m ∷ ls) begin within = shares_over p (h + l.height.0) n i (m ∷ ls) (omega (arith, begin)) (omega (arith, within))

-- the same, of a frame's storeys
pub shares_by_levels : (ls : List Level) (i : ℕ) → i < length ls → sum_by share_of (drop i (storeys ls)) ≡ shares_from ls i
shares_by_levels ls i within =
    let n = level_height ls i in
    shares_over (products ls) 0 n i ls (omega arith) within ∙ ap (λ (p : ℕ). 19 * weights_times_heights n (drop i ls) + p) (products_by_levels 0 ls)

pub shares_fit : (ls : List Level) (out : List Storey) (p : ℕ) → Sound ls → out ≡ bare ls → p ≡ products ls → sum_by share_of out + p < 2 ^ 64
shares_fit ls out p sound eo ep = omega (arith, ap (sum_by share_of) eo, bare_shares 0 ls, ep, products_most ls sound)

module _ (ls : List Level) (ss : List Storey) (is : ss ≡ storeys ls) (some : 0 < length ls) (sound : Sound ls) where
  pub some_shares : 0 < sum_by share_of ss
  some_shares = subst (λ (xs : List Storey). 0 < sum_by share_of xs) (sym is) (some_share (products ls) 0 ls some (limits ls sound).each)

  -- 20 times P
  pub few_shares : sum_by share_of ss ≤ 1200000000
  few_shares = omega (arith, ap (sum_by share_of) is, all_shares (products ls) 0 ls some, products_most ls sound)

-- V0 times the shares
pub spread_fits : (v total : ℕ) → v ≤ 12000000 → total ≤ 1200000000 → v * total < 2 ^ 64
spread_fits v total low few = omega (arith, mul-le-mul low few)
