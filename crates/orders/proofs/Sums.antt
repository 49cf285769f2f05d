-- The loads of lines, and the sums that a table keeps of them.
use Rattle.std.proofs.Common.{◌≡◌, ◌≢◌, ℕ, ◌+◌, ◌-◌, ◌*◌, ◌<◌, ◌≤◌, true, false, nat_le, ◌==◌, ◌&&◌, List, [], ◌∷◌, ◌++◌, length, get_or, set, fold, ℤ, pos, negsuc, ◌+ℤ◌, ◌-ℤ◌, ◌≤ℤ◌, FitsSigned, w32, refl, sym, ap, ◌∙◌, ⊎_elim, arith, replicate, get_or-set_same, get_or-set_other}
use lib.IntN.{+ℤ_idr}
use Rattle.std.proofs.lemmas.Bool.{and_parts, and_from, both_ways, cases_eq, cond_both, cond-true, cond-false, eq-eqb, ne_eqb, leb-true}
use Rattle.std.proofs.lemmas.Int.{ints, to_z-of_z}
use Rattle.std.proofs.lemmas.List.{length-set, same_lists}
use Rattle.std.proofs.lemmas.List.Folds.{list_all-append}
use Rattle.std.proofs.lemmas.List.FromFn.{length-map-range_with_len, get_or-map-range_with_len}
use Rattle.records.specs.declared.line.Line.{Line}
use Rattle.orders.specs.Loads.{load_fits, load_on, loads_fit, standing}
use Rattle.orders.specs.Sums.{level_kept, levels_kept, put_on, sum_at, sums_of, taken_off}
use Rattle.orders.proofs.Judging.{passes_fits}
use Rattle.orders.proofs.Raising.{standing_more}

-- the loads of lines fit with one more that fits
pub fit_more : (lines : List Line) (x : Line) → loads_fit lines ≡ true → load_fits x.load ≡ true → loads_fit (lines ++ x ∷ []) ≡ true
fit_more [] x fit more = and_from (load_fits x.load) true more refl
fit_more (y ∷ lines) x fit more =
    let p = and_parts (load_fits y.load) _ fit in
    and_from (load_fits y.load) _ p.0 (fit_more lines x p.1 more)

-- and so do those of the lines before others
pub fit_front : (lines more : List Line) → loads_fit (lines ++ more) ≡ true → loads_fit lines ≡ true
fit_front [] more fit = refl
fit_front (x ∷ lines) more fit =
    let p = and_parts (load_fits x.load) _ fit in
    and_from (load_fits x.load) _ p.0 (fit_front lines more p.1)

-- the lines and the newest are on kept levels exactly where all are
kept_append : (lines : List Line) (x : Line) → levels_kept (lines ++ x ∷ []) ≡ (levels_kept lines && (level_kept x.level && true))
unfolding levels_kept
kept_append lines x = list_all-append (λ (y : Line). level_kept y.level) lines (x ∷ [])

-- the levels of lines are kept with one more that is
pub kept_more :
    (lines : List Line) (x : Line) → levels_kept lines ≡ true → level_kept x.level ≡ true → levels_kept (lines ++ x ∷ []) ≡ true
kept_more lines x kept more = kept_append lines x ∙ and_from (levels_kept lines) _ kept (and_from (level_kept x.level) true more refl)

-- and so are those of the lines before the newest
pub kept_front : (lines : List Line) (x : Line) → levels_kept (lines ++ x ∷ []) ≡ true → levels_kept lines ≡ true
kept_front lines x kept = (and_parts (levels_kept lines) _ (sym (kept_append lines x) ∙ kept)).0

-- and that of the newest
pub kept_newest : (lines : List Line) (x : Line) → levels_kept (lines ++ x ∷ []) ≡ true → level_kept x.level ≡ true
kept_newest lines x kept =
    (and_parts (level_kept x.level) true (and_parts (levels_kept lines) _ (sym (kept_append lines x) ∙ kept)).1).0

-- a sum that goes on with lines, those on level k
abbrev sum_from : ℕ → ℤ → List Line → ℤ
sum_from k z lines = fold (λ (sum : ℤ) (x : Line). sum +ℤ load_on k x) z lines

-- each line moves it by at most 5,000, either way
moved :
    (k : ℕ) (lines : List Line) (z : ℤ) → loads_fit lines ≡ true
    → (z ≤ℤ (sum_from k z lines +ℤ pos (5000 * length lines))) × (sum_from k z lines ≤ℤ (z +ℤ pos (5000 * length lines)))
moved k [] z fit = (omega (arith, ints), omega (arith, ints))
moved k (x ∷ lines) z fit =
    let p = and_parts (load_fits x.load) _ fit in
    let load = passes_fits x.load p.0 in
    let on : (negsuc 4999 ≤ℤ load_on k x) × (load_on k x ≤ℤ pos 5000) =
    cond_both (x.level == k) x.load (pos 0) (λ (y : ℤ). (negsuc 4999 ≤ℤ y) × (y ≤ℤ pos 5000))
    (λ _. (load.1, load.2)) (λ _. (omega (arith, ints), omega (arith, ints))) in
    let rest = moved k lines (z +ℤ load_on k x) p.1 in
    (omega (arith, ints, on.0, on.1, rest.0, rest.1), omega (arith, ints, on.0, on.1, rest.0, rest.1))

-- so what stands on a level under 64 lines is at least -320,000
standing_low : (k : ℕ) (lines : List Line) → loads_fit lines ≡ true → length lines ≤ 64 → negsuc 319999 ≤ℤ standing k lines
standing_low k lines fit few = omega (arith, ints, (moved k lines (pos 0) fit).0)

-- and at most 320,000
standing_high : (k : ℕ) (lines : List Line) → loads_fit lines ≡ true → length lines ≤ 64 → standing k lines ≤ℤ pos 320000
standing_high k lines fit few = omega (arith, ints, (moved k lines (pos 0) fit).1)

-- a sum goes on unmoved on a level that no line can name
unmoved : (k : ℕ) (lines : List Line) (z : ℤ) → levels_kept lines ≡ true → level_kept k ≡ false → sum_from k z lines ≡ z
unfolding levels_kept
unmoved k [] z kept off = refl
unmoved k (x ∷ lines) z kept off =
    let p = and_parts (level_kept x.level) _ kept in
    let other : x.level ≢ k = λ same. both_ways _ off (sym (ap level_kept same) ∙ p.0) in
    unmoved k lines (z +ℤ load_on k x) p.1 off
    ∙ ap (λ (y : ℤ). z +ℤ y) (cond-false (x.level == k) _ _ (ne_eqb x.level k other))
    ∙ +ℤ_idr z

-- so nothing stands there
pub standing_off : (k : ℕ) (lines : List Line) → levels_kept lines ≡ true → level_kept k ≡ false → standing k lines ≡ pos 0
standing_off k lines kept off = unmoved k lines (pos 0) kept off

-- one line more adds its load to what stands on its level
standing_own : (lines : List Line) (x : Line) → standing x.level (lines ++ x ∷ []) ≡ standing x.level lines +ℤ x.load
standing_own lines x =
    standing_more x.level lines x
    ∙ ap (λ (z : ℤ). standing x.level lines +ℤ z) (cond-true (x.level == x.level) x.load (pos 0) (eq-eqb x.level x.level refl))

-- and nothing to the others
standing_other : (k : ℕ) (lines : List Line) (x : Line) → k ≢ x.level → standing k (lines ++ x ∷ []) ≡ standing k lines
standing_other k lines x other =
    standing_more k lines x
    ∙ ap (λ (z : ℤ). standing k lines +ℤ z) (cond-false (x.level == k) x.load (pos 0) (ne_eqb x.level k (λ same. other (sym same))))
    ∙ +ℤ_idr (standing k lines)

-- a kept level has a number from 1 to 24
in_range : (k : ℕ) → level_kept k ≡ true → (1 ≤ k) × (k ≤ 24)
unfolding level_kept
in_range k kept = let p = and_parts (nat_le 1 k) (nat_le k 24) kept in (leb-true 1 k p.0, leb-true k 24 p.1)

-- there are 24 sums
many_sums : (lines : List Line) → length (sums_of lines) ≡ 24
unfolding sums_of
many_sums lines = length-map-range_with_len (λ k. standing k lines) 1 24

-- the one that has j before it is that of level j + 1
nth_sum : (j : ℕ) (lines : List Line) (d : ℤ) → j < 24 → get_or (sums_of lines) j d ≡ standing (j + 1) lines
unfolding sums_of
nth_sum j lines d h = get_or-map-range_with_len (λ k. standing k lines) 1 24 j (j + 1) d h (omega arith)

-- the sum of a level is what stands on it
pub sum_is : (k : ℕ) (lines : List Line) → level_kept k ≡ true → sum_at k (sums_of lines) ≡ standing k lines
unfolding sum_at
sum_is k lines kept =
    let r = in_range k kept in
    let next : k - 1 + 1 ≡ k = omega (arith, r.0) in
    nth_sum (k - 1) lines (pos 0) (omega (arith, r.0, r.1)) ∙ ap (λ (j : ℕ). standing j lines) next

-- it is at least -320,000
pub sum_low :
    (k : ℕ) (lines : List Line) → loads_fit lines ≡ true → length lines ≤ 64 → level_kept k ≡ true
    → negsuc 319999 ≤ℤ sum_at k (sums_of lines)
sum_low k lines fit few kept = omega (arith, ints, sum_is k lines kept, standing_low k lines fit few)

-- and at most 320,000
pub sum_high :
    (k : ℕ) (lines : List Line) → loads_fit lines ≡ true → length lines ≤ 64 → level_kept k ≡ true
    → sum_at k (sums_of lines) ≤ℤ pos 320000
sum_high k lines fit few kept = omega (arith, ints, sum_is k lines kept, standing_high k lines fit few)

-- what a table tells of a level
pub ruleset told_of_level = (sum_is, sum_low, sum_high, standing_off, to_z-of_z)

-- without lines each sum is 0
pub no_sums : (lines : List Line) → lines ≡ [] → replicate 24 (pos 0) ≡ sums_of lines
unfolding sums_of
no_sums lines none = sym (ap sums_of none)

-- and each line is on a kept level, as there is none
pub kept_none : (lines : List Line) → lines ≡ [] → levels_kept lines ≡ true
unfolding levels_kept
kept_none lines none = ap levels_kept none

-- a table with no line
pub ruleset no_line = (no_sums, kept_none)

-- where the sum of level k is written, and the lines are others on that level alone, all sums are those of the new lines
module _ (k : ℕ) (z : ℤ) (before after : List Line) (kept : level_kept k ≡ true) where
  -- the sums as they are then
  abbrev sums : List ℤ
  sums = set (sums_of before) (k - 1) z

  -- each of them
  nth_written :
      z ≡ standing k after → ((j : ℕ) → j ≢ k → standing j before ≡ standing j after)
      → (j : ℕ) (d : ℤ) → j < 24 → get_or sums j d ≡ standing (j + 1) after
  nth_written own others j d h =
      let r = in_range k kept in
      let within : k - 1 < length (sums_of before) = omega (arith, r.0, r.1, many_sums before) in
      ⊎_elim
      (λ (same : j ≡ k - 1).
      let up : k ≡ j + 1 = omega (arith, r.0, same) in
      ap (λ (i : ℕ). get_or sums i d) same
      ∙ get_or-set_same (sums_of before) (k - 1) z d within ∙ own ∙ ap (λ (i : ℕ). standing i after) up)
      (λ (other : j ≢ k - 1).
      get_or-set_other (sums_of before) (k - 1) j z d other
      ∙ nth_sum j before d h ∙ others (j + 1) (λ up. other (omega (arith, r.0, up))))
      (cases_eq j (k - 1))

  -- so all are
  written : z ≡ standing k after → ((j : ℕ) → j ≢ k → standing j before ≡ standing j after) → sums ≡ sums_of after
  written own others =
      let many = length-set (sums_of before) (k - 1) z in
      same_lists sums (sums_of after)
      (many ∙ many_sums before ∙ sym (many_sums after))
      (λ j d h.
      let few : j < 24 = omega (arith, h, many, many_sums before) in
      nth_written own others j d few ∙ sym (nth_sum j after d few))

-- a line that is put on is added to the sum of its level
pub sums_more : (lines : List Line) (x : Line) → level_kept x.level ≡ true → put_on x (sums_of lines) ≡ sums_of (lines ++ x ∷ [])
unfolding put_on
sums_more lines x kept =
    written x.level (sum_at x.level (sums_of lines) +ℤ x.load) lines (lines ++ x ∷ []) kept
    (ap (λ (z : ℤ). z +ℤ x.load) (sum_is x.level lines kept) ∙ sym (standing_own lines x))
    (λ j other. sym (standing_other j lines x other))

-- and one that is taken off is taken from it
pub sums_front : (lines : List Line) (x : Line) → level_kept x.level ≡ true → taken_off x (sums_of (lines ++ x ∷ [])) ≡ sums_of lines
unfolding taken_off
sums_front lines x kept =
    written x.level (sum_at x.level (sums_of (lines ++ x ∷ [])) -ℤ x.load) (lines ++ x ∷ []) lines kept
    (omega (arith, ints, sum_is x.level (lines ++ x ∷ []) kept, standing_own lines x))
    (λ j other. standing_other j lines x other)

-- a sum has room for a line that is put on
pub room_more :
    (lines : List Line) (x : Line) → loads_fit lines ≡ true → load_fits x.load ≡ true → length lines ≤ 64 → level_kept x.level ≡ true
    → FitsSigned w32 (sum_at x.level (sums_of lines) +ℤ x.load)
room_more lines x fit more few kept =
    let load = passes_fits x.load more in
    omega (arith, ints, sum_low x.level lines fit few kept, sum_high x.level lines fit few kept, load.1, load.2)

-- and for one that is taken off
pub room_front :
    (lines : List Line) (x : Line) → loads_fit (lines ++ x ∷ []) ≡ true → length lines ≤ 64 → level_kept x.level ≡ true
    → FitsSigned w32 (sum_at x.level (sums_of (lines ++ x ∷ [])) -ℤ x.load)
room_front lines x fit few kept =
    let older = fit_front lines (x ∷ []) fit in
    let low = standing_low x.level lines older few in
    let high = standing_high x.level lines older few in
    omega (arith, ints, sum_is x.level (lines ++ x ∷ []) kept, standing_own lines x, low, high)

-- a table with one line more
pub ruleset one_more = (fit_more, kept_more, sums_more, room_more)

-- a table without its newest line
pub ruleset one_less = (fit_front, kept_front, kept_newest, sums_front, room_front)
