-- The levels of an order keep a frame's limits, with the lines that stand and with the oldest of them.
use Rattle.std.proofs.Common.{◌≡◌, ℕ, zero, suc, ◌+◌, true, nat_le, ◌<◌, ◌≤◌, List, [], ◌∷◌, ◌++◌, length, take, drop, pos, ◌+ℤ◌, Some, None, Ok, refl, sym, ap, ◌∙◌, subst, ⊎_elim, arith, option_map, length-append, take_all, take_at, take-append-drop}
use Rattle.std.proofs.lemmas.Bool.{and_from, and_parts, cases_lt, le-leb, leb-true}
use Rattle.std.proofs.lemmas.List.{take-append-le}
use Rattle.records.specs.declared.level.Level.{Level}
use Rattle.records.specs.declared.line.Line.{Line}
use Rattle.records.specs.Ranges.{weight_fits, level_fits}
use Rattle.frames.specs.Levels.{Sound, all_fit, from_bottom, level_at}
use Rattle.frames.specs.Lists.{limits}
use Rattle.orders.specs.Calls.{load_denial}
use Rattle.orders.specs.Loads.{loaded, natural, raised, standing}
use Rattle.orders.specs.Sums.{level_kept}
use Rattle.orders.proofs.Judging.{borne, loads_when}
use Rattle.orders.proofs.Raising.{raised_at, raised_by_none, raised_length, sound_more}

-- with the oldest n of some lines, for every n
abbrev pub Bearing : List Line → List Level → Type 0
Bearing lines ls = (n : ℕ) → Sound (raised (take n lines) ls)

-- it is enough to know which lines are meant
with_lines : (ls : List Level) (xs ys : List Line) → xs ≡ ys → Sound (raised xs ls) → Sound (raised ys ls)
with_lines ls xs ys e sound = subst (λ (zs : List Line). Sound (raised zs ls)) e sound

-- with all of them
pub all_borne : (ls : List Level) (lines : List Line) → Bearing lines ls → Sound (raised lines ls)
all_borne ls lines bearing = with_lines ls (take (length lines) lines) lines (take_all (length lines) lines (omega arith)) (bearing (length lines))

-- a frame bears no lines
pub bears_none : (ls : List Level) (lines : List Line) → Sound ls → lines ≡ [] → Bearing lines ls
bears_none ls lines sound e n =
    with_lines ls [] (take n lines) (sym (take_all n lines (omega (arith, ap length e)) ∙ e))
    (subst (λ (xs : List Level). Sound xs) (sym (raised_by_none ls)) sound)

-- what is borne with more lines is borne with the older of them
pub bears_front : (ls : List Level) (lines older more : List Line) → Bearing lines ls → lines ≡ older ++ more → Bearing older ls
bears_front ls lines older more bearing e n =
    ⊎_elim
    (λ (few : n < length older). with_lines ls (take n lines) (take n older) (ap (take n) e ∙ take-append-le n older more (omega (arith, few))) (bearing n))
    (λ (all : length older ≤ n).
    with_lines ls (take (length older) lines) (take n older)
    (ap (take (length older)) e ∙ take_at older more (length older) refl ∙ sym (take_all n older all)) (bearing (length older)))
    (cases_lt n (length older))

-- and with the oldest k
pub bears_fewer : (ls : List Level) (lines : List Line) (k : ℕ) → Bearing lines ls → Bearing (take k lines) ls
bears_fewer ls lines k bearing = bears_front ls lines (take k lines) (drop k lines) bearing (sym (take-append-drop k lines))

-- and with one more that nothing stands against
pub bears_more : (ls : List Level) (lines after : List Line) (x : Line) → Bearing lines ls → load_denial ls lines x ≡ None → after ≡ lines ++ x ∷ [] → Bearing after ls
bears_more ls lines after x bearing accepted e n =
    ⊎_elim
    (λ (few : n < length lines + 1).
    with_lines ls (take n lines) (take n after) (sym (ap (take n) e ∙ take-append-le n lines (x ∷ []) (omega (arith, few)))) (bearing n))
    (λ (all : length lines + 1 ≤ n).
    with_lines ls (lines ++ x ∷ []) (take n after)
    (sym (take_all n after (omega (arith, all, ap length e, length-append lines (x ∷ []))) ∙ e))
    (sound_more lines x ls (all_borne ls lines bearing) (λ l p. borne ls lines x l accepted p)))
    (cases_lt n (length lines + 1))

-- a line that nothing stands against is on a level that a frame may have
pub placed : (ls : List Level) (lines : List Line) (x : Line) → Bearing lines ls → load_denial ls lines x ≡ None → level_kept x.level ≡ true
unfolding level_kept
placed ls lines x bearing accepted =
    let there = (loads_when ls lines x (Ok tt) accepted).0 in
    let few = (limits (raised [] ls) (bearing 0)).few in
    and_from (nat_le 1 x.level) _ (le-leb 1 x.level there.0) (le-leb x.level 24 (omega (arith, there.1, few, raised_length [] ls)))

light_from : (ls : List Level) (i : ℕ) (l : Level) → all_fit ls ≡ true → from_bottom ls i ≡ Some l → l.weight ≤ 5000
light_from [] i l fit e = cc
light_from (x ∷ ls) zero l fit e =
    let same : x ≡ l = cc in
    let w = (and_parts (weight_fits x.weight) _ (and_parts (level_fits x) _ fit).0).0 in
    subst (λ (y : Level). y.weight ≤ 5000) same (leb-true x.weight 5000 (and_parts (nat_le 1 x.weight) _ w).1)
light_from (x ∷ ls) (suc i) l fit e = light_from ls i l (and_parts (level_fits x) _ fit).1 e

-- no level of a frame weighs more than 5,000
light_level : (ls : List Level) (k : ℕ) (l : Level) → Sound ls → level_at ls k ≡ Some l → l.weight ≤ 5000
light_level ls zero l sound e = cc
light_level ls (suc i) l sound e = light_from ls i l (limits ls sound).each e

-- level k as it is told, where the frame has one, and where it has none
pub told : (ls : List Level) (lines : List Line) (k : ℕ) (l : Level) → level_at ls k ≡ Some l → level_at (raised lines ls) k ≡ Some (loaded (standing k lines) l)
told ls lines k l e = raised_at lines ls k ∙ ap (λ o. option_map (loaded (standing k lines)) o) e

pub not_told : (ls : List Level) (lines : List Line) (k : ℕ) → level_at ls k ≡ None → level_at (raised lines ls) k ≡ None
not_told ls lines k e = raised_at lines ls k ∙ ap (λ o. option_map (loaded (standing k lines)) o) e

-- a level that is told weighs at most 5,000 with the loads on it
pub light : (ls : List Level) (lines : List Line) (k : ℕ) (l : Level) → Bearing lines ls → level_at ls k ≡ Some l → natural (pos l.weight +ℤ standing k lines) ≤ 5000
light ls lines k l bearing e = light_level (raised lines ls) k (loaded (standing k lines) l) (all_borne ls lines bearing) (told ls lines k l e)
