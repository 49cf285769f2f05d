-- One storey more onto what stands.
use Rattle.std.proofs.Common.{◌≡◌, ℕ, ◌+◌, ◌<◌, ◌≤◌, true, not, ltb, leb, List, [], ◌∷◌, ◌++◌, length, take, is_some, None, sym, ap, ◌∙◌, append_assoc, arith, length-append}
use Rattle.std.proofs.lemmas.Bool.{leb-false, lt-ltb, and_from, cond_both, cond-true}
use Rattle.records.specs.declared.level.Level.{Level}
use Rattle.frames.specs.declared.denial.FrameDenial.TheVariants.{TooManyLevels}
use Rattle.frames.specs.Levels.{height_of}
use Rattle.frames.specs.Steps.{stands, standing, stacked}
use Rattle.frames.specs.Additions.{add_denial}
use Rattle.frames.specs.Toppings.{own_count}
use Rattle.frames.specs.Cases.{one_none}
use Rattle.frames.specs.Lists.{total_append}
use Rattle.frames.specs.Stacks.{standing_take}

same_stands : {n m h k : ℕ} (l : Level) → n ≡ m → h ≡ k → stands n h l ≡ true → stands m k l ≡ true
same_stands {n} {m} {h} {k} l p q s = sym (ap (λ (x : ℕ). stands x h l) p ∙ ap (λ (y : ℕ). stands m y l) q) ∙ s

push : (n h : ℕ) (ls : List Level) (l : Level) → stands (n + length (standing n h ls)) (h + height_of (standing n h ls)) l ≡ true → standing n h (standing n h ls ++ l ∷ []) ≡ standing n h ls ++ l ∷ []
push n h [] l s = cond-true (stands n h l) _ _ (same_stands l (omega arith) (omega arith) s)
push n h (x ∷ xs) l s =
    cond_both (stands n h x) _ _ (λ (ys : List Level). stands (n + length ys) (h + height_of ys) l ≡ true → standing n h (ys ++ l ∷ []) ≡ ys ++ l ∷ [])
    (λ t s. cond-true (stands n h x) _ _ t ∙ ap (λ (ys : List Level). x ∷ ys) (push (n + 1) (h + x.height.0) xs l (same_stands l (omega arith) (omega arith) s)))
    (λ f s. cond-true (stands n h l) _ _ (same_stands l (omega arith) (omega arith) s))
    s

-- the list with a storey more, put over those of its own that stand
pub stacked_push : (ls own : List Level) (l : Level) → stands (length (stacked ls own)) (height_of (stacked ls own)) l ≡ true → stacked ls (take (length (standing (length ls) (height_of ls) own)) own ++ l ∷ []) ≡ stacked ls own ++ l ∷ []
stacked_push ls own l s =
    let k = standing (length ls) (height_of ls) own in
    let a : length (stacked ls own) ≡ length ls + length k = length-append ls k in
    let b : height_of (stacked ls own) ≡ height_of ls + height_of k = total_append (λ (x : Level). x.height.0) ls k in
    ap (λ (ys : List Level). ls ++ standing (length ls) (height_of ls) (ys ++ l ∷ [])) (sym (standing_take (length ls) (height_of ls) own))
    ∙ ap (λ (ys : List Level). ls ++ ys) (push (length ls) (height_of ls) own l (same_stands l a b s))
    ∙ sym (append_assoc ls k (l ∷ []))

pub record Addable (n s h : ℕ) (l : Level) : Type 0 where
  pub stands_there : stands n h l ≡ true
  pub own_room : s < 8

pub addable : (n s h : ℕ) (l : Level) → add_denial n s h l ≡ None → Addable n s h l
addable n s h l e =
    let p = one_none (leb 24 n) (TooManyLevels (n + 1)) _ e in
    let q = one_none (leb 8 s) (TooManyLevels (n + 1)) _ p.1 in
    record {
      stands_there = and_from (ltb n 24) _ (lt-ltb _ _ (leb-false _ _ p.0)) (ap (λ o. not (is_some o)) q.1);
      own_room = leb-false _ _ q.0;
    }

-- the storeys of its own that stand are what the whole list has over the list below
pub own_standing : (ls own : List Level) → length (standing (length ls) (height_of ls) own) ≡ own_count ls (stacked ls own)
own_standing ls own = omega (arith, length-append ls (standing (length ls) (height_of ls) own))

pub own_more : (ls whole after : List Level) (l : Level) → length ls ≤ length whole → after ≡ whole ++ l ∷ [] → own_count ls after ≡ own_count ls whole + 1
own_more ls whole after l p e = omega (arith, ap length e, length-append whole (l ∷ []))
