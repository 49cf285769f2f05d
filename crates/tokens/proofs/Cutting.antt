-- What stands before the first byte c and after it, also where a text is cut short.
use Rattle.std.proofs.Common.{◌≡◌, ℕ, zero, suc, ◌+◌, ◌-◌, ◌<◌, ◌≤◌, Bool, true, false, cond, not, ◌&&◌, eqb, ltb, List, [], ◌∷◌, ◌++◌, length, take, drop, Some, None, Option, sym, refl, ap, ◌∙◌, subst, one-add, arith, length-append, take_all}
use lib.Seq.{take-append-le, take-append-add, take-append_seam, drop-append-add}
use Rattle.std.specs.List.{position}
use Rattle.std.specs.Option.{option_map}
use Rattle.std.proofs.lemmas.Bool.Decides.{nat_tests}
use Rattle.std.proofs.lemmas.Bool.{cond-true, cond-false, eqb-true, lt-ltb, le-ltb, ltb-true}
use Rattle.std.proofs.lemmas.List.Sums.{split_at_first, passes_at_first}
use Rattle.std.proofs.lemmas.Option.{cond_some}
use Rattle.tokens.specs.Cuts.{ahead, cut_at}

-- cut where `position` finds c, or not at all
pub cut_at-position : (c : ℕ) (bs : List ℕ) (r : Option ℕ) → r ≡ position (λ b. eqb b c) bs → cut_at c bs ≡ option_map (λ n. (take n bs, drop (n + 1) bs)) r
cut_at-position c bs r e = inside (λ n. (take n bs, drop (n + 1) bs)) (ltb (ahead c bs) (length bs)) (ahead c bs) ∙ ap (option_map (λ n. (take n bs, drop (n + 1) bs))) (sym e)
  where
    inside : {A B : Type 0} (f : A → B) (t : Bool) (x : A) → cond t (Some (f x)) None ≡ option_map f (cond t (Some x) None)
    inside f true x = refl
    inside f false x = refl

-- a text without the byte c
abbrev pub lacks : ℕ → List ℕ → Bool
lacks c [] = true
lacks c (b ∷ bs) = not (eqb b c) && lacks c bs

pub lacks-++ : (c : ℕ) (xs ys : List ℕ) → lacks c xs ≡ true → lacks c ys ≡ true → lacks c (xs ++ ys) ≡ true
lacks-++ c [] ys h k = k
lacks-++ c (x ∷ xs) ys h k = grind (arith, nat_tests, lacks-++ c xs ys)

take_lacks : (c k : ℕ) (bs : List ℕ) → lacks c bs ≡ true → lacks c (take k bs) ≡ true
take_lacks c zero bs h = refl
take_lacks c (suc k) [] h = refl
take_lacks c (suc k) (b ∷ bs) h = grind (arith, nat_tests, take_lacks c k bs)

ahead_all : (c : ℕ) (xs : List ℕ) → lacks c xs ≡ true → ahead c xs ≡ length xs
ahead_all c [] h = refl
ahead_all c (x ∷ xs) h = grind (arith, nat_tests, ahead_all c xs)

ahead_here : (c : ℕ) (xs ys : List ℕ) → lacks c xs ≡ true → ahead c (xs ++ (c ∷ ys)) ≡ length xs
ahead_here c [] ys h = grind (arith, nat_tests)
ahead_here c (x ∷ xs) ys h = grind (arith, nat_tests, ahead_here c xs ys)

ahead_lacks : (c : ℕ) (bs : List ℕ) → lacks c (take (ahead c bs) bs) ≡ true
ahead_lacks c [] = refl
ahead_lacks c (b ∷ bs) = cases (eqb b c) refl (ahead_lacks c bs)
  where
    cases : (t : Bool) → eqb b c ≡ t → lacks c (take (ahead c bs) bs) ≡ true → lacks c (take (cond (not t) (1 + ahead c bs) 0) (b ∷ bs)) ≡ true
    cases true e h = refl
    cases false e h = subst (λ k. lacks c (take k (b ∷ bs)) ≡ true) (sym (one-add _)) (grind (arith, nat_tests))

-- where there is no c
pub cut_none : (c : ℕ) (xs : List ℕ) → lacks c xs ≡ true → cut_at c xs ≡ None
cut_none c xs h = cond-false (ltb (ahead c xs) (length xs)) _ None (le-ltb _ _ (omega (arith, ahead_all c xs h)))

-- at the first c
pub cut_here : (c : ℕ) (xs ys : List ℕ) → lacks c xs ≡ true → cut_at c (xs ++ (c ∷ ys)) ≡ Some (xs, ys)
cut_here c xs ys h =
    let e = ahead_here c xs ys h in
    cond-true (ltb (ahead c (xs ++ (c ∷ ys))) (length (xs ++ (c ∷ ys)))) _ None (lt-ltb _ _ (omega (arith, e, length-append xs (c ∷ ys))))
    ∙ ap (λ k. Some (take k (xs ++ (c ∷ ys)), drop (k + 1) (xs ++ (c ∷ ys)))) e
    ∙ ap (λ t. Some (t, drop (length xs + 1) (xs ++ (c ∷ ys)))) (take-append_seam xs (c ∷ ys))
    ∙ ap (λ t. Some (xs, t)) (drop-append-add xs (c ∷ ys) 1)

-- the bytes before the first c, c, and the bytes after it
parts : (c : ℕ) (bs : List ℕ) → ahead c bs < length bs → bs ≡ take (ahead c bs) bs ++ (c ∷ drop (ahead c bs + 1) bs)
parts c bs h = split_at_first (λ b. eqb b c) bs 0 h ∙ ap (λ b. take (ahead c bs) bs ++ (b ∷ drop (ahead c bs + 1) bs)) (eqb-true _ c (passes_at_first (λ b. eqb b c) bs 0 h))

-- what is cut is put together again
pub cut_back : (c : ℕ) (bs : List ℕ) (p : List ℕ × List ℕ) → cut_at c bs ≡ Some p → bs ≡ p.0 ++ (c ∷ p.1)
cut_back c bs p h =
    let q = cond_some (ltb (ahead c bs) (length bs)) _ p h in
    parts c bs (ltb-true _ _ q.0) ∙ ap (λ r. r.0 ++ (c ∷ r.1)) q.1

cut_lacks : (c : ℕ) (bs : List ℕ) (p : List ℕ × List ℕ) → cut_at c bs ≡ Some p → lacks c p.0 ≡ true
cut_lacks c bs p h =
    let q = cond_some (ltb (ahead c bs) (length bs)) _ p h in
    subst (λ t. lacks c t.0 ≡ true) q.1 (ahead_lacks c bs)

none_lacks : (c : ℕ) (bs : List ℕ) → cut_at c bs ≡ None → lacks c bs ≡ true
none_lacks c bs h =
    let over : length bs ≤ ahead c bs = grind (arith, nat_tests) in
    subst (λ t. lacks c t ≡ true) (take_all (ahead c bs) bs over) (ahead_lacks c bs)

-- no c in the whole, and none in its front
pub cut_none_front : (c k : ℕ) (bs : List ℕ) → cut_at c bs ≡ None → cut_at c (take k bs) ≡ None
cut_none_front c k bs h = cut_none c (take k bs) (take_lacks c k bs (none_lacks c bs h))

-- c stands within the front
pub cut_some_front : (c k : ℕ) (bs : List ℕ) (p : List ℕ × List ℕ) → cut_at c bs ≡ Some p → length p.0 < k → cut_at c (take k bs) ≡ Some (p.0, take (k - (length p.0 + 1)) p.1)
cut_some_front c k bs p h less =
    ap (λ t. cut_at c (take k t)) (cut_back c bs p h)
    ∙ ap (λ m. cut_at c (take m (p.0 ++ (c ∷ p.1)))) (let e : k ≡ length p.0 + suc (k - (length p.0 + 1)) = omega arith in e)
    ∙ ap (cut_at c) (take-append-add p.0 (c ∷ p.1) (suc (k - (length p.0 + 1))))
    ∙ cut_here c p.0 (take (k - (length p.0 + 1)) p.1) (cut_lacks c bs p h)

-- c stands beyond the front
pub cut_late_front : (c k : ℕ) (bs : List ℕ) (p : List ℕ × List ℕ) → cut_at c bs ≡ Some p → k ≤ length p.0 → cut_at c (take k bs) ≡ None
cut_late_front c k bs p h more =
    ap (λ t. cut_at c (take k t)) (cut_back c bs p h)
    ∙ ap (cut_at c) (take-append-le k p.0 (c ∷ p.1) more)
    ∙ cut_none c (take k p.0) (take_lacks c k p.0 (cut_lacks c bs p h))
