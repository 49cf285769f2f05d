-- A part of a file is read from the text that writes it, and from no other.
use Rattle.std.proofs.Common.{◌≡◌, ℕ, zero, suc, ◌+◌, ◌≤◌, true, ◌&&◌, leb, List, [], ◌∷◌, ◌++◌, length, Some, None, Ok, Option, Result, sym, refl, ap, ◌∙◌, subst, arith}
use Rattle.std.specs.Option.{option_map}
use Rattle.std.specs.List.{AllByRecursion}
use Rattle.std.proofs.lemmas.Bool.{and_parts, and_from, leb-true, le-leb, cond-true}
use Rattle.tokens.specs.Cuts.{cut_at}
use Rattle.tokens.specs.Numbers.{Small}
use Rattle.tokens.specs.Text.{joined, line_of}
use Rattle.tokens.specs.TextLines.{Left, heading_of}
use Rattle.tokens.specs.declared.fault.Fault.{Fault}
use Rattle.tokens.proofs.Cutting.{lacks, cut_here, cut_back}
use Rattle.tokens.proofs.Lays.{Lays, Names, heading, onto_line, line_onto, joined_ends}
use Rattle.order_file.specs.Render.{count_words, lines_of, section_text}
use Rattle.order_file.specs.Sections.{Place, next, numbered_line, next_line, to_the_end, laid_out, record_line, record_lines, count_line, section_of_up_to}
use Rattle.order_file.proofs.Steps.{err_ok, ok_same, cond_ok, go_on, and_next, cut_line}

-- the step reads the text of a value that fits and is picked, and nothing else
pub record ParsesPicked {A : Type 0} (picks : A → Type 0) (step : Place → Result (A × Place) Fault) (text : A → List ℕ → List ℕ) (fits : A → Type 0) : Type 0 where
  pub back : (p : Place) (x : A) (q : Place) → step p ≡ Ok (x, q) → picks x × (p.0 ≡ text x q.0) × fits x
  pub forth : (x : A) (after : List ℕ) (n : ℕ) → picks x → fits x → (m : ℕ) × (step (text x after, n) ≡ Ok (x, (after, m)))

-- any value is picked
abbrev pub Parses : {A : Type 0} → (Place → Result (A × Place) Fault) → (A → List ℕ → List ℕ) → (A → Type 0) → Type 0
Parses {A} step text fits = ParsesPicked {A = A} (λ x. Unit {0}) step text fits

-- all parts are read
pub done : {A : Type 0} {picks : A → Type 0} {r : A} → picks r → ((x : A) → picks x → r ≡ x) → ParsesPicked picks (λ p. Ok (r, p)) (λ x after. after) (λ x. Unit {0})
done {A = A} {picks = picks} picked same = record {
  back = λ p x q h. subst (λ (t : A × Place). picks t.0 × (p.0 ≡ t.1.0) × Unit {0}) (ok_same h) (picked, refl, tt);
  forth = λ x after n p h. (n, ap (λ y. Ok (y, (after, n))) (same x p));
}

-- a part comes next, and the whole has it
module _ {A X : Type 0} {step : Place → Result (X × Place) Fault} {text : X → List ℕ → List ℕ} {fit : X → Type 0} (first : Parses step text fit) (get : A → X) {picks : A → Type 0} {k : X → Place → Result (A × Place) Fault} {texts : A → List ℕ → List ℕ} {fits : X → A → Type 0} where
  pub part : ((v : X) → fit v → ParsesPicked (λ x. picks x × (get x ≡ v)) (k v) texts (fits v)) → ParsesPicked picks (λ p. next (step p) k) (λ x after. text (get x) (texts x after)) (λ x. fit (get x) × fits (get x) x)
  part later = record {
    back = λ p x q h.
        and_next (step p) k (x, q) h (λ v r e j.
        let a = first.back p v r e in
        let b = (later v a.2).back r x q j in
        let is = sym b.0.1 in (
          b.0.0,
          a.1 ∙ ap (text v) b.1 ∙ ap (λ t. text t (texts x q.0)) is,
          (subst fit is a.2, subst (λ t. fits t x) is b.2),
        ));
    forth = λ x after n p h.
        let a = first.forth (get x) (texts x after) n tt h.0 in
        let b = (later (get x) h.0).forth x after a.0 (p, refl) h.1 in
        (b.0, go_on k a.1 ∙ b.1);
  }

-- whatever fits is picked
pub picked_so : {A : Type 0} {picks : A → Type 0} {step : Place → Result (A × Place) Fault} {text : A → List ℕ → List ℕ} {fits : A → Type 0} → ((x : A) → fits x → picks x) → Parses step text fits → ParsesPicked picks step text fits
picked_so so l = record {
  back = λ p x q h. let b = l.back p x q h in (so x b.2, b.1, b.2);
  forth = λ x after n p h. l.forth x after n tt h;
}

-- one record

line_back : (p : Place) (ws : Left) (q : Place) → next_line p ≡ Ok (ws, q) → (l : List ℕ) × (ws ≡ Some l) × (p.0 ≡ l ++ (10 ∷ q.0))
line_back p ws q h = cases (cut_at 10 p.0) refl h
  where
    cases : (o : Option (List ℕ × List ℕ)) → cut_at 10 p.0 ≡ o → numbered_line p.1 (option_map (λ c. (Some c.0, c.1)) o) ≡ Ok (ws, q) → (l : List ℕ) × (ws ≡ Some l) × (p.0 ≡ l ++ (10 ∷ q.0))
    cases None e k = err_ok k
    cases (Some c) e k = let s = ok_same k in (c.0, ap (λ t. t.0) (sym s), cut_back 10 p.0 c e ∙ ap (λ t. c.0 ++ (10 ∷ t.1.0)) s)

module _ {A : Type 0} {f : Left → Option (A × Left)} {words : A → List (List ℕ)} {fits : A → Type 0} (lays : Lays f words fits) where
  laid_back : (ws : Left) (n : ℕ) (p : Place) (x : A) (q : Place) → laid_out n p (to_the_end (f ws)) ≡ Ok (x, q) → (f ws ≡ Some (x, None)) × (p ≡ q)
  laid_back ws n p x q h = cases (f ws) h
    where
      cases : (o : Option (A × Left)) → laid_out n p (to_the_end o) ≡ Ok (x, q) → (o ≡ Some (x, None)) × (p ≡ q)
      cases None k = err_ok k
      cases (Some (y, None)) k = let s = ok_same k in (ap (λ t. Some (t.0, None)) s, ap (λ t. t.1) s)
      cases (Some (y, Some vs)) k = err_ok k

  -- no byte 10 stands in the line
  pub ends : (x : A) → fits x → lacks 10 (joined (words x)) ≡ true
  ends x h = joined_ends (words x) (lays.plain x h)

  pub line_parses : ((x : A) → 1 ≤ length (words x)) → Parses (record_line f) (λ x. line_of (words x)) fits
  line_parses some = record {
    back = λ p x q h.
        and_next (next_line p) _ (x, q) h (λ ws r e k.
        let a = line_back p ws r e in
        let b = laid_back ws p.1 r x q k in
        let c = lays.back ws x None b.0 in (
          tt,
          a.2 ∙ ap (λ t. t ++ (10 ∷ r.0)) (onto_line (words x) a.0 (sym a.1 ∙ c.1)) ∙ ap (λ t. line_of (words x) t.0) b.1,
          c.2,
        ));
    forth = λ x after n p h. (
      n + 1,
      ap (cut_line f n) (cut_here 10 (joined (words x)) after (ends x h))
          ∙ ap (λ o. laid_out n (after, n + 1) (to_the_end o)) (ap f (line_onto (words x) (some x)) ∙ lays.forth x None tt h),
    );
  }

  -- so many records

  lines_back : ((x : A) → 1 ≤ length (words x)) → (n : ℕ) (p : Place) (xs : List A) (q : Place) → record_lines f n p ≡ Ok (xs, q) → (length xs ≡ n) × (p.0 ≡ lines_of words xs q.0) × AllByRecursion fits xs
  lines_back some zero p xs q h = subst (λ (t : List A × Place). (length t.0 ≡ 0) × (p.0 ≡ lines_of words t.0 t.1.0) × AllByRecursion fits t.0) (ok_same h) (refl, refl, tt)
  lines_back some (suc n) p xs q h =
      and_next (record_line f p) _ _ h (λ x r e k.
      and_next (record_lines f n r) _ _ k (λ ys s d j.
      let o = (line_parses some).back p x r e in
      let l = lines_back some n r ys s d in
      subst (λ (t : List A × Place). (length t.0 ≡ suc n) × (p.0 ≡ lines_of words t.0 t.1.0) × AllByRecursion fits t.0) (ok_same j)
      (ap suc l.0, o.1 ∙ ap (line_of (words x)) l.1, (o.2, l.2))))

  lines_forth : ((x : A) → 1 ≤ length (words x)) → (xs : List A) (after : List ℕ) (l : ℕ) → AllByRecursion fits xs → (m : ℕ) × (record_lines f (length xs) (lines_of words xs after, l) ≡ Ok (xs, (after, m)))
  lines_forth some [] after l h = (l, refl)
  lines_forth some (x ∷ xs) after l h =
      let o = (line_parses some).forth x (lines_of words xs after) l tt h.0 in
      let q = lines_forth some xs after o.0 h.1 in
      (q.0, go_on _ o.1 ∙ go_on _ q.1)

  pub lines_parse : ((x : A) → 1 ≤ length (words x)) → (n : ℕ) → ParsesPicked (λ xs. Unit {0} × (length xs ≡ n)) (record_lines f n) (lines_of words) (AllByRecursion fits)
  lines_parse some n = record {
    back = λ p xs q h. let l = lines_back some n p xs q h in ((tt, l.0), l.1, l.2);
    forth = λ xs after l p h.
        let q = lines_forth some xs after l h in
        (q.0, ap (λ m. record_lines f m (lines_of words xs after, l)) (sym p.1) ∙ q.1);
  }

-- the line that opens a section
pub count_parses : {name : List ℕ} → Names name → (least most : ℕ) → most ≤ 64 → Parses (count_line least most name) (λ n. line_of (count_words name n)) (λ n. (least ≤ n) × (n ≤ most))
count_parses {name = name} b least most few = record {
  back = λ p n q h.
      and_next (record_line (heading_of name) p) _ _ h (λ m r e k.
      let c = cond_ok (leb least m && leb m most) _ _ _ k in
      let t = and_parts (leb least m) (leb m most) c.0 in
      let s = ok_same c.1 in
      let is : m ≡ n = ap (λ o. o.0) s in (
        tt,
        (line.back p m r e).1 ∙ ap (λ o. line_of (count_words name o.0) o.1.0) s,
        (omega (arith, leb-true least m t.0), omega (arith, leb-true m most t.1)),
      ));
  forth = λ n after l p h.
      let a = line.forth n after l tt (omega (arith, h.1)) in
      (a.0, go_on _ a.1 ∙ cond-true (leb least n && leb n most) _ _ (and_from _ _ (le-leb least n h.0) (le-leb n most h.1)));
}
  where
    line : Parses (record_line (heading_of name)) (λ n. line_of (count_words name n)) Small
    line = line_parses (heading b) (λ n. omega arith)

-- it is one line
pub count_ends : {name : List ℕ} → Names name → (n : ℕ) → n ≤ 64 → lacks 10 (joined (count_words name n)) ≡ true
count_ends {name = name} names n few = joined_ends (count_words name n) ((heading names).plain n (omega arith))

-- a section of up to so many records
pub section_parses : {A : Type 0} {f : Left → Option (A × Left)} {words : A → List (List ℕ)} {fits : A → Type 0} → Lays f words fits → ((x : A) → 1 ≤ length (words x)) → {name : List ℕ} → Names name → (most : ℕ) → most ≤ 64 → Parses (section_of_up_to most f name) (section_text name words) (λ xs. ((0 ≤ length xs) × (length xs ≤ most)) × AllByRecursion fits xs)
section_parses lays some b most few = part (count_parses b 0 most few) length (λ n h. lines_parse lays some n)
