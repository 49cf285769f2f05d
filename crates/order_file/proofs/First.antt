-- Files that share lines are read alike up to there.
use Rattle.std.proofs.Common.{◌≡◌, ℕ, zero, suc, ◌+◌, ◌-◌, ◌<◌, ◌≤◌, Bool, true, false, cond, ◌&&◌, eqb, leb, ◌⊎◌, List, [], ◌∷◌, Some, None, Ok, Err, codes, Option, Result, sym, refl, ap, ◌∙◌, subst, inl, inr, ⊎_elim, arith}
use Rattle.std.specs.Option.{option_map}
use Rattle.std.proofs.lemmas.Bool.{cases_lt}
use Rattle.records.specs.declared.kit_numbers.KitNumbers.{KitNumbers}
use Rattle.tokens.specs.Cuts.{cut_at}
use Rattle.tokens.specs.Faults.{fault_line}
use Rattle.tokens.specs.TextLines.{Left, heading_of}
use Rattle.tokens.specs.declared.fault.Fault.{Fault}
use Rattle.tokens.specs.declared.fault.Fault.TheVariants.{Layout, Count}
use Rattle.tokens.proofs.Options.{none_some}
use Rattle.order_file.specs.File.{Filed, most_levels, sections, and_no_more, order_file_of}
use Rattle.order_file.specs.First.{Shares}
use Rattle.order_file.specs.Limits.{Fits}
use Rattle.order_file.specs.Records.{read_kit, read_level, read_load, read_card}
use Rattle.order_file.specs.Render.{render}
use Rattle.order_file.specs.Sections.{Place, next, numbered_line, to_the_end, laid_out, record_line, record_lines, count_line, section_of_up_to}
use Rattle.order_file.proofs.Steps.{err_ok, err_same, by_line}
use Rattle.order_file.proofs.Whole.{text, sections_forth, file_forth}

-- what is read from line m on, in two files that share j lines from there
abbrev Same : {A : Type 0} → ℕ → ℕ → Result (A × Place) Fault → Result (A × Place) Fault → Type 0
Same j m (Err e) d = (m ≤ fault_line e) × (fault_line e < m + j → d ≡ Err e)
Same j m (Ok p) d = (m ≤ p.1.1) × (p.1.1 ≤ m + j → (s : List ℕ) × (d ≡ Ok (p.0, (s, p.1.1))) × Shares (m + j - p.1.1) p.1.0 s)

record Alike {A : Type 0} (step : Place → Result (A × Place) Fault) : Type 0 where
  at : (j m : ℕ) (a b : List ℕ) → Shares j a b → Same j m (step (a, m)) (step (b, m))

-- one part, and then another

both : {A B : Type 0} (j m : ℕ) (o d : Result (A × Place) Fault) (c : A → Place → Result (B × Place) Fault) → Same j m o d → ((x : A) → Alike (c x)) → Same j m (next o c) (next d c)
both j m (Err e) d c h go = (h.0, λ lt. ap (λ t. next t c) (h.1 lt))
both {B = Y} j m (Ok (x, (r, n))) d c h go =
    ⊎_elim
    (λ out. alone (c x (r, n)) ((go x).at 0 n r r tt) out)
    (λ in_reach. let g = h.1 in_reach in
    onward (c x (r, n)) (next d c) in_reach (subst (λ t. Same (m + j - n) n (c x (r, n)) t) (ap (λ t. next t c) (sym g.1)) ((go x).at (m + j - n) n r g.0 g.2)))
    (cases_lt (m + j) n)
  where
    alone : (p : Result (Y × Place) Fault) → Same 0 n p (c x (r, n)) → m + j < n → Same j m p (next d c)
    alone (Err e) g out = (omega (arith, g.0), λ lt. absurd (omega (arith, g.0)))
    alone (Ok p) g out = (omega (arith, g.0), λ le. absurd (omega (arith, g.0)))

    onward : (p q : Result (Y × Place) Fault) → n ≤ m + j → Same (m + j - n) n p q → Same j m p q
    onward (Err e) q le g = (omega (arith, g.0, h.0), λ lt. g.1 (omega arith))
    onward (Ok p) q le g = (omega (arith, g.0, h.0), λ lt. let t = g.1 (omega arith) in (t.0, t.1, subst (λ i. Shares i p.1.0 t.0) (let e : n + (m + j - n) - p.1.1 ≡ m + j - p.1.1 = omega arith in e) t.2))

and_alike : {A B : Type 0} {step : Place → Result (A × Place) Fault} {c : A → Place → Result (B × Place) Fault} → Alike step → ((x : A) → Alike (c x)) → Alike (λ p. next (step p) c)
and_alike {step = step} {c = c} first later = record { at = λ j m a b h. both j m (step (a, m)) (step (b, m)) c (first.at j m a b h) later }

-- no bytes are taken
none_alike : {A : Type 0} (x : A) → Alike (λ q. Ok (x, q))
none_alike x = record { at = λ j m a b h. (omega arith, λ le. (b, refl, subst (λ i. Shares i a b) (let e : j ≡ m + j - m = omega arith in e) h)) }

-- one line is taken, and judged by itself

abbrev Judged : {A : Type 0} → ℕ → (Place → Result (A × Place) Fault) → Type 0
Judged {A} m k = ((e : Fault) × (fault_line e ≡ m) × ((q : Place) → k q ≡ Err e)) ⊎ ((x : A) × ((q : Place) → k q ≡ Ok (x, q)))

line_alike : {A : Type 0} (k : ℕ → Left → Place → Result (A × Place) Fault) → ((m : ℕ) (l : Left) → Judged m (k m l)) → (j m : ℕ) (a b : List ℕ) → Shares j a b → Same j m (by_line (k m) m (cut_at 10 a)) (by_line (k m) m (cut_at 10 b))
line_alike {A = X} k judge zero m a b h = cases (cut_at 10 a)
  where
    cases : (o : Option (List ℕ × List ℕ)) → Same {A = X} zero m (by_line (k m) m o) (by_line (k m) m (cut_at 10 b))
    cases None = (omega arith, λ lt. absurd (omega arith))
    cases (Some p) =
        ⊎_elim
        (λ bad. subst (λ t. Same {A = X} zero m t (by_line (k m) m (cut_at 10 b))) (sym (bad.2 (p.1, m + 1))) (omega (arith, bad.1), λ lt. absurd (omega (arith, bad.1))))
        (λ good. subst (λ t. Same {A = X} zero m t (by_line (k m) m (cut_at 10 b))) (sym (good.1 (p.1, m + 1))) (omega arith, λ le. absurd (omega arith)))
        (judge m (Some p.0))
line_alike {A = X} k judge (suc j) m a b (l, r, s, ea, eb, h) =
    subst (λ t. Same {A = X} (suc j) m t (by_line (k m) m (cut_at 10 b))) (ap (by_line (k m) m) (sym ea))
    (subst (λ t. Same {A = X} (suc j) m (k m (Some l) (r, m + 1)) t) (ap (by_line (k m) m) (sym eb))
    (⊎_elim
    (λ bad. subst (λ t. Same {A = X} (suc j) m t (k m (Some l) (s, m + 1))) (sym (bad.2 (r, m + 1))) (omega (arith, bad.1), λ lt. bad.2 (s, m + 1)))
    (λ good. subst (λ t. Same {A = X} (suc j) m t (k m (Some l) (s, m + 1))) (sym (good.1 (r, m + 1))) (omega arith, λ le. (s, good.1 (s, m + 1), subst (λ i. Shares i r s) (let e : j ≡ m + suc j - (m + 1) = omega arith in e) h)))
    (judge m (Some l))))

record_alike : {A : Type 0} (f : Left → Option (A × Left)) → Alike (record_line f)
record_alike {A = X} f = record { at = line_alike (λ m l q. laid_out m q (to_the_end (f l))) (λ m l. cases m (to_the_end (f l))) }
  where
    cases : (m : ℕ) (o : Option X) → Judged m (λ q. laid_out m q o)
    cases m None = inl (Layout m, refl, λ q. refl)
    cases m (Some x) = inr (x, λ q. refl)

records_alike : {A : Type 0} (f : Left → Option (A × Left)) (n : ℕ) → Alike (record_lines f n)
records_alike f zero = none_alike []
records_alike f (suc n) = and_alike (record_alike f) (λ x. and_alike (records_alike f n) (λ xs. none_alike (x ∷ xs)))

next_next : {A B C : Type 0} (o : Result (A × Place) Fault) (k : A → Place → Result (B × Place) Fault) (c : B → Place → Result C Fault) → next (next o k) c ≡ next o (λ x q. next (k x q) c)
next_next (Err e) k c = refl
next_next (Ok p) k c = refl

count_alike : (least most : ℕ) (name : List ℕ) → Alike (count_line least most name)
count_alike least most name = record {
  at = λ j m a b h.
      subst (λ t. Same {A = ℕ} j m t (count_line least most name (b, m))) (sym (next_next (numbered_line m (option_map (λ c. (Some c.0, c.1)) (cut_at 10 a))) _ _))
      (subst (λ t. Same {A = ℕ} j m (by_line (verdict m) m (cut_at 10 a)) t) (sym (next_next (numbered_line m (option_map (λ c. (Some c.0, c.1)) (cut_at 10 b))) _ _))
      (line_alike verdict (λ i l. cases i (to_the_end (heading_of name l))) j m a b h));
}
  where
    in_range : ℕ → ℕ → Place → Result (ℕ × Place) Fault
    in_range i n p = cond {A = Result (ℕ × Place) Fault} (leb least n && leb n most) (Ok (n, p)) (Err (Count i))

    verdict : ℕ → Left → Place → Result (ℕ × Place) Fault
    verdict i l q = next {B = ℕ × Place} (laid_out i q (to_the_end (heading_of name l))) (in_range i)

    tested : (i n : ℕ) (t : Bool) → Judged i (λ q. cond {A = Result (ℕ × Place) Fault} t (Ok (n, q)) (Err (Count i)))
    tested i n true = inr (n, λ q. refl)
    tested i n false = inl (Count i, refl, λ q. refl)

    cases : (i : ℕ) (o : Option ℕ) → Judged i (λ q. next {B = ℕ × Place} (laid_out i q o) (in_range i))
    cases i None = inl (Layout i, refl, λ q. refl)
    cases i (Some n) = tested i n (leb least n && leb n most)

section_alike : {A : Type 0} (most : ℕ) (f : Left → Option (A × Left)) (name : List ℕ) → Alike (section_of_up_to most f name)
section_alike most f name = and_alike (count_alike 0 most name) (records_alike f)

kit_or_none : (t : Bool) → Alike (λ q. cond t (Ok (None, q)) (next {B = Option KitNumbers × Place} (record_line read_kit q) (λ k r. Ok (Some k, r))))
kit_or_none true = none_alike None
kit_or_none false = and_alike (record_alike read_kit) (λ k. none_alike (Some k))

sections_alike : Alike sections
sections_alike =
    and_alike (and_alike (count_alike 0 1 (codes "KIT")) (λ n. kit_or_none (eqb n 0))) (λ kit.
    and_alike (section_alike (most_levels kit) read_level (codes "LEVELS")) (λ levels.
    and_alike (section_alike 64 read_load (codes "LOADS")) (λ loads.
    and_alike (and_alike (count_alike 1 1 (codes "CARD")) (λ n. record_alike read_card)) (λ card.
    none_alike (record { kit = kit; levels = levels; loads = loads; card = card })))))

-- a fault stays the same where its line is shared
fault_stays : (e : Fault) (b : List ℕ) (o : Result (Filed × Place) Fault) → Same (fault_line e) 1 o (sections (b, 1)) → next o and_no_more ≡ Err e → order_file_of b ≡ Err e
fault_stays e b (Err d) g k =
    let same = ap fault_line (err_same k) in
    ap (λ t. next t and_no_more) (g.1 (omega (arith, same))) ∙ k
fault_stays e b (Ok (f, ([], n))) g k = err_ok (sym k)
fault_stays e b (Ok (f, (c ∷ cs, n))) g k =
    let same = ap fault_line (err_same k) in
    let t = g.1 (omega (arith, same)) in
    ap (λ u. next u and_no_more) t.1 ∙ surplus t.0 (subst (λ i. Shares i (c ∷ cs) t.0) (let i : 1 + fault_line e - n ≡ 1 = omega (arith, same) in i) t.2)
  where
    surplus : (s : List ℕ) → Shares 1 (c ∷ cs) s → and_no_more f (s, n) ≡ Err e
    surplus [] (l, r, u, ea, eb, h) = none_some eb
    surplus (d ∷ ds) h = k

-- no file that is accepted has the same lines up to the faulty one
pub first_fault : (bs : List ℕ) (e : Fault) → order_file_of bs ≡ Err e → (f : Filed) → Fits f → Shares (fault_line e) bs (render f) → ⊥
first_fault bs e bad f fits shared = err_ok (sym (fault_stays e (render f) (sections (bs, 1)) (sections_alike.at (fault_line e) 1 bs (render f) shared) bad) ∙ file_forth f fits)

-- nor any text that begins with one
pub first_fault_ahead : (bs : List ℕ) (e : Fault) → sections (bs, 1) ≡ Err e → (f : Filed) (rest : List ℕ) → Fits f → Shares (fault_line e) bs (text f rest) → ⊥
first_fault_ahead bs e bad f rest fits shared =
    let same = subst (λ o. Same (fault_line e) 1 o (sections (text f rest, 1))) bad (sections_alike.at (fault_line e) 1 bs (text f rest) shared) in
    err_ok (sym (same.1 (omega arith)) ∙ (sections_forth f rest fits).1)
