-- A file is read alike from its first bytes, since what is accepted is short.
use Rattle.std.proofs.Common.{◌≡◌, ℕ, zero, suc, ◌+◌, ◌-◌, ◌*◌, ◌<◌, ◌≤◌, Bool, true, false, cond, ◌&&◌, eqb, leb, List, [], ◌∷◌, length, take, Some, None, Ok, Err, Option, Result, sym, refl, ap, ◌∙◌, subst, ⊎_elim, suc-mul, arith}
use Rattle.std.proofs.lemmas.Bool.{cases_lt}
use Rattle.records.specs.declared.kit_numbers.KitNumbers.{KitNumbers}
use Rattle.tokens.specs.Cuts.{cut_at}
use Rattle.tokens.specs.TextLines.{Left, heading_of}
use Rattle.tokens.specs.declared.fault.Fault.{Fault}
use Rattle.tokens.specs.declared.fault.Fault.TheVariants.{Layout, Count}
use Rattle.tokens.proofs.Cutting.{cut_none_front, cut_some_front, cut_late_front}
use Rattle.tokens.proofs.Lays.{Lays, Names, heading, onto_line, joined_short}
use Rattle.tokens.proofs.Options.{none_some}
use Rattle.order_file.specs.File.{Filed, most_levels, sections, and_no_more, order_file_of}
use Rattle.order_file.specs.Records.{read_kit}
use Rattle.order_file.specs.Sections.{Place, next, to_the_end, laid_out, record_line, record_lines, count_line, section_of_up_to}
use Rattle.order_file.proofs.Layouts.{kit_lays, level_lays, load_lays, card_lays}
use Rattle.order_file.proofs.Parses.{count_parses}
use Rattle.order_file.proofs.Steps.{cut_line}
use Rattle.order_file.proofs.Whole.{kit_name, levels_name, loads_name, card_name, most_few}

-- a part that takes at most b bytes, read from the first k
abbrev pub Kept : {A : Type 0} → ℕ → ℕ → Result (A × Place) Fault → Result (A × Place) Fault → Type 0
Kept k b (Err e) o = o ≡ Err e
Kept k b (Ok p) o = (j : ℕ) × (o ≡ Ok (p.0, (take j p.1.0, p.1.1))) × (k ≤ j + b)

record Local {A : Type 0} (b : ℕ) (step : Place → Result (A × Place) Fault) : Type 0 where
  at : (k : ℕ) (bs : List ℕ) (n : ℕ) → b ≤ k → Kept k b (step (bs, n)) (step (take k bs, n))

more : {A : Type 0} (k b c : ℕ) → b ≤ c → (o d : Result (A × Place) Fault) → Kept k b o d → Kept k c o d
more k b c le (Err e) d h = h
more k b c le (Ok p) d h = (h.0, h.1, omega (arith, h.2))

wider : {A : Type 0} {b : ℕ} {step : Place → Result (A × Place) Fault} (c : ℕ) → b ≤ c → Local b step → Local c step
wider {b = b} {step = step} c le l = record { at = λ k bs n h. more k b c le (step (bs, n)) (step (take k bs, n)) (l.at k bs n (omega arith)) }

-- one part, and then another; `sure` tells what is known of the first

both : {A B : Type 0} (k b₁ b₂ : ℕ) (o d : Result (A × Place) Fault) (c : A → Place → Result (B × Place) Fault) → b₁ + b₂ ≤ k → Kept k b₁ o d → ((x : A) (q : Place) → o ≡ Ok (x, q) → Local b₂ (c x)) → Kept k (b₁ + b₂) (next o c) (next d c)
both k b₁ b₂ (Err e) d c le h go = ap (λ t. next t c) h
both {B = Y} k b₁ b₂ (Ok (x, (r, n))) d c le h go = widen (c x (r, n)) (next d c) (subst (λ t. Kept h.0 b₂ (c x (r, n)) t) (ap (λ t. next t c) (sym h.1)) ((go x (r, n) refl).at h.0 r n (omega (arith, h.2))))
  where
    widen : (p q : Result (Y × Place) Fault) → Kept h.0 b₂ p q → Kept k (b₁ + b₂) p q
    widen (Err e) q g = g
    widen (Ok p) q g = (g.0, g.1, omega (arith, g.2, h.2))

known_local : {A B : Type 0} {b₁ b₂ : ℕ} {step : Place → Result (A × Place) Fault} {c : A → Place → Result (B × Place) Fault} {fit : A → Type 0} → Local b₁ step → ((p : Place) (x : A) (q : Place) → step p ≡ Ok (x, q) → fit x) → ((x : A) → fit x → Local b₂ (c x)) → Local (b₁ + b₂) (λ p. next (step p) c)
known_local {b₁ = b₁} {b₂ = b₂} {step = step} {c = c} first sure later = record { at = λ k bs n le. both k b₁ b₂ (step (bs, n)) (step (take k bs, n)) c le (first.at k bs n (omega arith)) (λ x q e. later x (sure (bs, n) x q e)) }

and_local : {A B : Type 0} {b₁ b₂ : ℕ} {step : Place → Result (A × Place) Fault} {c : A → Place → Result (B × Place) Fault} → Local b₁ step → ((x : A) → Local b₂ (c x)) → Local (b₁ + b₂) (λ p. next (step p) c)
and_local first later = known_local {fit = λ x. Unit {0}} first (λ p x q e. tt) (λ x h. later x)

-- no bytes are taken
none_local : {A : Type 0} (x : A) → Local 0 (λ q. Ok (x, q))
none_local x = record { at = λ k bs n le. (k, refl, omega arith) }

-- one line is taken

-- a whole line that is laid out is short
abbrev Short : {A : Type 0} → ℕ → (Left → Option (A × Left)) → Type 0
Short {A} b f = (bs : List ℕ) (x : A) → to_the_end (f (Some bs)) ≡ Some x → length bs ≤ b

laid_alike : {A : Type 0} (k b n m : ℕ) (l r : List ℕ) (o : Option A) → ((x : A) → o ≡ Some x → length l ≤ b) → length l < k → Kept k (b + 1) (laid_out n (r, m) o) (laid_out n (take (k - (length l + 1)) r, m) o)
laid_alike k b n m l r None short less = refl
laid_alike k b n m l r (Some x) short less = (k - (length l + 1), refl, omega (arith, short x refl))

laid_late : {A : Type 0} (k b n m : ℕ) (l r : List ℕ) (o : Option A) → ((x : A) → o ≡ Some x → length l ≤ b) → b + 1 ≤ k → k ≤ length l → Kept {A = A} k (b + 1) (laid_out n (r, m) o) (Err (Layout n))
laid_late k b n m l r None short le late = refl
laid_late k b n m l r (Some x) short le late = absurd (omega (arith, short x refl))

short_local : {A : Type 0} (b : ℕ) (f : Left → Option (A × Left)) → Short b f → Local (b + 1) (record_line f)
short_local {A = X} b f short = record { at = λ k bs n le. cases k bs n le (cut_at 10 bs) refl }
  where
    cases : (k : ℕ) (bs : List ℕ) (n : ℕ) → b + 1 ≤ k → (o : Option (List ℕ × List ℕ)) → cut_at 10 bs ≡ o → Kept {A = X} k (b + 1) (record_line f (bs, n)) (record_line f (take k bs, n))
    cases k bs n le o e = found o e
      where
        at : (o d : Option (List ℕ × List ℕ)) → cut_at 10 bs ≡ o → cut_at 10 (take k bs) ≡ d → Kept {A = X} k (b + 1) (cut_line f n o) (cut_line f n d) → Kept {A = X} k (b + 1) (record_line f (bs, n)) (record_line f (take k bs, n))
        at o d eo ed h = subst (λ t. Kept {A = X} k (b + 1) t (record_line f (take k bs, n))) (ap (cut_line f n) (sym eo)) (subst (λ t. Kept {A = X} k (b + 1) (cut_line f n o) t) (ap (cut_line f n) (sym ed)) h)

        found : (o : Option (List ℕ × List ℕ)) → cut_at 10 bs ≡ o → Kept {A = X} k (b + 1) (record_line f (bs, n)) (record_line f (take k bs, n))
        found None e = at None None e (cut_none_front 10 k bs e) refl
        found (Some p) e =
            ⊎_elim
            (λ less. at (Some p) (Some (p.0, take (k - (length p.0 + 1)) p.1)) e (cut_some_front 10 k bs p e less) (laid_alike k b n (n + 1) p.0 p.1 (to_the_end (f (Some p.0))) (short p.0) less))
            (λ late. at (Some p) None e (cut_late_front 10 k bs p e late) (laid_late k b n (n + 1) p.0 p.1 (to_the_end (f (Some p.0))) (short p.0) le late))
            (cases_lt (length p.0) k)

-- words of at most ten bytes make a short line
words_short : {A : Type 0} {f : Left → Option (A × Left)} {words : A → List (List ℕ)} {fits : A → Type 0} → Lays f words fits → (n : ℕ) → ((x : A) → length (words x) ≡ n) → Short (11 * n) f
words_short {A = X} {f = f} {words = words} lays n count bs x h = cases (f (Some bs)) refl h
  where
    cases : (o : Option (X × Left)) → f (Some bs) ≡ o → to_the_end o ≡ Some x → length bs ≤ 11 * n
    cases None e k = none_some k
    cases (Some (y, Some ws)) e k = none_some k
    cases (Some (y, None)) e k =
        let q = lays.back (Some bs) y None e in
        omega (arith, ap length (onto_line (words y) bs q.1), joined_short (words y) (lays.plain y q.2), ap (λ m. 11 * m) (count y))

module _ {A : Type 0} {f : Left → Option (A × Left)} {words : A → List (List ℕ)} {fits : A → Type 0} (lays : Lays f words fits) (w : ℕ) (count : (x : A) → length (words x) ≡ w) where
  record_local : Local (11 * w + 1) (record_line f)
  record_local = short_local (11 * w) f (words_short lays w count)

  records_local : (n : ℕ) → Local (n * (11 * w + 1)) (record_lines f n)
  records_local zero = wider (zero * (11 * w + 1)) (omega arith) (none_local [])
  records_local (suc n) = wider (suc n * (11 * w + 1)) (omega (arith, suc-mul n (11 * w + 1))) (and_local record_local (λ x. and_local (records_local n) (λ xs. none_local (x ∷ xs))))

tested_local : (t : Bool) (e : Fault) (x : ℕ) → Local 0 (λ q. cond t (Ok (x, q)) (Err e))
tested_local true e x = none_local x
tested_local false e x = record { at = λ k bs n le. refl }

count_local : {name : List ℕ} → Names name → (least most : ℕ) → Local 23 (count_line least most name)
count_local {name = name} b least most = record {
  at = λ k bs m le.
      both k 23 0 (record_line (heading_of name) (bs, m)) (record_line (heading_of name) (take k bs, m)) (λ n q. cond (leb least n && leb n most) (Ok (n, q)) (Err (Count m))) (omega arith) ((record_local (heading b) 2 (λ n. refl)).at k bs m le)
      (λ n q is. tested_local (leb least n && leb n most) (Count m) n);
}

section_local : {A : Type 0} {f : Left → Option (A × Left)} {words : A → List (List ℕ)} {fits : A → Type 0} → Lays f words fits → (w : ℕ) → ((x : A) → length (words x) ≡ w) → {name : List ℕ} → Names name → (most : ℕ) → most ≤ 64 → (c : ℕ) → ((n : ℕ) → n ≤ most → n * (11 * w + 1) ≤ c) → Local (23 + c) (section_of_up_to most f name)
section_local lays w count names most limit c few =
    known_local {fit = λ n. n ≤ most} (count_local names 0 most) (λ p n q e. ((count_parses names 0 most limit).back p n q e).2.1)
    (λ n h. wider c (few n h) (records_local lays w count n))

kit_or_none : (t : Bool) → Local 89 (λ q. cond t (Ok (None, q)) (next {B = Option KitNumbers × Place} (record_line read_kit q) (λ k r. Ok (Some k, r))))
kit_or_none true = wider 89 (omega arith) (none_local None)
kit_or_none false = and_local (record_local kit_lays 8 (λ x. refl)) (λ k. none_local (Some k))

-- 3,394 bytes hold any file that is accepted
sections_local : Local 3394 sections
sections_local =
    and_local {b₁ = 112} (and_local (count_local kit_name 0 1) (λ n. kit_or_none (eqb n 0))) (λ kit.
    and_local {b₁ = 1631} (section_local level_lays 6 (λ x. refl) levels_name (most_levels kit) (omega (arith, most_few kit)) 1608 (λ n few. omega (arith, most_few kit))) (λ levels.
    and_local {b₁ = 1495} (section_local load_lays 2 (λ x. refl) loads_name 64 (omega arith) 1472 (λ n few. omega arith)) (λ loads.
    and_local {b₁ = 156} (and_local (count_local card_name 1 1) (λ n. record_local card_lays 12 (λ x. refl))) (λ card.
    none_local (record { kit = kit; levels = levels; loads = loads; card = card })))))

then_no_more : (k b : ℕ) (o d : Result (Filed × Place) Fault) → b < k → Kept k b o d → next o and_no_more ≡ next d and_no_more
then_no_more k b (Err e) d less h = ap (λ t. next t and_no_more) (sym h)
then_no_more k b (Ok (f, (r, n))) d less h = rest r h.0 (omega (arith, h.2)) ∙ ap (λ t. next t and_no_more) (sym h.1)
  where
    rest : (s : List ℕ) (j : ℕ) → 1 ≤ j → and_no_more f (s, n) ≡ and_no_more f (take j s, n)
    rest s zero some = absurd (omega arith)
    rest [] (suc j) some = refl
    rest (c ∷ cs) (suc j) some = refl

pub sections_front : (bs : List ℕ) → Kept 8192 3394 (sections (bs, 1)) (sections (take 8192 bs, 1))
sections_front bs = sections_local.at 8192 bs 1 (omega arith)

pub file_front : (bs : List ℕ) → order_file_of bs ≡ order_file_of (take 8192 bs)
file_front bs = then_no_more 8192 3394 (sections (bs, 1)) (sections (take 8192 bs, 1)) (omega arith) (sections_front bs)
