-- Some accepted file has the same lines before the faulty one: what was read so far, and then anything.
use Rattle.std.proofs.Common.{◌≡◌, ℕ, zero, suc, ◌+◌, ◌-◌, ◌≤◌, Bool, true, false, cond, ◌&&◌, eqb, leb, ◌⊎◌, List, [], ◌∷◌, length, pos, Some, None, Ok, Err, codes, Option, Result, sym, refl, ap, ◌∙◌, subst, inl, inr, suc-add, zero-add, arith}
use Rattle.std.specs.Option.{option_to_list}
use Rattle.std.specs.List.{AllByRecursion}
use Rattle.std.proofs.lemmas.Bool.{cases_Bool, cond-true, cond-false, eqb-false}
use Rattle.records.specs.declared.card.Card.{Card}
use Rattle.records.specs.declared.card.Group.TheVariants.{B}
use Rattle.records.specs.declared.card.Soil.TheVariants.{I}
use Rattle.records.specs.declared.card.Walls.TheVariants.{Tied}
use Rattle.records.specs.declared.kit_numbers.KitNumbers.{KitNumbers}
use Rattle.records.specs.declared.level.Level.{Level}
use Rattle.records.specs.declared.line.Line.{Line}
use Rattle.tokens.specs.Cuts.{cut_at}
use Rattle.tokens.specs.Faults.{fault_line}
use Rattle.tokens.specs.Numbers.{Small}
use Rattle.tokens.specs.Text.{joined, line_of}
use Rattle.tokens.specs.TextLines.{Left, heading_of}
use Rattle.tokens.specs.declared.fault.Fault.{Fault}
use Rattle.tokens.specs.declared.fault.Fault.TheVariants.{Count}
use Rattle.tokens.proofs.Cutting.{lacks, cut_here}
use Rattle.tokens.proofs.Lays.{Lays, Names}
use Rattle.order_file.specs.File.{Filed, kit_section, level_section, load_section, card_section, most_levels, sections, and_no_more, order_file_of}
use Rattle.order_file.specs.First.{Shares}
use Rattle.order_file.specs.Lines.{card_line}
use Rattle.order_file.specs.Limits.{KitShort, LevelShort, LoadShort, CardShort, Fits}
use Rattle.order_file.specs.Records.{read_kit, read_card}
use Rattle.order_file.specs.Render.{kit_words, level_words, card_words, count_words, lines_of, section_text, render}
use Rattle.order_file.specs.Sections.{Place, next, to_the_end, laid_out, record_line, record_lines, count_line, section_of_up_to}
use Rattle.order_file.proofs.Layouts.{kit_lays, level_lays, load_lays, card_lays}
use Rattle.order_file.proofs.Parses.{ends, line_parses, lines_parse, count_parses, count_ends, section_parses}
use Rattle.order_file.proofs.Steps.{err_ok, ok_same, err_same, cond_ok, and_next, or_next, cut_line}
use Rattle.order_file.proofs.Whole.{kit_name, levels_name, loads_name, card_name, kit_parses, sections_parse, to_fits, one_kit, most_few}

-- one more line is shared
shares_line : (ws : List (List ℕ)) (n : ℕ) (r s : List ℕ) → lacks 10 (joined ws) ≡ true → Shares n r s → Shares (suc n) (line_of ws r) (line_of ws s)
shares_line ws n r s h k = (joined ws, r, s, cut_here 10 (joined ws) r h, cut_here 10 (joined ws) s h, k)

-- one line: the fault is on it, and the next line comes after it

module _ {A : Type 0} (f : Left → Option (A × Left)) (p : Place) where
  line_fault : (e : Fault) → record_line f p ≡ Err e → fault_line e ≡ p.1
  line_fault e h = cases (cut_at 10 p.0) h
    where
      laid : (q : Place) (o : Option A) → laid_out p.1 q o ≡ Err e → fault_line e ≡ p.1
      laid q None k = ap fault_line (sym (err_same k))
      laid q (Some x) k = err_ok (sym k)

      cases : (o : Option (List ℕ × List ℕ)) → cut_line f p.1 o ≡ Err e → fault_line e ≡ p.1
      cases None k = ap fault_line (sym (err_same k))
      cases (Some c) k = laid (c.1, p.1 + 1) (to_the_end (f (Some c.0))) k

  line_on : (x : A) (q : Place) → record_line f p ≡ Ok (x, q) → q.1 ≡ p.1 + 1
  line_on x q h = cases (cut_at 10 p.0) h
    where
      laid : (r : Place) (o : Option A) → laid_out p.1 r o ≡ Ok (x, q) → q.1 ≡ r.1
      laid r None k = err_ok k
      laid r (Some y) k = ap (λ t. t.1.1) (sym (ok_same k))

      cases : (o : Option (List ℕ × List ℕ)) → cut_line f p.1 o ≡ Ok (x, q) → q.1 ≡ p.1 + 1
      cases None k = err_ok k
      cases (Some c) k = laid (c.1, p.1 + 1) (to_the_end (f (Some c.0))) k

module _ (least most : ℕ) (name : List ℕ) (p : Place) where
  count_fault : (e : Fault) → count_line least most name p ≡ Err e → fault_line e ≡ p.1
  count_fault e h =
      or_next (record_line (heading_of name) p) _ e h (line_fault (heading_of name) p e) (λ n q good k. tested (leb least n && leb n most) (n, q) k)
    where
      tested : (t : Bool) (x : ℕ × Place) → cond {A = Result (ℕ × Place) Fault} t (Ok x) (Err (Count p.1)) ≡ Err e → fault_line e ≡ p.1
      tested true x k = err_ok (sym k)
      tested false x k = ap fault_line (sym (err_same k))

  count_on : (n : ℕ) (q : Place) → count_line least most name p ≡ Ok (n, q) → q.1 ≡ p.1 + 1
  count_on n q h =
      and_next (record_line (heading_of name) p) _ _ h (λ m r e k.
      let c = cond_ok (leb least m && leb m most) _ _ _ k in
      ap (λ t. t.1.1) (sym (ok_same c.1)) ∙ line_on (heading_of name) p m r e)

-- lines that are shared, in other words
same_shares : {i j : ℕ} {a b : List ℕ} (c : List ℕ) → i ≡ j → a ≡ b → Shares i b c → Shares j a c
same_shares {i = i} {a = a} c e d h = subst (λ n. Shares n a c) e (subst (λ t. Shares i t c) (sym d) h)

-- records, and a section of them

module _ {A : Type 0} {f : Left → Option (A × Left)} {words : A → List (List ℕ)} {fits : A → Type 0} (lays : Lays f words fits) (some : (x : A) → 1 ≤ length (words x)) where
  lines_on : (n : ℕ) (p : Place) (xs : List A) (q : Place) → record_lines f n p ≡ Ok (xs, q) → q.1 ≡ p.1 + n
  lines_on zero p xs q h = omega (arith, ap (λ t. t.1.1) (ok_same h))
  lines_on (suc n) p xs q h =
      and_next (record_line f p) _ _ h (λ x r e k.
      and_next (record_lines f n r) _ _ k (λ ys s d j.
      omega (arith, line_on f p x r e, lines_on n r ys s d, ap (λ t. t.1.1) (ok_same j))))

  past_lines : (xs : List A) (k : ℕ) (r s : List ℕ) → AllByRecursion fits xs → Shares k r s → Shares (length xs + k) (lines_of words xs r) (lines_of words xs s)
  past_lines [] k r s h shared = subst (λ i. Shares i r s) (sym (zero-add k)) shared
  past_lines (x ∷ xs) k r s h shared =
      subst (λ i. Shares i (lines_of words (x ∷ xs) r) (lines_of words (x ∷ xs) s)) (sym (suc-add (length xs) k))
      (shares_line (words x) (length xs + k) (lines_of words xs r) (lines_of words xs s) (ends lays x h.0) (past_lines xs k r s h.1 shared))

  past_section : {name : List ℕ} → Names name → (xs : List A) (k : ℕ) (r s : List ℕ) → length xs ≤ 64 → AllByRecursion fits xs → Shares k r s → Shares (suc (length xs + k)) (section_text name words xs r) (section_text name words xs s)
  past_section {name = name} names xs k r s few h shared =
      shares_line (count_words name (length xs)) (length xs + k) (lines_of words xs r) (lines_of words xs s) (count_ends names (length xs) few) (past_lines xs k r s h shared)

  section_on : {name : List ℕ} → Names name → (most : ℕ) → (p : Place) (xs : List A) (q : Place) → section_of_up_to most f name p ≡ Ok (xs, q) → q.1 ≡ p.1 + suc (length xs)
  section_on {name = name} names most p xs q h =
      and_next (count_line 0 most name p) _ _ h (λ n r e k.
      omega (arith, count_on 0 most name p n r e, lines_on n r xs q k, ((lines_parse lays some n).back r xs q k).0.1))

  -- d stands for what was not read
  module _ (d : A) (ok : fits d) where
    fill : (n : ℕ) → (xs : List A) × (length xs ≡ n) × AllByRecursion fits xs
    fill zero = ([], refl, tt)
    fill (suc n) = let q = fill n in (d ∷ q.0, ap suc q.1, (ok, q.2))

    abbrev LinesBegun : ℕ → Place → Fault → Type 0
    LinesBegun n p e = (xs : List A) × (p.1 ≤ fault_line e) × (length xs ≡ n) × AllByRecursion fits xs × ((after : List ℕ) → Shares (fault_line e - p.1) p.0 (lines_of words xs after))

    lines_begun : (n : ℕ) (p : Place) (e : Fault) → record_lines f n p ≡ Err e → LinesBegun n p e
    lines_begun zero p e h = err_ok (sym h)
    lines_begun (suc n) p e h =
        or_next (record_line f p) _ e h here (λ x q good k.
        or_next (record_lines f n q) _ e k (λ bad. later x q good (lines_begun n q e bad)) (λ xs r fine j. err_ok (sym j)))
      where
        here : record_line f p ≡ Err e → LinesBegun (suc n) p e
        here bad =
            let at = line_fault f p e bad in
            let q = fill (suc n) in
            (q.0, omega arith, q.1, q.2, λ after. subst (λ i. Shares i p.0 (lines_of words q.0 after)) (let z : 0 ≡ fault_line e - p.1 = omega arith in z) tt)

        later : (x : A) (q : Place) → record_line f p ≡ Ok (x, q) → LinesBegun n q e → LinesBegun (suc n) p e
        later x q good r =
            let b = (line_parses lays some).back p x q good in
            let on = line_on f p x q good in
            let low = r.1 in (
              x ∷ r.0,
              omega arith,
              ap suc r.2,
              (b.2, r.3),
              λ after. same_shares _ (let z : suc (fault_line e - q.1) ≡ fault_line e - p.1 = omega arith in z) b.1
                  (shares_line (words x) (fault_line e - q.1) q.0 (lines_of words r.0 after) (ends lays x b.2) (r.4 after)),
            )

    section_begun : {name : List ℕ} → Names name → (most : ℕ) → most ≤ 64 → (p : Place) (e : Fault) → section_of_up_to most f name p ≡ Err e → (xs : List A) × (p.1 ≤ fault_line e) × (length xs ≤ most) × AllByRecursion fits xs × ((after : List ℕ) → Shares (fault_line e - p.1) p.0 (section_text name words xs after))
    section_begun {name = name} names most limit p e h =
        or_next (count_line 0 most name p) _ e h
        (λ bad.
        let at = count_fault 0 most name p e bad in
        ([], omega arith, omega arith, tt, λ after. subst (λ i. Shares i p.0 (section_text name words [] after)) (let z : 0 ≡ fault_line e - p.1 = omega arith in z) tt))
        (λ n q good k.
        let r = lines_begun n q e k in
        let b = (count_parses names 0 most limit).back p n q good in
        let on = count_on 0 most name p n q good in
        let low = r.1 in
        let few = b.2.1 in
        let count = r.2 in (
          r.0,
          omega arith,
          omega arith,
          r.3,
          λ after. same_shares _ (let z : suc (fault_line e - q.1) ≡ fault_line e - p.1 = omega arith in z) (b.1 ∙ ap (λ m. line_of (count_words name m) q.0) (sym count))
              (shares_line (count_words name (length r.0)) (fault_line e - q.1) q.0 (lines_of words r.0 after) (count_ends names (length r.0) (omega arith)) (r.4 after)),
        ))

-- records of zeros, for what was not read

no_kit : KitNumbers
no_kit = record { levels = 0; floor_weight = 0; roof_weight = 0; height = record { 0 = 0 }; stiffness = 0; mass_centre = 0; torsion_centre = 0; width = 0 }

no_level : Level
no_level = record { weight = 0; height = record { 0 = 0 }; stiffness = 0; mass_centre = 0; torsion_centre = 0; width = 0 }

no_load : Line
no_load = record { level = 0; load = pos 0 }

no_card : Card
no_card = record { soil = I; group = B; c = 0; a0 = 0; ta = 0; tb = 0; period = None; q = 0; correction = 0; walls = Tied; load_factor = 0; gap = 0 }

small : Small 0
small = omega arith

no_kit_fits : KitShort no_kit
unfolding no_kit
no_kit_fits = (small, (small, (small, (small, (small, (small, (small, (small, tt))))))))

no_level_fits : LevelShort no_level
unfolding no_level
no_level_fits = (small, (small, (small, (small, (small, (small, tt))))))

no_load_fits : LoadShort no_load
unfolding no_load
no_load_fits = (small, (small, tt))

no_card_fits : CardShort no_card
unfolding no_card
no_card_fits = (small, (small, (small, (small, (small, (small, (small, (small, tt))))))))

-- the kit's section

-- no kit, or the kit's record
abbrev kit_if : Bool → Place → Result (Option KitNumbers × Place) Fault
kit_if none q = cond none (Ok (None, q)) (next (record_line read_kit q) (λ k r. Ok (Some k, r)))

kit_on : (p : Place) (k : Option KitNumbers) (q : Place) → kit_section p ≡ Ok (k, q) → q.1 ≡ p.1 + suc (length (option_to_list k))
kit_on p k q h =
    and_next (count_line 0 1 (codes "KIT") p) _ _ h (λ n r e j.
    omega (arith, count_on 0 1 (codes "KIT") p n r e, one r (eqb n 0) j))
  where
    one : (r : Place) (t : Bool) → kit_if t r ≡ Ok (k, q) → q.1 ≡ r.1 + length (option_to_list k)
    one r true j = subst (λ (t : Option KitNumbers × Place). t.1.1 ≡ r.1 + length (option_to_list t.0)) (ok_same j) (omega arith)
    one r false j =
        and_next (record_line read_kit r) _ _ j (λ x s e i.
        subst (λ (t : Option KitNumbers × Place). t.1.1 ≡ r.1 + length (option_to_list t.0)) (ok_same i) (line_on read_kit r x s e))

kit_begun : (p : Place) (e : Fault) → kit_section p ≡ Err e → (k : Option KitNumbers) × (p.1 ≤ fault_line e) × AllByRecursion KitShort (option_to_list k) × ((after : List ℕ) → Shares (fault_line e - p.1) p.0 (section_text (codes "KIT") kit_words (option_to_list k) after))
kit_begun p e h =
    or_next (count_line 0 1 (codes "KIT") p) _ e h
    (λ bad.
    let at = count_fault 0 1 (codes "KIT") p e bad in
    (None, omega arith, tt, λ after. subst (λ i. Shares i p.0 (section_text (codes "KIT") kit_words [] after)) (let z : 0 ≡ fault_line e - p.1 = omega arith in z) tt))
    (λ n q good k. one n q good (cases_Bool (eqb n 0)) k)
  where
    one : (n : ℕ) (q : Place) → count_line 0 1 (codes "KIT") p ≡ Ok (n, q) → (eqb n 0 ≡ true) ⊎ (eqb n 0 ≡ false) → kit_if (eqb n 0) q ≡ Err e → (k : Option KitNumbers) × (p.1 ≤ fault_line e) × AllByRecursion KitShort (option_to_list k) × ((after : List ℕ) → Shares (fault_line e - p.1) p.0 (section_text (codes "KIT") kit_words (option_to_list k) after))
    one n q good (inl none) j = err_ok (sym (sym (cond-true (eqb n 0) _ _ none) ∙ j))
    one n q good (inr some) j =
        or_next (record_line read_kit q) _ e (sym (cond-false (eqb n 0) _ _ some) ∙ j)
        (λ bad.
        let at = line_fault read_kit q e bad in
        let on = count_on 0 1 (codes "KIT") p n q good in
        let b = (count_parses kit_name 0 1 (omega arith)).back p n q good in
        let few = b.2.1 in
        let ne = eqb-false n 0 some in (
          Some no_kit,
          omega arith,
          (no_kit_fits, tt),
          λ after. same_shares _ (let z : 1 ≡ fault_line e - p.1 = omega arith in z) (b.1 ∙ ap (λ m. line_of (count_words (codes "KIT") m) q.0) (let is : n ≡ 1 = omega arith in is))
              (shares_line (count_words (codes "KIT") 1) 0 q.0 (lines_of kit_words (no_kit ∷ []) after) (count_ends kit_name 1 (omega arith)) tt),
        ))
        (λ x r fine i. err_ok (sym i))

-- the card's section

card_on : (p : Place) (x : Card) (q : Place) → card_section p ≡ Ok (x, q) → q.1 ≡ p.1 + 2
card_on p x q h =
    and_next (count_line 1 1 (codes "CARD") p) _ _ h (λ n r e k.
    omega (arith, count_on 1 1 (codes "CARD") p n r e, line_on read_card r x q k))

card_begun : (p : Place) (e : Fault) → card_section p ≡ Err e → (p.1 ≤ fault_line e) × ((after : List ℕ) → Shares (fault_line e - p.1) p.0 (section_text (codes "CARD") card_words (no_card ∷ []) after))
card_begun p e h =
    or_next (count_line 1 1 (codes "CARD") p) _ e h
    (λ bad.
    let at = count_fault 1 1 (codes "CARD") p e bad in
    (omega arith, λ after. subst (λ i. Shares i p.0 (section_text (codes "CARD") card_words (no_card ∷ []) after)) (let z : 0 ≡ fault_line e - p.1 = omega arith in z) tt))
    (λ n q good bad.
    let at = line_fault read_card q e bad in
    let on = count_on 1 1 (codes "CARD") p n q good in
    let b = (count_parses card_name 1 1 (omega arith)).back p n q good in
    let low = b.2.0 in
    let high = b.2.1 in (
      omega arith,
      λ after. same_shares _ (let z : 1 ≡ fault_line e - p.1 = omega arith in z) (b.1 ∙ ap (λ m. line_of (count_words (codes "CARD") m) q.0) (let is : n ≡ 1 = omega arith in is))
          (shares_line (count_words (codes "CARD") 1) 0 q.0 (lines_of card_words (no_card ∷ []) after) (count_ends card_name 1 (omega arith)) tt),
    ))

-- the file

past_kit : (k : Option KitNumbers) (i : ℕ) (r s : List ℕ) → AllByRecursion KitShort (option_to_list k) → Shares i r s → Shares (suc (length (option_to_list k) + i)) (section_text (codes "KIT") kit_words (option_to_list k) r) (section_text (codes "KIT") kit_words (option_to_list k) s)
past_kit k i r s h shared = past_section kit_lays (λ x. omega arith) kit_name (option_to_list k) i r s (omega (arith, one_kit k)) h shared

-- how many lines a file has
abbrev total : Filed → ℕ
total f = suc (length (option_to_list f.kit) + suc (length f.levels + suc (length f.loads + 2)))

abbrev Begun : List ℕ → Fault → Type 0
Begun bs e = (f : Filed) × Fits f × Shares (fault_line e - 1) bs (render f)

surplus_line : (f : Filed) (p : Place) (e : Fault) → and_no_more f p ≡ Err e → fault_line e ≡ p.1
surplus_line f ([], n) e h = err_ok (sym h)
surplus_line f (b ∷ bs, n) e h = ap fault_line (sym (err_same h))

pub sections_begun : (bs : List ℕ) (e : Fault) → sections (bs, 1) ≡ Err e → Begun bs e
sections_begun bs e h1 =
    or_next (kit_section (bs, 1)) _ e h1
    (λ bad.
    let b = kit_begun (bs, 1) e bad in (
      record { kit = b.0; levels = []; loads = []; card = no_card },
      record { kit = b.2; levels = tt; level_count = omega arith; loads = tt; load_count = omega arith; card = no_card_fits },
      b.3 _,
    ))
    (λ kit p good1 h2.
    let a1 = kit_parses.back (bs, 1) kit p good1 in
    let on1 = kit_on (bs, 1) kit p good1 in
    or_next (level_section kit p) _ e h2
    (λ bad.
    let b = section_begun level_lays (λ x. omega arith) no_level no_level_fits levels_name (most_levels kit) (omega (arith, most_few kit)) p e bad in
    let low = b.1 in (
      record { kit = kit; levels = b.0; loads = []; card = no_card },
      record { kit = a1.2.1; levels = b.3; level_count = b.2; loads = tt; load_count = omega arith; card = no_card_fits },
      same_shares _ (let z : suc (length (option_to_list kit) + (fault_line e - p.1)) ≡ fault_line e - 1 = omega arith in z) a1.1 (past_kit kit (fault_line e - p.1) p.0 _ a1.2.1 (b.4 _)),
    ))
    (λ levels q good2 h3.
    let a2 = (section_parses level_lays (λ x. omega arith) levels_name (most_levels kit) (omega (arith, most_few kit))).back p levels q good2 in
    let on2 = section_on level_lays (λ x. omega arith) levels_name (most_levels kit) p levels q good2 in
    let few2 : length levels ≤ 64 = omega (arith, a2.2.0.1, most_few kit) in
    or_next (load_section q) _ e h3
    (λ bad.
    let b = section_begun load_lays (λ x. omega arith) no_load no_load_fits loads_name 64 (omega arith) q e bad in
    let low = b.1 in (
      record { kit = kit; levels = levels; loads = b.0; card = no_card },
      record { kit = a1.2.1; levels = a2.2.1; level_count = a2.2.0.1; loads = b.3; load_count = b.2; card = no_card_fits },
      same_shares _ (let z : suc (length (option_to_list kit) + suc (length levels + (fault_line e - q.1))) ≡ fault_line e - 1 = omega arith in z) (a1.1 ∙ ap (section_text (codes "KIT") kit_words (option_to_list kit)) a2.1)
          (past_kit kit _ _ _ a1.2.1 (past_section level_lays (λ x. omega arith) levels_name levels (fault_line e - q.1) q.0 _ few2 a2.2.1 (b.4 _))),
    ))
    (λ loads r good3 h4.
    let a3 = (section_parses load_lays (λ x. omega arith) loads_name 64 (omega arith)).back q loads r good3 in
    let on3 = section_on load_lays (λ x. omega arith) loads_name 64 q loads r good3 in
    or_next (card_section r) _ e h4
    (λ bad.
    let b = card_begun r e bad in
    let low = b.0 in (
      record { kit = kit; levels = levels; loads = loads; card = no_card },
      record { kit = a1.2.1; levels = a2.2.1; level_count = a2.2.0.1; loads = a3.2.1; load_count = a3.2.0.1; card = no_card_fits },
      same_shares _ (let z : suc (length (option_to_list kit) + suc (length levels + suc (length loads + (fault_line e - r.1)))) ≡ fault_line e - 1 = omega arith in z) (a1.1 ∙ ap (section_text (codes "KIT") kit_words (option_to_list kit)) (a2.1 ∙ ap (section_text (codes "LEVELS") level_words levels) a3.1))
          (past_kit kit _ _ _ a1.2.1 (past_section level_lays (λ x. omega arith) levels_name levels _ _ _ few2 a2.2.1 (past_section load_lays (λ x. omega arith) loads_name loads (fault_line e - r.1) r.0 _ a3.2.0.1 a3.2.1 (b.1 [])))),
    ))
    (λ card s fine h5. err_ok (sym h5)))))

-- the line that comes after the sections
pub sections_on : (bs : List ℕ) (f : Filed) (s : Place) → sections (bs, 1) ≡ Ok (f, s) → s.1 ≡ card_line f + 1
sections_on bs f s good =
    and_next (kit_section (bs, 1)) _ _ good (λ kit p e1 h1.
    and_next (level_section kit p) _ _ h1 (λ levels q e2 h2.
    and_next (load_section q) _ _ h2 (λ loads r e3 h3.
    and_next (card_section r) _ _ h3 (λ card t e4 h4.
    subst (λ (x : Filed × Place). x.1.1 ≡ card_line x.0 + 1) (ok_same h4)
    (omega (arith, kit_on (bs, 1) kit p e1, section_on level_lays (λ x. omega arith) levels_name (most_levels kit) p levels q e2, section_on load_lays (λ x. omega arith) loads_name 64 q loads r e3, card_on r card t e4))))))

pub file_begun : (bs : List ℕ) (e : Fault) → order_file_of bs ≡ Err e → Begun bs e
file_begun bs e h = or_next (sections (bs, 1)) and_no_more e h (sections_begun bs e) after_them
  where
    after_them : (f : Filed) (s : Place) → sections (bs, 1) ≡ Ok (f, s) → and_no_more f s ≡ Err e → Begun bs e
    after_them f s good bad =
        let a = sections_parse.back (bs, 1) f s good in
        let fits = to_fits f a.2 in
        let few : length f.levels ≤ 64 = omega (arith, fits.level_count, most_few f.kit) in
        let on = sections_on bs f s good in
        let at = surplus_line f s e bad in (
          f,
          fits,
          same_shares _ (let z : total f ≡ fault_line e - 1 = omega arith in z) a.1
              (past_kit f.kit _ _ _ fits.kit
              (past_section level_lays (λ x. omega arith) levels_name f.levels _ _ _ few fits.levels
              (past_section load_lays (λ x. omega arith) loads_name f.loads _ _ _ fits.load_count fits.loads
              (past_section card_lays (λ x. omega arith) card_name (f.card ∷ []) 0 s.0 [] (omega arith) (fits.card, tt) tt)))),
        )
