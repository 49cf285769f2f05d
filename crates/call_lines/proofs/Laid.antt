-- A line is read from the words that write its entry, and from no others.
use Rattle.std.proofs.Common.{◌≡◌, ℕ, zero, suc, ◌≤◌, true, cond, List, [], ◌∷◌, ◌++◌, length, map, Some, None, codes, decimal, Option, sym, refl, ap, ◌∙◌, subst, arith}
use Rattle.std.specs.List.{AllByRecursion}
use Rattle.std.specs.Str.{bytes_eq}
use Rattle.std.proofs.lemmas.Option.{same_Some}
use Rattle.std.proofs.lemmas.Slice.Eq.{bytes_eq-Decides}
use Rattle.records.specs.declared.card.Card.{Card}
use Rattle.seismic.specs.declared.axis.Axis.{Axis}
use Rattle.seismic.specs.declared.row.Row.{Row}
use Rattle.tokens.specs.Fields.{as_number}
use Rattle.tokens.specs.Numbers.{Small}
use Rattle.tokens.specs.Said.{Said, section, numeral, minus, mark, told}
use Rattle.tokens.specs.TextLines.{Left, then, next_field}
use Rattle.tokens.proofs.Laws.{Laws, number_laws}
use Rattle.tokens.specs.Text.{joined}
use Rattle.tokens.proofs.Cutting.{lacks}
use Rattle.tokens.proofs.Lays.{Lays, complete, field, onto, onto_line, line_onto, joined_ends}
use Rattle.tokens.proofs.Options.{none_some}
use Rattle.tokens.proofs.Words.{Plain, tail, spelled}
use Rattle.order_file.specs.Records.{read_load, read_card}
use Rattle.order_file.specs.Sections.{to_the_end}
use Rattle.order_file.proofs.Layouts.{load_lays, card_lays}
use Rattle.call_lines.specs.declared.word.Word.{Word}
use Rattle.call_lines.specs.declared.word.Word.TheVariants.{Load, Strike, Standing, Trial, Keep, Abandon, Issue, Reopen, Release, Sheet, Axes, Card as NewCard}
use Rattle.call_lines.specs.Asked.{Asked, load, strike, standing, trial, keep, abandon, issue, reopen, release, sheet, axes, Entry, call, card}
use Rattle.call_lines.specs.Exact.{Fresh, CanStand}
use Rattle.call_lines.specs.Lines.{axis_of, axes_call, axes_of, blank_rows, entry_of, following, most_stiffnesses, numbers}
use Rattle.call_lines.specs.Render.{word_text, asked_word, entry_word, entry_more, entry_words}
use Rattle.call_lines.specs.Words.{as_word, word_named}

-- what two steps come to is what the second makes of the first
then_back : {A B : Type 0} (o : Option A) (k : A → Option B) (y : B) → then o k ≡ Some y → (x : A) × (o ≡ Some x) × (k x ≡ Some y)
then_back None k y h = none_some h
then_back (Some x) k y h = (x, refl, h)

-- the second makes this of what the first comes to
then_forth : {A B : Type 0} (o : Option A) (k : A → Option B) (x : A) (y : B) → o ≡ Some x → k x ≡ Some y → then o k ≡ Some y
then_forth o k x y e h = ap (λ p. then p k) e ∙ h

-- the second changes nothing
then_some : {A : Type 0} (o : Option A) → then o (λ p. Some p) ≡ o
then_some None = refl
then_some (Some x) = refl

-- one field, by its laws
module _ {X : Type 0} {m : Said → Option X} {text : X → List ℕ} {fits : X → Type 0} (laws : Laws m text fits) where
  one : Lays (λ ws. then (next_field m ws) (λ p. Some p)) (λ x. text x ∷ []) (λ x. fits x × Unit {0})
  one = field laws (λ x. x) (λ v. complete (tt, refl) (λ x h. sym h.1))

  field_back : (ws : Left) (x : X) (rest : Left) → next_field m ws ≡ Some (x, rest) → (ws ≡ Some (text x ++ tail rest)) × fits x
  field_back ws x rest h = let q = one.back ws x rest (then_some (next_field m ws) ∙ h) in (q.1, q.2.0)

  field_forth : (x : X) (rest : Left) → fits x → next_field m (Some (text x ++ tail rest)) ≡ Some (x, rest)
  field_forth x rest h = sym (then_some (next_field m (Some (text x ++ tail rest)))) ∙ one.forth x rest tt (h, tt)

-- the word of a line

-- this word, or a later one
one_word : (v t : List ℕ) (w x : Word) (o : Option Word) → t ≡ word_text w → (o ≡ Some x → v ≡ word_text x) → cond (bytes_eq v t) (Some w) o ≡ Some x → v ≡ word_text x
one_word v t w x o e later h = grind (arith, bytes_eq-Decides v t)

-- a call's word is read from its letters alone
named_only : (v : List ℕ) (x : Word) → word_named v ≡ Some x → v ≡ word_text x
named_only v x =
    one_word v (codes "LOAD") Load x _ refl
    (one_word v (codes "STRIKE") Strike x _ refl
    (one_word v (codes "STANDING") Standing x _ refl
    (one_word v (codes "TRIAL") Trial x _ refl
    (one_word v (codes "KEEP") Keep x _ refl
    (one_word v (codes "ABANDON") Abandon x _ refl
    (one_word v (codes "ISSUE") Issue x _ refl
    (one_word v (codes "REOPEN") Reopen x _ refl
    (one_word v (codes "RELEASE") Release x _ refl
    (one_word v (codes "SHEET") Sheet x _ refl
    (one_word v (codes "AXES") Axes x None refl none_some))))))))))

-- so is any word
word_only : (s : Said) (x : Word) → as_word s ≡ Some x → (spelled s ≡ word_text x) × Unit {0}
word_only (section v) x h = (one_word v (codes "CARD") NewCard x None refl none_some h, tt)
word_only (numeral v) x h = none_some h
word_only (minus v) x h = none_some h
word_only (mark v) x h = (named_only v x h, tt)

-- and is read from them
word_means : (w : Word) → Unit {0} → as_word (told (word_text w)) ≡ Some w
word_means Load h = refl
word_means Strike h = refl
word_means Standing h = refl
word_means Trial h = refl
word_means Keep h = refl
word_means Abandon h = refl
word_means Issue h = refl
word_means Reopen h = refl
word_means Release h = refl
word_means Sheet h = refl
word_means Axes h = refl
word_means NewCard h = refl

-- it can stand in a line
word_plain : (w : Word) → Unit {0} → Plain (word_text w)
word_plain Load h = record { no_space = refl; no_end = refl; short = omega arith }
word_plain Strike h = record { no_space = refl; no_end = refl; short = omega arith }
word_plain Standing h = record { no_space = refl; no_end = refl; short = omega arith }
word_plain Trial h = record { no_space = refl; no_end = refl; short = omega arith }
word_plain Keep h = record { no_space = refl; no_end = refl; short = omega arith }
word_plain Abandon h = record { no_space = refl; no_end = refl; short = omega arith }
word_plain Issue h = record { no_space = refl; no_end = refl; short = omega arith }
word_plain Reopen h = record { no_space = refl; no_end = refl; short = omega arith }
word_plain Release h = record { no_space = refl; no_end = refl; short = omega arith }
word_plain Sheet h = record { no_space = refl; no_end = refl; short = omega arith }
word_plain Axes h = record { no_space = refl; no_end = refl; short = omega arith }
word_plain NewCard h = record { no_space = refl; no_end = refl; short = omega arith }

-- together
word_laws : Laws as_word word_text (λ w. Unit {0})
word_laws = record { only = word_only; means = word_means; plain = word_plain }

-- stiffnesses

-- numbers as they are written
abbrev number_words : List ℕ → List (List ℕ)
number_words ks = map decimal ks

-- they are read from their words alone
numbers_back : (n : ℕ) (ws : Left) (t : List ℕ × Left) → numbers n ws ≡ Some t → (ws ≡ onto (number_words t.0) t.1) × AllByRecursion Small t.0 × (length t.0 ≤ n)
numbers_back n None t h = subst (λ (t : List ℕ × Left). (None ≡ onto (number_words t.0) t.1) × AllByRecursion Small t.0 × (length t.0 ≤ n)) (same_Some _ _ h) (refl, tt, omega arith)
numbers_back zero (Some bs) t h = subst (λ (t : List ℕ × Left). (Some bs ≡ onto (number_words t.0) t.1) × AllByRecursion Small t.0 × (length t.0 ≤ 0)) (same_Some _ _ h) (refl, tt, omega arith)
numbers_back (suc n) (Some bs) t h =
    let q = then_back (next_field as_number (Some bs)) _ t h in
    let f = field_back number_laws (Some bs) q.0.0 q.0.1 q.1 in
    let r = then_back (numbers n q.0.1) _ t q.2 in
    let i = numbers_back n q.0.1 r.0 r.1 in
    subst (λ (t : List ℕ × Left). (Some bs ≡ onto (number_words t.0) t.1) × AllByRecursion Small t.0 × (length t.0 ≤ suc n)) (same_Some _ _ r.2)
    (f.0 ∙ ap (λ l. Some (decimal q.0.0 ++ tail l)) i.0, (f.1, i.1), omega (arith, i.2))

-- and are read from them, to the line's end
numbers_forth : (n : ℕ) (ks : List ℕ) → AllByRecursion Small ks → length ks ≤ n → numbers n (onto (number_words ks) None) ≡ Some (ks, None)
numbers_forth n [] h few = refl
numbers_forth zero (k ∷ ks) h few = absurd (omega arith)
numbers_forth (suc n) (k ∷ ks) h few =
    then_forth (next_field as_number (Some (decimal k ++ tail (onto (number_words ks) None)))) _ (k, onto (number_words ks) None) _ (field_forth number_laws k (onto (number_words ks) None) h.0)
    (then_forth (numbers n (onto (number_words ks) None)) _ (ks, None) _ (numbers_forth n ks h.1 (omega arith)) refl)

-- axes that take nothing yet are their stiffnesses

-- made of stiffnesses that fit
fresh : (ks : List ℕ) → AllByRecursion Small ks → AllByRecursion Fresh (map axis_of ks) × (map (λ (a : Axis). decimal a.stiffness) (map axis_of ks) ≡ number_words ks) × (length (map axis_of ks) ≡ length ks)
fresh [] h = (tt, refl, refl)
fresh (k ∷ ks) h = let q = fresh ks h.1 in (((h.0, refl), q.0), ap (λ (l : List (List ℕ)). decimal k ∷ l) q.1, ap suc q.2)

-- what is written of axes
abbrev stiffnesses : List Axis → List ℕ
stiffnesses lent = map (λ (a : Axis). a.stiffness) lent

-- such an axis is made again from its stiffness
whole_axis : (a : Axis) → a.direct_shear ≡ 0 → axis_of a.stiffness ≡ a
whole_axis a h = let w : record { stiffness = a.stiffness; direct_shear = a.direct_shear } ≡ a = refl in cc w

-- so are such axes
made_again : (lent : List Axis) → AllByRecursion Fresh lent → AllByRecursion Small (stiffnesses lent) × (map axis_of (stiffnesses lent) ≡ lent) × (map (λ (a : Axis). decimal a.stiffness) lent ≡ number_words (stiffnesses lent)) × (length (stiffnesses lent) ≡ length lent)
made_again [] h = (tt, refl, refl, refl)
made_again (a ∷ lent) h =
    let q = made_again lent h.1 in
    let w = whole_axis a h.0.1 in
    ((h.0.0, q.0), cc, ap (λ (l : List (List ℕ)). decimal a.stiffness ∷ l) q.2, ap suc q.3)

-- what follows a word

-- t was read after the word w, from vs
abbrev Back : Card → Word → Left → Entry × Left → Type 0
Back k w vs t = (w ≡ entry_word t.0) × (vs ≡ onto (entry_more t.0) t.1) × CanStand k t.0

-- a shear on axes is read from its words alone
axes_back : (k : Card) (vs : Left) (t : Asked × Left) → axes_call k vs ≡ Some t → Back k Axes vs (call t.0, t.1)
axes_back k vs t h =
    let q = then_back (next_field as_number vs) _ t h in
    let f = field_back number_laws vs q.0.0 q.0.1 q.1 in
    let r = then_back (axes_of most_stiffnesses q.0.1) _ t q.2 in
    let s = then_back (numbers most_stiffnesses q.0.1) _ r.0 r.1 in
    let i = numbers_back most_stiffnesses q.0.1 s.0 s.1 in
    let g = fresh s.0.0 i.1 in
    subst (λ (t : Asked × Left). Back k Axes vs (call t.0, t.1)) (same_Some _ _ r.2)
    (subst (λ (u : List Axis × Left). Back k Axes vs (call (axes k q.0.0 u.0), u.1)) (same_Some _ _ s.2)
    (refl, f.0 ∙ ap (λ l. Some (decimal q.0.0 ++ tail l)) (i.0 ∙ ap (λ l. onto l s.0.1) (sym g.1)), (refl, f.1, g.0, omega (arith, g.2, i.2))))

-- so is whatever follows a word
following_back : (k : Card) (w : Word) (vs : Left) (t : Entry × Left) → following k w vs ≡ Some t → Back k w vs t
following_back k Load vs t h =
    let q = then_back (read_load vs) _ t h in
    let l = load_lays.back vs q.0.0 q.0.1 q.1 in
    subst (Back k Load vs) (same_Some _ _ q.2) (refl, l.1, l.2)
following_back k Strike vs t h = subst (Back k Strike vs) (same_Some _ _ h) (refl, refl, tt)
following_back k Standing vs t h =
    let q = then_back (next_field as_number vs) _ t h in
    let f = field_back number_laws vs q.0.0 q.0.1 q.1 in
    subst (Back k Standing vs) (same_Some _ _ q.2) (refl, f.0, f.1)
following_back k Trial vs t h = subst (Back k Trial vs) (same_Some _ _ h) (refl, refl, tt)
following_back k Keep vs t h = subst (Back k Keep vs) (same_Some _ _ h) (refl, refl, tt)
following_back k Abandon vs t h = subst (Back k Abandon vs) (same_Some _ _ h) (refl, refl, tt)
following_back k Issue vs t h = subst (Back k Issue vs) (same_Some _ _ h) (refl, refl, tt)
following_back k Reopen vs t h = subst (Back k Reopen vs) (same_Some _ _ h) (refl, refl, tt)
following_back k Release vs t h = subst (Back k Release vs) (same_Some _ _ h) (refl, refl, tt)
following_back k Sheet vs t h = subst (Back k Sheet vs) (same_Some _ _ h) (refl, refl, (refl, refl))
following_back k Axes vs t h =
    let q = then_back (axes_call k vs) _ t h in
    subst (Back k Axes vs) (same_Some _ _ q.2) (axes_back k vs q.0 q.1)
following_back k NewCard vs t h =
    let q = then_back (read_card vs) _ t h in
    let l = card_lays.back vs q.0.0 q.0.1 q.1 in
    subst (Back k NewCard vs) (same_Some _ _ q.2) (refl, l.1, l.2)

-- and what a call is written as is read so
asked_forth : (k : Card) (a : Asked) → CanStand k (call a) → following k (entry_word (call a)) (onto (entry_more (call a)) None) ≡ Some (call a, None)
asked_forth k (load x) h = then_forth (read_load (onto (entry_more (call (load x))) None)) _ (x, None) _ (load_lays.forth x None tt h) refl
asked_forth k strike h = refl
asked_forth k (standing n) h = then_forth (next_field as_number (onto (decimal n ∷ []) None)) _ (n, None) _ (field_forth number_laws n None h) refl
asked_forth k trial h = refl
asked_forth k keep h = refl
asked_forth k abandon h = refl
asked_forth k issue h = refl
asked_forth k reopen h = refl
asked_forth k release h = refl
asked_forth k (sheet c rows) h = ap (λ (t : Card × List Row). Some (call (sheet t.0 t.1), None)) (let e : (k, blank_rows) ≡ (c, rows) = cc in e)
asked_forth k (axes c storey lent) h =
    let g = made_again lent h.2 in
    let more : onto (map (λ (a : Axis). decimal a.stiffness) lent) None ≡ onto (number_words (stiffnesses lent)) None = ap (λ l. onto l None) g.2 in
    then_forth (axes_call k (onto (entry_more (call (axes c storey lent))) None)) _ (axes k storey lent, None) _
    (then_forth (next_field as_number (onto (entry_more (call (axes c storey lent))) None)) _ (storey, onto (map (λ (a : Axis). decimal a.stiffness) lent) None) _ (field_forth number_laws storey (onto (map (λ (a : Axis). decimal a.stiffness) lent) None) h.1)
    (then_forth (axes_of most_stiffnesses (onto (map (λ (a : Axis). decimal a.stiffness) lent) None)) _ (lent, None) _
    (then_forth (numbers most_stiffnesses (onto (map (λ (a : Axis). decimal a.stiffness) lent) None)) _ (stiffnesses lent, None) _
    (ap (numbers most_stiffnesses) more ∙ numbers_forth most_stiffnesses (stiffnesses lent) g.0 (omega (arith, g.3, h.3)))
    (ap (λ (l : List Axis). Some (l, None)) g.1))
    refl))
    (ap (λ (c : Card). Some (call (axes c storey lent), None)) (sym h.0))

-- so is any line
following_forth : (k : Card) (e : Entry) → CanStand k e → following k (entry_word e) (onto (entry_more e) None) ≡ Some (e, None)
following_forth k (call a) h = asked_forth k a h
following_forth k (card c) h = then_forth (read_card (onto (entry_more (card c)) None)) _ (c, None) _ (card_lays.forth c None tt h) refl

-- the words can stand in a line
plain_numbers : (lent : List Axis) → AllByRecursion Fresh lent → AllByRecursion Plain (map (λ (a : Axis). decimal a.stiffness) lent)
plain_numbers [] h = tt
plain_numbers (a ∷ lent) h = (number_laws.plain a.stiffness h.0.0, plain_numbers lent h.1)

-- of any call
asked_plain : (k : Card) (a : Asked) → CanStand k (call a) → AllByRecursion Plain (entry_more (call a))
asked_plain k (load x) h = load_lays.plain x h
asked_plain k strike h = tt
asked_plain k (standing n) h = (number_laws.plain n h, tt)
asked_plain k trial h = tt
asked_plain k keep h = tt
asked_plain k abandon h = tt
asked_plain k issue h = tt
asked_plain k reopen h = tt
asked_plain k release h = tt
asked_plain k (sheet c rows) h = tt
asked_plain k (axes c storey lent) h = (number_laws.plain storey h.1, plain_numbers lent h.2)

-- a whole line

-- of any line
plain_words : (k : Card) (e : Entry) → CanStand k e → AllByRecursion Plain (entry_words e)
plain_words k (call a) h = (word_plain (asked_word a) tt, asked_plain k a h)
plain_words k (card c) h = (word_plain NewCard tt, card_lays.plain c h)

-- no byte 10 stands in the line
pub ends : (k : Card) (e : Entry) → CanStand k e → lacks 10 (joined (entry_words e)) ≡ true
ends k e h = joined_ends (entry_words e) (plain_words k e h)

-- nothing was left
whole_line : {A : Type 0} (o : Option (A × Left)) (x : A) → to_the_end o ≡ Some x → o ≡ Some (x, None)
whole_line None x h = none_some h
whole_line (Some (y, None)) x h = ap (λ z. Some (z, None)) (same_Some _ _ h)
whole_line (Some (y, Some vs)) x h = none_some h

-- a line is read from its words alone
pub line_back : (k : Card) (line : List ℕ) (e : Entry) → entry_of k (Some line) ≡ Some e → (line ≡ joined (entry_words e)) × CanStand k e
line_back k line e h =
    let q = then_back (next_field as_word (Some line)) (λ p. following k p.0 p.1) (e, None) (whole_line _ e h) in
    let f = field_back word_laws (Some line) q.0.0 q.0.1 q.1 in
    let b = following_back k q.0.0 q.0.1 (e, None) q.2 in
    (onto_line (entry_words e) line (f.0 ∙ ap (λ w. Some (word_text w ++ tail q.0.1)) b.0 ∙ ap (λ l. Some (word_text (entry_word e) ++ tail l)) b.1), b.2)

-- and is read from them
pub line_forth : (k : Card) (e : Entry) → CanStand k e → entry_of k (Some (joined (entry_words e))) ≡ Some e
line_forth k e h =
    ap (entry_of k) (line_onto (entry_words e) (omega arith))
    ∙ ap to_the_end
    (then_forth (next_field as_word (onto (entry_words e) None)) (λ p. following k p.0 p.1) (entry_word e, onto (entry_more e) None) (e, None) (field_forth word_laws (entry_word e) (onto (entry_more e) None) tt) (following_forth k e h))
