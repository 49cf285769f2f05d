-- A record is read from the words that write it, and from no others: one step for each field.
use Rattle.std.proofs.Common.{◌≡◌, ℕ, ◌*◌, ◌≤◌, true, cond, List, [], ◌∷◌, ◌++◌, length, Some, None, decimal, Option, sym, refl, ap, ◌∙◌, subst, append-nil, arith, length-append}
use Rattle.std.specs.List.{AllByRecursion}
use Rattle.std.proofs.lemmas.Bool.{cond-true}
use Rattle.tokens.specs.Fields.{as_number}
use Rattle.tokens.specs.Numbers.{Small}
use Rattle.tokens.specs.Said.{Said, told, as_section}
use Rattle.tokens.specs.Text.{joined}
use Rattle.tokens.specs.TextLines.{Left, then, next_word, next_field, heading_of}
use Rattle.tokens.proofs.Cutting.{lacks, lacks-++}
use Rattle.tokens.proofs.Laws.{Laws, number_laws}
use Rattle.std.proofs.lemmas.Option.{same_Some}
use Rattle.tokens.proofs.Options.{none_some, cond_some}
use Rattle.tokens.proofs.Words.{Plain, tail, word_forth, word_back, section_only}

-- words before what is left of a line
abbrev pub onto : List (List ℕ) → Left → Left
onto [] rest = rest
onto (w ∷ ws) rest = Some (w ++ tail (onto ws rest))

-- f reads the words of a record that fits and is picked, and nothing else
pub record LaysPicked {A : Type 0} (picks : A → Type 0) (f : Left → Option (A × Left)) (words : A → List (List ℕ)) (fits : A → Type 0) : Type 0 where
  pub back : (ws : Left) (x : A) (rest : Left) → f ws ≡ Some (x, rest) → picks x × (ws ≡ onto (words x) rest) × fits x
  pub forth : (x : A) (rest : Left) → picks x → fits x → f (onto (words x) rest) ≡ Some (x, rest)
  pub plain : (x : A) → fits x → AllByRecursion Plain (words x)

-- any record is picked
abbrev pub Lays : {A : Type 0} → (Left → Option (A × Left)) → (A → List (List ℕ)) → (A → Type 0) → Type 0
Lays {A} f words fits = LaysPicked {A = A} (λ x. Unit {0}) f words fits

field_back : {X : Type 0} {m : Said → Option X} {text : X → List ℕ} {fits : X → Type 0} → Laws m text fits → (ws : Left) (x : X) (rest : Left) → next_field m ws ≡ Some (x, rest) → (ws ≡ Some (text x ++ tail rest)) × fits x
field_back {X = X} {m = m} {text = text} {fits = fits} laws ws x rest h = cases (next_word ws) refl h
  where
    cases : (o : Option (Said × Left)) → next_word ws ≡ o → then {B = X × Left} o (λ w. then {B = X × Left} (m w.0) (λ y. Some (y, w.1))) ≡ Some (x, rest) → (ws ≡ Some (text x ++ tail rest)) × fits x
    cases None e k = none_some k
    cases (Some w) e k = inner (m w.0) refl k
      where
        inner : (o : Option X) → m w.0 ≡ o → then {B = X × Left} o (λ y. Some (y, w.1)) ≡ Some (x, rest) → (ws ≡ Some (text x ++ tail rest)) × fits x
        inner None e2 k2 = none_some k2
        inner (Some y) e2 k2 =
            let q = laws.only w.0 y e2 in
            subst (λ t. (ws ≡ Some (text t.0 ++ tail t.1)) × fits t.0) (same_Some _ _ k2) (word_back ws w.0 w.1 e ∙ ap (λ l. Some (l ++ tail w.1)) q.0, q.1)

field_forth : {X : Type 0} {m : Said → Option X} {text : X → List ℕ} {fits : X → Type 0} → Laws m text fits → (x : X) → fits x → (rest : Left) → next_field m (Some (text x ++ tail rest)) ≡ Some (x, rest)
field_forth {X = X} {m = m} {text = text} laws x h rest =
    ap (λ o. then {B = X × Left} o (λ w. then {B = X × Left} (m w.0) (λ y. Some (y, w.1)))) (word_forth (text x) rest (laws.plain x h))
    ∙ ap (λ o. then {B = X × Left} o (λ y. Some (y, rest))) (laws.means x h)

-- the record is complete
pub complete : {A : Type 0} {picks : A → Type 0} {r : A} → picks r → ((x : A) → picks x → r ≡ x) → LaysPicked picks (λ ws. Some (r, ws)) (λ x. []) (λ x. Unit {0})
complete {A = A} {picks = picks} picked same = record {
  back = λ ws x rest h. subst (λ (t : A × Left). picks t.0 × (ws ≡ t.1) × Unit {0}) (same_Some _ _ h) (picked, refl, tt);
  forth = λ x rest p h. ap (λ y. Some (y, rest)) (same x p);
  plain = λ x h. tt;
}

-- a field comes next, and the record has it
module _ {A X : Type 0} {m : Said → Option X} {text : X → List ℕ} {fit : X → Type 0} (laws : Laws m text fit) (get : A → X) {picks : A → Type 0} {k : X × Left → Option (A × Left)} {words : A → List (List ℕ)} {fits : A → Type 0} where
  pub field : ((v : X) → LaysPicked (λ x. picks x × (get x ≡ v)) (λ ws. k (v, ws)) words fits) → LaysPicked picks (λ ws. then (next_field m ws) k) (λ x. text (get x) ∷ words x) (λ x. fit (get x) × fits x)
  field later = record {
    back = λ ws x rest h. cases ws x rest (next_field m ws) refl h;
    forth = λ x rest p h.
        ap (λ o. then o k) (field_forth laws (get x) h.0 (onto (words x) rest))
        ∙ (later (get x)).forth x rest (p, refl) h.1;
    plain = λ x h. (laws.plain (get x) h.0, (later (get x)).plain x h.1);
  }
    where
      cases : (ws : Left) (x : A) (rest : Left) (o : Option (X × Left)) → next_field m ws ≡ o → then o k ≡ Some (x, rest) → picks x × (ws ≡ onto (text (get x) ∷ words x) rest) × (fit (get x) × fits x)
      cases ws x rest None e h = none_some h
      cases ws x rest (Some (v, more)) e h =
          let q = field_back laws ws v more e in
          let r = (later v).back more x rest h in (
            r.0.0,
            q.0 ∙ ap (λ t. Some (text v ++ tail t)) r.1 ∙ ap (λ t. Some (text t ++ tail (onto (words x) rest))) (sym r.0.1),
            (subst fit (sym r.0.1) q.1, r.2),
          )

-- the same limits, said otherwise
pub fits_so : {A : Type 0} {f : Left → Option (A × Left)} {words : A → List (List ℕ)} {P Q : A → Type 0} → ((x : A) → P x → Q x) → ((x : A) → Q x → P x) → Lays f words P → Lays f words Q
fits_so to from l = record {
  back = λ ws x rest h. let q = l.back ws x rest h in (q.0, q.1, to x q.2);
  forth = λ x rest p h. l.forth x rest p (from x h);
  plain = λ x h. l.plain x (from x h);
}

-- a section word
pub record Names (name : List ℕ) : Type 0 where
  pub is : as_section name (told name) ≡ true
  pub plain : Plain name

-- a section word and its count
pub heading : {name : List ℕ} → Names name → Lays (heading_of name) (λ n. name ∷ decimal n ∷ []) Small
heading {name = name} b = record {
  back = λ ws n rest h. cases ws n rest (next_word ws) refl h;
  forth = λ n rest p h.
      ap (λ o. then {B = ℕ × Left} o (λ w. cond (as_section name w.0) (next_field as_number w.1) None)) (word_forth name (Some (decimal n ++ tail rest)) b.plain)
      ∙ cond-true (as_section name (told name)) _ None b.is
      ∙ field_forth number_laws n h rest;
  plain = λ n h. (b.plain, (number_laws.plain n h, tt));
}
  where
    cases : (ws : Left) (n : ℕ) (rest : Left) (o : Option (Said × Left)) → next_word ws ≡ o → then {B = ℕ × Left} o (λ w. cond (as_section name w.0) (next_field as_number w.1) None) ≡ Some (n, rest) → Unit {0} × (ws ≡ Some (name ++ (32 ∷ (decimal n ++ tail rest)))) × Small n
    cases ws n rest None e k = none_some k
    cases ws n rest (Some w) e k =
        let c = cond_some (as_section name w.0) _ _ k in
        let d = field_back number_laws w.1 n rest c.1 in (
          tt,
          word_back ws w.0 w.1 e
              ∙ ap (λ t. Some (t ++ tail w.1)) (section_only name w.0 c.0)
              ∙ ap (λ r. Some (name ++ tail r)) d.0,
          d.1,
        )

-- the words of a whole line

onto_joined : (w : List ℕ) (ws : List (List ℕ)) → onto (w ∷ ws) None ≡ Some (joined (w ∷ ws))
onto_joined w [] = ap Some (append-nil w)
onto_joined w (v ∷ vs) = ap (λ r. Some (w ++ tail r)) (onto_joined v vs)

-- a line that is read to its end is its words
pub onto_line : (ws : List (List ℕ)) (bs : List ℕ) → Some bs ≡ onto ws None → bs ≡ joined ws
onto_line [] bs h = none_some (sym h)
onto_line (w ∷ ws) bs h = same_Some _ _ (h ∙ onto_joined w ws)

pub line_onto : (ws : List (List ℕ)) → 1 ≤ length ws → Some (joined ws) ≡ onto ws None
line_onto [] h = absurd (omega arith)
line_onto (w ∷ ws) h = sym (onto_joined w ws)

pub joined_ends : (ws : List (List ℕ)) → AllByRecursion Plain ws → lacks 10 (joined ws) ≡ true
joined_ends [] h = refl
joined_ends (w ∷ []) h = h.0.no_end
joined_ends (w ∷ v ∷ vs) h = lacks-++ 10 w (32 ∷ joined (v ∷ vs)) h.0.no_end (joined_ends (v ∷ vs) h.1)

pub joined_short : (ws : List (List ℕ)) → AllByRecursion Plain ws → length (joined ws) ≤ 11 * length ws
joined_short [] h = omega arith
joined_short (w ∷ []) h = omega (arith, h.0.short)
joined_short (w ∷ v ∷ vs) h = omega (arith, h.0.short, joined_short (v ∷ vs) h.1, length-append w (32 ∷ joined (v ∷ vs)))
