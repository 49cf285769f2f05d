-- An order file at the front of a longer text.
use Rattle.std.proofs.Common.{◌≡◌, ℕ, ◌+◌, ◌-◌, ◌≤◌, List, [], ◌∷◌, ◌++◌, length, take, drop, IfOk, Ok, Err, codes, Result, sym, refl, ap, ◌∙◌, subst, append_assoc, arith, length-append}
use Rattle.std.proofs.Math.Seq.{drop-append_seam}
use Rattle.std.specs.Option.{option_to_list}
use Rattle.records.specs.declared.failure.Failure.{Failure}
use Rattle.records.specs.declared.failure.Failure.TheVariants.{Denied, NoMemory}
use Rattle.tokens.specs.Faults.{fault_line}
use Rattle.tokens.specs.Text.{joined, line_of}
use Rattle.tokens.specs.declared.fault.Fault.{Fault}
use Rattle.order_file.specs.declared.front.Front.{Front}
use Rattle.order_file.specs.File.{Filed, filed, sections}
use Rattle.order_file.specs.First.{Shares}
use Rattle.order_file.specs.Front.{FrontAs, ExactlyBegun, rest_after, front_within, FrontWithin}
use Rattle.order_file.specs.Lines.{card_line, LinedUp}
use Rattle.order_file.specs.Render.{kit_words, level_words, load_words, card_words, count_words, lines_of, section_text, render}
use Rattle.order_file.specs.Sections.{Place, next}
use Rattle.order_file.proofs.Begun.{sections_begun, sections_on}
use Rattle.order_file.proofs.First.{first_fault_ahead}
use Rattle.order_file.proofs.FirstBytes.{Kept, sections_front}
use Rattle.order_file.proofs.NoSurplus.{no_surplus}
use Rattle.order_file.proofs.Standing.{lined_up}
use Rattle.order_file.proofs.Steps.{err_ok, ok_same, err_same, go_on}
use Rattle.order_file.proofs.Whole.{sections_parse, to_fits, text, sections_forth}

-- what follows the text of a file only comes after it

line_before : (ws : List (List ℕ)) (a b : List ℕ) → line_of ws (a ++ b) ≡ line_of ws a ++ b
line_before ws a b = sym (append_assoc (joined ws) (10 ∷ a) b)

lines_before : {A : Type 0} (words : A → List (List ℕ)) (xs : List A) (a b : List ℕ) → lines_of words xs (a ++ b) ≡ lines_of words xs a ++ b
lines_before words [] a b = refl
lines_before words (x ∷ xs) a b = ap (line_of (words x)) (lines_before words xs a b) ∙ line_before (words x) (lines_of words xs a) b

section_before : {A : Type 0} (name : List ℕ) (words : A → List (List ℕ)) (xs : List A) (s a b : List ℕ) → s ≡ a ++ b → section_text name words xs s ≡ section_text name words xs a ++ b
section_before name words xs s a b is =
    ap (section_text name words xs) is
    ∙ ap (line_of (count_words name (length xs))) (lines_before words xs a b)
    ∙ line_before (count_words name (length xs)) (lines_of words xs a) b

text_before : (f : Filed) (rest : List ℕ) → text f rest ≡ render f ++ rest
text_before f rest =
    section_before (codes "KIT") kit_words (option_to_list f.kit) _ _ rest
    (section_before (codes "LEVELS") level_words f.levels _ _ rest
    (section_before (codes "LOADS") load_words f.loads _ _ rest
    (section_before (codes "CARD") card_words (f.card ∷ []) rest [] rest refl)))

-- the text that was read is that of the records, and then the rest
module _ (bs : List ℕ) (f : Filed) (p : Place) (is : sections (bs, 1) ≡ Ok (f, p)) where
  begins : bs ≡ render f ++ p.0
  begins = (sections_parse.back (bs, 1) f p is).1 ∙ text_before f p.0

  taken : length bs ≡ length (render f) + length p.0
  taken = ap length begins ∙ length-append (render f) p.0

  -- what is left is no longer than what there was
  pub left_shorter : length p.0 ≤ length bs
  left_shorter = omega (arith, taken)

-- the first bytes tell what the whole text comes to

same_rest : (bs : List ℕ) (f : Filed) (j : ℕ) (r : List ℕ) (n : ℕ) → sections (bs, 1) ≡ Ok (f, (r, n)) → sections (take 8192 bs, 1) ≡ Ok (f, (take j r, n)) → rest_after bs (take j r) ≡ r
same_rest bs f j r n is first =
    let count : length (take 8192 bs) - length (take j r) ≡ length (render f) = omega (arith, taken (take 8192 bs) f (take j r, n) first) in
    ap (λ m. drop m bs) count ∙ ap (drop (length (render f))) (begins bs f (r, n) is) ∙ drop-append_seam (render f) r

abbrev Told : Result (Filed × Place) Fault → Result (Filed × List ℕ) Fault → Type 0
Told (Ok p) d = (d ≡ Ok (p.0, p.1.0)) × (p.1.1 ≡ card_line p.0 + 1)
Told (Err e) d = d ≡ Err e

within_told : (bs : List ℕ) → Told (sections (bs, 1)) (front_within bs)
within_told bs = cases (sections (bs, 1)) refl (sections_front bs)
  where
    cases : (o : Result (Filed × Place) Fault) → sections (bs, 1) ≡ o → Kept 8192 3394 o (sections (take 8192 bs, 1)) → Told o (front_within bs)
    cases (Err e) is k = ap (λ t. next t (λ f p. Ok (f, rest_after bs p.0))) k
    cases (Ok (f, (r, n))) is k = (go_on (λ g p. Ok (g, rest_after bs p.0)) k.1 ∙ ap (λ s. Ok (f, s)) (same_rest bs f k.0 r n is k.1), sections_on bs f (r, n) is)

told_so : (o : Result (Filed × Place) Fault) (d : Result (Filed × List ℕ) Fault) → Told o d → (r : Result Front (Failure Fault)) → FrontWithin r d → FrontAs r o
told_so (Ok (g, (s, n))) d t (Ok f) h =
    subst (λ (x : Filed × List ℕ). ◌≡◌ {A = Result (Filed × Place) Fault} (Ok (g, (s, n))) (Ok (x.0, (x.1, card_line x.0 + 1)))) (ok_same (sym t.0 ∙ h))
    (ap (λ m. Ok (g, (s, m))) t.1)
told_so (Ok p) d t (Err (Denied e)) h = err_ok (sym h ∙ t.0)
told_so (Err e) d t (Ok f) h = err_ok (sym t ∙ h)
told_so (Err e) d t (Err (Denied x)) h = ap Err (err_same (sym t ∙ h))
told_so o d t (Err NoMemory) h = tt

pub front_told : (r : Result Front (Failure Fault)) (bs : List ℕ) → FrontWithin r (front_within bs) → FrontAs r (sections (bs, 1))
front_told r bs h = told_so (sections (bs, 1)) (front_within bs) (within_told bs) r h

-- what holds of every front that is read as the definition says

pub front_exact : (r : Result Front (Failure Fault)) (bs : List ℕ) → FrontAs r (sections (bs, 1)) → ExactlyBegun r bs
front_exact (Ok f) bs h = record { written = begins bs (filed f.file) _ h; fits = to_fits (filed f.file) (sections_parse.back (bs, 1) (filed f.file) _ h).2 }
front_exact (Err (Denied e)) bs h = record {
  unwritten = λ f rest fits is. err_ok (sym h ∙ ap (λ t. sections (t, 1)) (is ∙ sym (text_before f rest)) ∙ (sections_forth f rest fits).1);
  faulty = λ f rest fits shared. first_fault_ahead bs e h f rest fits (subst (Shares (fault_line e) bs) (sym (text_before f rest)) shared);
  first = sections_begun bs e h;
  no_surplus = no_surplus (bs, 1) e h;
}
front_exact (Err NoMemory) bs h = tt

pub front_lines : (r : Result Front (Failure Fault)) (bs : List ℕ) → FrontAs r (sections (bs, 1)) → IfOk r (λ f. LinedUp (filed f.file) bs)
front_lines (Ok f) bs h =
    let a = sections_parse.back (bs, 1) (filed f.file) _ h in
    subst (LinedUp (filed f.file)) (sym a.1) (lined_up (filed f.file) (to_fits (filed f.file) a.2) f.rest.now)
front_lines (Err e) bs h = tt
