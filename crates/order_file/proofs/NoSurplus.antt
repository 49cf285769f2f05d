-- The sections have no fault of surplus.
use Rattle.std.proofs.Common.{◌≡◌, ◌≢◌, ℕ, zero, suc, Bool, true, false, cond, ◌&&◌, eqb, leb, List, [], ◌∷◌, Some, None, Ok, Err, codes, Option, Result, sym, subst}
use Rattle.records.specs.declared.kit_numbers.KitNumbers.{KitNumbers}
use Rattle.tokens.specs.Cuts.{cut_at}
use Rattle.tokens.specs.TextLines.{Left, heading_of}
use Rattle.tokens.specs.declared.fault.Fault.{Fault}
use Rattle.tokens.specs.declared.fault.Fault.TheVariants.{Layout, Count, Surplus}
use Rattle.order_file.specs.File.{most_levels, sections}
use Rattle.order_file.specs.Records.{read_kit, read_level, read_load, read_card}
use Rattle.order_file.specs.Sections.{Place, next, to_the_end, laid_out, record_line, record_lines, count_line, section_of_up_to}
use Rattle.order_file.proofs.Steps.{err_ok, err_same, or_next, cut_line}

abbrev Plain : Fault → Type 0
Plain (Surplus n) = ⊥
Plain (Layout n) = Unit {0}
Plain (Count n) = Unit {0}

-- each fault of the step is plain
record PlainStep {A : Type 0} (step : Place → Result (A × Place) Fault) : Type 0 where
  at : (p : Place) (e : Fault) → step p ≡ Err e → Plain e

none_plain : {A : Type 0} (x : A) → PlainStep (λ q. Ok (x, q))
none_plain x = record { at = λ p e h. err_ok (sym h) }

and_plain : {A B : Type 0} {step : Place → Result (A × Place) Fault} {c : A → Place → Result (B × Place) Fault} → PlainStep step → ((x : A) → PlainStep (c x)) → PlainStep (λ p. next (step p) c)
and_plain {step = step} {c = c} first later = record { at = λ p e h. or_next (step p) c e h (first.at p e) (λ x q good. (later x).at q e) }

record_plain : {A : Type 0} (f : Left → Option (A × Left)) → PlainStep (record_line f)
record_plain {A = X} f = record { at = λ p e h. cases p e (cut_at 10 p.0) h }
  where
    laid : (n : ℕ) (q : Place) (o : Option X) (e : Fault) → laid_out n q o ≡ Err e → Plain e
    laid n q None e h = subst Plain (err_same h) tt
    laid n q (Some x) e h = err_ok (sym h)

    cases : (p : Place) (e : Fault) (o : Option (List ℕ × List ℕ)) → cut_line f p.1 o ≡ Err e → Plain e
    cases p e None h = subst Plain (err_same h) tt
    cases p e (Some c) h = laid p.1 _ (to_the_end (f (Some c.0))) e h

records_plain : {A : Type 0} (f : Left → Option (A × Left)) (n : ℕ) → PlainStep (record_lines f n)
records_plain f zero = none_plain []
records_plain f (suc n) = and_plain (record_plain f) (λ x. and_plain (records_plain f n) (λ xs. none_plain (x ∷ xs)))

count_plain : (least most : ℕ) (name : List ℕ) → PlainStep (count_line least most name)
count_plain least most name = record {
  at = λ p e h.
      or_next (record_line (heading_of name) p) _ e h ((record_plain (heading_of name)).at p e)
      (λ n q good k. tested p.1 (leb least n && leb n most) (n, q) e k);
}
  where
    tested : (l : ℕ) (t : Bool) (x : ℕ × Place) (e : Fault) → cond {A = Result (ℕ × Place) Fault} t (Ok x) (Err (Count l)) ≡ Err e → Plain e
    tested l true x e h = err_ok (sym h)
    tested l false x e h = subst Plain (err_same h) tt

section_plain : {A : Type 0} (most : ℕ) (f : Left → Option (A × Left)) (name : List ℕ) → PlainStep (section_of_up_to most f name)
section_plain most f name = and_plain (count_plain 0 most name) (records_plain f)

kit_or_none : (t : Bool) → PlainStep (λ q. cond t (Ok (None, q)) (next {B = Option KitNumbers × Place} (record_line read_kit q) (λ k r. Ok (Some k, r))))
kit_or_none true = none_plain None
kit_or_none false = and_plain (record_plain read_kit) (λ k. none_plain (Some k))

sections_plain : PlainStep sections
sections_plain =
    and_plain (and_plain (count_plain 0 1 (codes "KIT")) (λ n. kit_or_none (eqb n 0))) (λ kit.
    and_plain (section_plain (most_levels kit) read_level (codes "LEVELS")) (λ levels.
    and_plain (section_plain 64 read_load (codes "LOADS")) (λ loads.
    and_plain (and_plain (count_plain 1 1 (codes "CARD")) (λ n. record_plain read_card)) (λ card.
    none_plain (record { kit = kit; levels = levels; loads = loads; card = card })))))

pub no_surplus : (p : Place) (e : Fault) → sections p ≡ Err e → (n : ℕ) → e ≢ Surplus n
no_surplus p e h n is = subst Plain is (sections_plain.at p e h)
