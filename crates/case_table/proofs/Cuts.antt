-- A line that is cut in two, and again.
use Rattle.std.proofs.Common.{◌≡◌, ℕ, ◌+◌, ◌<◌, ◌≤◌, List, ◌++◌, length, drop, Option, Some, None, MatchOption, Bor, sym, ap, ◌∙◌, ⊎_elim, arith, append_assoc, length-append}
use Rattle.std.proofs.Math.Seq.{drop-append_seam, drop-append-add}
use Rattle.std.proofs.lemmas.List.{drop-append-le}
use Rattle.std.proofs.lemmas.Bool.{cases_lt}
use Rattle.std.proofs.lemmas.Str.Pattern.{split_text_parts}
use Rattle.std.specs.Str.Pattern.{FindsText, SplitsAroundMatch}
use Rattle.case_table.specs.Cases.{Lacks, IsCut, IsCase, IsNoCase, colon, arrow}

-- what std says of a split at a text, in the words of a cut
pub cut_at : (mark text : List ℕ) (r : Option (Bor (List ℕ) × Bor (List ℕ)))
    → MatchOption r (FindsText mark text None) (λ p. SplitsAroundMatch (FindsText mark) text p.0.now p.1.now)
    → MatchOption r (Lacks mark text) (λ p. IsCut mark text p.0.now p.1.now)
cut_at mark text None h = split_text_parts mark text None h
cut_at mark text (Some p) h = record { whole = split_text_parts mark text (Some p) h; first = λ i lt. h.2.0 i (omega (arith, lt, h.6)) }

-- what stands after the first mark still has the stop that stands after some mark
pub still_ahead : (mark stop text front back name input output : List ℕ) → IsCut mark text front back
    → text ≡ name ++ (mark ++ (input ++ (stop ++ output)))
    → (ahead : List ℕ) × (back ≡ ahead ++ (stop ++ output))
still_ahead mark stop text front back name input output cut e =
    (drop n before, sym behind ∙ ap (drop n) (e ∙ joined) ∙ drop-append-le n before (stop ++ output) within)
  where
    n : ℕ
    n = length front + length mark

    before : List ℕ
    before = name ++ (mark ++ input)

    joined : name ++ (mark ++ (input ++ (stop ++ output))) ≡ before ++ (stop ++ output)
    joined =
        ap (λ (xs : List ℕ). name ++ xs) (sym (append_assoc mark input (stop ++ output)))
        ∙ sym (append_assoc name (mark ++ input) (stop ++ output))

    behind : drop n text ≡ back
    behind = ap (drop n) cut.whole ∙ drop-append-add front (mark ++ back) (length mark) ∙ drop-append_seam mark back

    rest : List ℕ
    rest = input ++ (stop ++ output)

    at_name : drop (length name) text ≡ mark ++ rest
    at_name = ap (drop (length name)) e ∙ drop-append_seam name (mark ++ rest)

    reaches : length front ≤ length name
    reaches =
        ⊎_elim
        (λ (lt : length name < length front). absurd (cut.first (length name) lt rest at_name))
        (λ le. le)
        (cases_lt (length name) (length front))

    within : n ≤ length before
    within = omega (arith, reaches, length-append name (mark ++ input), length-append mark input)

-- what a line is, once what follows its first colon is cut
pub after_colon : (line name case : List ℕ) (r : Option (Bor (List ℕ) × Bor (List ℕ))) → IsCut colon line name case
    → MatchOption r (Lacks arrow case) (λ p. IsCut arrow case p.0.now p.1.now)
    → MatchOption r (IsNoCase line) (λ p. IsCase line p.0.now p.1.now)
after_colon line name case None named none =
    λ name' input output e. let a = still_ahead colon arrow line name case name' input output named e in none a.0 output a.1
after_colon line name case (Some p) named parted = record { name = name; case = case; named = named; parted = parted }
