-- A text falls apart at each byte 10 as it is cut there, line by line.
use Rattle.std.proofs.Common.{◌≡◌, ℕ, ◌+◌, ◌<◌, ◌≤◌, Bool, true, false, cond, not, eqb, ltb, List, [], ◌∷◌, length, Some, None, refl, ap, ◌∙◌, arith}
use Rattle.std.specs.List.{slice_split, onto_first}
use Rattle.std.proofs.lemmas.Bool.{ltb-true}
use Rattle.std.proofs.lemmas.Bool.Decides.{nat_tests}
use Rattle.std.proofs.lemmas.List.Splits.{slice_split_first, length-slice_split}
use Rattle.std.proofs.lemmas.Option.{cond_some}
use Rattle.tokens.specs.Cuts.{ahead, cut_at}

-- the lines, and what stands after the last byte 10
abbrev pub parts : List ℕ → List (List ℕ)
parts bs = slice_split (λ b. eqb b 10) bs

-- even of an empty text
pub some_parts : (bs : List ℕ) → 0 < length (parts bs)
some_parts bs = omega (arith, length-slice_split (λ b. eqb b 10) bs)

-- where a line ends
pub cut_parts : (bs : List ℕ) (c : List ℕ × List ℕ) → cut_at 10 bs ≡ Some c → parts bs ≡ c.0 ∷ parts c.1
cut_parts bs c h =
    let q = cond_some (ltb (ahead 10 bs) (length bs)) _ c h in
    slice_split_first (λ b. eqb b 10) bs 0 (ltb-true _ _ q.0) ∙ ap (λ (d : List ℕ × List ℕ). d.0 ∷ parts d.1) q.1

-- a text without byte 10 is one part
whole_part : (bs : List ℕ) → length bs ≤ ahead 10 bs → parts bs ≡ bs ∷ []
whole_part [] h = refl
whole_part (b ∷ bs) h = cases (eqb b 10) h (whole_part bs)
  where
    cases : (t : Bool) → length (b ∷ bs) ≤ cond (not t) (1 + ahead 10 bs) 0 → (length bs ≤ ahead 10 bs → parts bs ≡ bs ∷ []) → cond t ([] ∷ parts bs) (onto_first b (parts bs)) ≡ (b ∷ bs) ∷ []
    cases true k later = absurd (omega arith)
    cases false k later = ap (onto_first b) (later (omega arith))

-- where no line ends
pub uncut_parts : (bs : List ℕ) → cut_at 10 bs ≡ None → parts bs ≡ bs ∷ []
uncut_parts bs h = whole_part bs (grind (arith, nat_tests))
