-- A word is told from its bytes, and from no others.
use Rattle.std.proofs.Common.{◌≡◌, ℕ, ◌≤◌, true, List, [], ◌∷◌, ◌++◌, length, Some, None, Option, sym, refl, ap, arith, ◌∙◌, append-nil, rules}
use Rattle.std.proofs.lemmas.Slice.Eq.{bytes_eq-Decides}
use Rattle.std.proofs.lemmas.Bool.Decides.{nat_tests}
use Rattle.tokens.specs.Cuts.{cut_at, first_word, later_words}
use Rattle.tokens.specs.Said.{Said, section, numeral, minus, mark, told, as_section}
use Rattle.tokens.specs.TextLines.{Left, next_word}
use Rattle.tokens.proofs.Cutting.{lacks, cut_none, cut_here, cut_back}
use Rattle.std.proofs.lemmas.Option.{same_Some}
use Rattle.tokens.proofs.Options.{none_some}

-- a word that a line can hold, and not a long one
pub record Plain (w : List ℕ) : Type 0 where
  pub no_space : lacks 32 w ≡ true
  pub no_end : lacks 10 w ≡ true
  pub short : length w ≤ 10

-- the bytes of a word
abbrev pub spelled : Said → List ℕ
spelled (section w) = w
spelled (numeral w) = w
spelled (minus w) = 45 ∷ w
spelled (mark w) = w

-- what is left of a line stands after a space
abbrev pub tail : Left → List ℕ
tail None = []
tail (Some bs) = 32 ∷ bs

spelled_told : (w : List ℕ) → spelled (told w) ≡ w
spelled_told [] = refl
spelled_told (b ∷ bs) = grind (arith, nat_tests)

pub word_forth : (w : List ℕ) (rest : Left) → Plain w → next_word (Some (w ++ tail rest)) ≡ Some (told w, rest)
word_forth w None h =
    ap (λ l. next_word (Some l)) (append-nil w) ∙ ap (λ o. Some (told (first_word o w), later_words o)) (cut_none 32 w h.no_space)
word_forth w (Some bs) h = ap (λ o. Some (told (first_word o (w ++ (32 ∷ bs))), later_words o)) (cut_here 32 w bs h.no_space)

pub word_back : (ws : Left) (s : Said) (rest : Left) → next_word ws ≡ Some (s, rest) → ws ≡ Some (spelled s ++ tail rest)
word_back None s rest h = none_some h
word_back (Some bs) s rest h = cases (cut_at 32 bs) refl h
  where
    cases : (o : Option (List ℕ × List ℕ)) → cut_at 32 bs ≡ o → ◌≡◌ {A = Option (Said × Left)} (Some (told (first_word o bs), later_words o)) (Some (s, rest)) → ◌≡◌ {A = Left} (Some bs) (Some (spelled s ++ tail rest))
    cases None e k =
        let q = same_Some _ _ k in
        ap Some (sym (spelled_told bs) ∙ sym (append-nil _) ∙ ap (λ t. spelled t.0 ++ tail t.1) q)
    cases (Some p) e k =
        let q = same_Some _ _ k in
        ap Some (cut_back 32 bs p e ∙ ap (λ l. l ++ (32 ∷ p.1)) (sym (spelled_told p.0)) ∙ ap (λ t. spelled t.0 ++ tail t.1) q)

pub section_only : (name : List ℕ) (s : Said) → as_section name s ≡ true → spelled s ≡ name
section_only name (section w) h = (bytes_eq-Decides w name).0 h
section_only name (numeral w) h = absurd (search rules)
section_only name (minus w) h = absurd (search rules)
section_only name (mark w) h = absurd (search rules)
