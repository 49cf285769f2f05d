-- A run of bytes, cut in two.
use Rattle.std.specs.Prelude.{ℕ, ◌+◌, cond, not, List, length, take, drop, Some, None, Option, ◌==◌, nat_lt}
use Rattle.std.specs.List.{prefix_len}

-- how many bytes stand before the first c
abbrev pub ahead : ℕ → List ℕ → ℕ
ahead c bs = prefix_len (λ b. not (b == c)) bs

-- what stands before the first c, and what stands after it
abbrev pub cut_at : ℕ → List ℕ → Option (List ℕ × List ℕ)
cut_at c bs = cond (nat_lt (ahead c bs) (length bs)) (Some (take (ahead c bs) bs, drop (ahead c bs + 1) bs)) None

-- the first word of some bytes, from where they are cut at their first space
abbrev pub first_word : Option (List ℕ × List ℕ) → List ℕ → List ℕ
first_word None bs = bs
first_word (Some p) bs = p.0

-- what follows that space
abbrev pub later_words : Option (List ℕ × List ℕ) → Option (List ℕ)
later_words None = None
later_words (Some p) = Some p.1
