-- How long a line of short words is.
use Rattle.std.proofs.Common.{ℕ, ◌+◌, ◌*◌, ◌^◌, ◌<◌, ◌≤◌, List, [], ◌∷◌, length, ℤ, decimal, arith, length-append}
use lib.Signed.{mag}
use Rattle.std.proofs.lemmas.Fmt.{length-decimal-le, length_signed_le}
use Rattle.std.specs.Fmt.{signed_decimal}
use Rattle.std.specs.List.{AllByRecursion}
use Rattle.tokens.specs.Text.{joined, line_of}

-- no word has more than 14 bytes
abbrev pub WordsShort : List (List ℕ) → Type 0
WordsShort ws = AllByRecursion (λ (w : List ℕ). length w ≤ 14) ws

-- nor has a number of at most 13 digits
pub number_short : (n : ℕ) → n < 10 ^ 13 → length (decimal n) ≤ 14
number_short n few = omega (arith, length-decimal-le 13 n (omega arith) few (omega arith))

-- nor one with a sign
pub signed_short : (z : ℤ) → mag z + 1 < 10 ^ 13 → length (signed_decimal z) ≤ 14
signed_short z few = length_signed_le 13 z few (omega arith)

-- a byte stands after each word but the last
joined_short : (ws : List (List ℕ)) → WordsShort ws → length (joined ws) ≤ 15 * length ws
joined_short [] h = omega arith
joined_short (w ∷ []) h = omega (arith, h.0)
joined_short (w ∷ v ∷ vs) h = omega (arith, h.0, joined_short (v ∷ vs) h.1, length-append w (32 ∷ joined (v ∷ vs)))

-- and one ends the line
pub line_short : (ws : List (List ℕ)) → WordsShort ws → length (line_of ws []) ≤ 15 * length ws + 1
line_short ws h = omega (arith, joined_short ws h, length-append (joined ws) (10 ∷ []))
