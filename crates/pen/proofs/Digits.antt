-- The digits of a number before what is written of a line.
use Rattle.std.proofs.Common.{◌≡◌, ℕ, ◌+◌, ◌-◌, ◌^◌, ◌<◌, ◌≤◌, false, suc, List, [], ◌∷◌, ◌++◌, length, drop, set, ℤ, pos, negsuc, FitsSigned, w64, int_le, decimal, unsigned_abs, ap, ◌∙◌, arith}
use Rattle.std.proofs.lemmas.Fmt.{length-decimal-le}
use Rattle.std.proofs.lemmas.List.{drop-set, drop_all}
use Rattle.std.specs.Fmt.{signed_decimal}
use Rattle.itoa.proofs.Decimal.{minus_first}

-- a number of 32 bits has at most ten digits
pub short_digits : (n : ℕ) → n < 2 ^ 32 → length (decimal n) ≤ 10
short_digits n few = length-decimal-le 10 n (omega arith) (omega arith) (omega arith)

-- one of 64 bits has at most 20
pub long_digits : (n : ℕ) → n < 2 ^ 64 → length (decimal n) ≤ 20
long_digits n few = length-decimal-le 20 n (omega arith) (omega arith) few

-- one of 63 bits at most 19
pub absolute_digits : (n : ℕ) → n ≤ 2 ^ 63 → length (decimal n) ≤ 19
absolute_digits n few = length-decimal-le 19 n (omega arith) (omega arith) (omega arith)

-- and a sign before them
pub signed_digits : (z : ℤ) → FitsSigned w64 z → length (signed_decimal z) ≤ 20
signed_digits (pos n) h = let fits = h.sfits in omega (arith, absolute_digits n (omega arith))
signed_digits (negsuc n) h = let fits = h.sfits in omega (arith, absolute_digits (suc n) (omega arith))

-- a minus before the digits of a negative number makes its text
pub minus_before :
    (z : ℤ) (at : ℕ) (bytes rest : List ℕ) → int_le (pos 0) z ≡ false → 1 ≤ at → at ≤ length bytes
    → drop at bytes ≡ decimal (unsigned_abs z) ++ rest → drop (at - 1) (set bytes (at - 1) 45) ≡ signed_decimal z ++ rest
minus_before z at bytes rest negative some within digits =
    let e : at - 1 + 1 ≡ at = omega arith in
    drop-set bytes (at - 1) 45 (omega arith)
    ∙ ap (λ (k : ℕ). 45 ∷ drop k bytes) e
    ∙ ap (λ (text : List ℕ). 45 ∷ text) digits
    ∙ ap (λ (text : List ℕ). text ++ rest) (minus_first z negative)

-- from its end on nothing is left of the room of a line
pub none_left : (bytes : List ℕ) → length bytes ≡ 160 → drop 160 bytes ≡ []
none_left bytes long = drop_all 160 bytes (omega arith)
