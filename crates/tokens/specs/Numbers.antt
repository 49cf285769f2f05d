-- How a number is laid out.
use Rattle.std.specs.Prelude.{ℕ, ◌+◌, ◌-◌, ◌*◌, ◌^◌, ◌<◌, Bool, false, cond, List, [], ◌∷◌, length, ℤ, pos, neg_ℤ, Some, None, Option, ◌==◌, nat_le}
use Rattle.std.specs.Option.{option_map}
use Rattle.std.specs.Int.{is_in_range}
use Rattle.std.specs.Char.{is_ascii_digit}

-- a number of at most nine digits
abbrev pub Small : ℕ → Type 0
Small n = n < 10 ^ 9

-- the number that some digits go on to write after n
abbrev pub onward : ℕ → List ℕ → Option ℕ
onward n [] = Some n
onward n (b ∷ bs) = cond (is_ascii_digit b) (onward (n * 10 + (b - 48)) bs) None

-- 0, or a digit 1 to 9 and up to eight more
abbrev pub number_of : List ℕ → Option ℕ
number_of [] = None
number_of (b ∷ bs) =
    cond (b == 48)
    (cond (length bs == 0) (Some 0) None)
    (cond (is_in_range 49 57 b) (cond (nat_le (length bs) 8) (onward (b - 48) bs) None) None)

-- a digit 1 to 9 comes first
abbrev pub led : List ℕ → Bool
led [] = false
led (b ∷ bs) = is_in_range 49 57 b

-- what follows a minus is a number that begins with a digit 1 to 9
abbrev pub negated : List ℕ → Option ℤ
negated bs = cond (led bs) (option_map (λ n. neg_ℤ (pos n)) (number_of bs)) None
