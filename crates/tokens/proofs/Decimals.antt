-- A number is laid out as `decimal` writes it.
use Rattle.std.proofs.Common.{◌≡◌, ℕ, zero, suc, ◌+◌, ◌-◌, ◌*◌, ◌^◌, ◌<◌, ◌≤◌, true, List, [], ◌∷◌, length, get_or, Some, decimal, sym, refl, ap, ◌∙◌, arith, rules}
use Rattle.std.specs.Str.{all_ascii_digits}
use Rattle.std.proofs.lemmas.Str.Parse.{IsNumeralModel, numerals_by_fold, digits_value_short}
use Rattle.std.proofs.lemmas.Fmt.{digits_decimal, digits_value-decimal, length-decimal-le, decimal_nonempty, first_decimal, decimal-digits_value, decimal_digit}
use Rattle.std.proofs.lemmas.Bool.Decides.{nat_tests}
use Rattle.std.proofs.lemmas.List.{nil_from_length}
use Rattle.tokens.specs.Numbers.{onward, number_of}
use Rattle.tokens.proofs.Options.{none_some}

abbrev pub read_on : ℕ → List ℕ → ℕ
read_on n [] = n
read_on n (c ∷ cs) = read_on (n * 10 + (c - 48)) cs

pub own : IsNumeralModel (λ ds. all_ascii_digits ds ≡ true) (read_on 0)
own = numerals_by_fold _ (search rules) read_on (search rules)

onward_some : (n : ℕ) (bs : List ℕ) → all_ascii_digits bs ≡ true → onward n bs ≡ Some (read_on n bs)
onward_some n [] h = refl
onward_some n (b ∷ bs) h = grind (arith, nat_tests, onward_some (n * 10 + (b - 48)) bs)

onward_back : (n m : ℕ) (bs : List ℕ) → onward n bs ≡ Some m → (all_ascii_digits bs ≡ true) × (m ≡ read_on n bs)
onward_back n m [] h = (refl, cc)
onward_back n m (b ∷ bs) h = grind (arith, nat_tests, onward_back (n * 10 + (b - 48)) m bs)

numbered : (bs : List ℕ) → all_ascii_digits bs ≡ true → 0 < length bs → length bs ≤ 9 → (get_or bs 0 0 ≡ 48 → length bs ≡ 1) → number_of bs ≡ Some (read_on 0 bs)
numbered [] d some few lone = absurd (omega arith)
numbered (b ∷ []) d some few lone = grind (arith, nat_tests)
numbered (b ∷ e ∷ bs) d some few lone = grind (arith, nat_tests, onward_some (b - 48) (e ∷ bs))

lone_zero : (n : ℕ) → n < 10 ^ 9 → get_or (decimal n) 0 0 ≡ 48 → length (decimal n) ≡ 1
lone_zero zero h first = ap length (decimal_digit 0 (omega arith))
lone_zero (suc n) h first = absurd (omega (arith, first_decimal (suc n) (omega arith) (omega arith)))

pub forth : (n : ℕ) → n < 10 ^ 9 → number_of (decimal n) ≡ Some n
forth n h =
    numbered (decimal n) (digits_decimal own n (omega arith)) (decimal_nonempty n (omega arith)) (length-decimal-le 9 n (omega arith) h (omega arith)) (lone_zero n h)
    ∙ ap Some (digits_value-decimal own n (omega arith))

back_digits : (b n : ℕ) (bs : List ℕ) → 49 ≤ b → b ≤ 57 → length bs ≤ 8 → onward (b - 48) bs ≡ Some n → (b ∷ bs ≡ decimal n) × (n < 10 ^ 9)
back_digits b n bs low high few h =
    let r = onward_back (b - 48) n bs h in
    let all : all_ascii_digits (b ∷ bs) ≡ true = grind (arith, nat_tests) in
    let value : n ≡ read_on 0 (b ∷ bs) = r.1 ∙ ap (λ k. read_on k bs) (omega arith) in
    let small : read_on 0 (b ∷ bs) < 10 ^ 9 = digits_value_short own (b ∷ bs) 9 all (omega arith) in (
      sym (decimal-digits_value own (b ∷ bs) all (omega arith) (λ zero_first. absurd (omega arith)) (omega arith)) ∙ ap decimal (sym value),
      omega arith,
    )

zero_back : (n : ℕ) (bs : List ℕ) → length bs ≡ 0 → n ≡ 0 → 48 ∷ bs ≡ decimal n
zero_back n bs none e = ap (λ l. 48 ∷ l) (nil_from_length bs none) ∙ sym (decimal_digit 0 (omega arith)) ∙ ap decimal (sym e)

pub back : (bs : List ℕ) (n : ℕ) → number_of bs ≡ Some n → (bs ≡ decimal n) × (n < 10 ^ 9)
back [] n h = none_some h
back (b ∷ bs) n h = grind (arith, nat_tests, zero_back n bs, back_digits b n bs)
