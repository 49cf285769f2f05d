-- Each field is read from what it is written as, and from nothing else.
use Rattle.std.proofs.Common.{◌≡◌, ℕ, zero, suc, ◌<◌, ◌≤◌, true, cond, List, [], ◌∷◌, length, get_or, ℤ, pos, negsuc, neg_ℤ, nat_abs, Some, None, codes, decimal, Option, sym, refl, ap, ◌∙◌, subst, arith}
use Rattle.std.specs.Option.{option_map, option_to_list}
use Rattle.std.specs.Int.{is_in_range}
use Rattle.std.specs.Fmt.{signed_decimal}
use Rattle.std.specs.List.{AllByRecursion}
use Rattle.std.specs.Str.{all_ascii_digits, bytes_eq}
use Rattle.std.proofs.lemmas.Fmt.{digits_decimal, decimal_nonempty, decimal_digit, first_decimal, length-decimal-le}
use Rattle.std.proofs.lemmas.Slice.Eq.{bytes_eq-Decides}
use Rattle.std.proofs.lemmas.Bool.Decides.{nat_tests}
use Rattle.records.specs.declared.card.Soil.{Soil}
use Rattle.records.specs.declared.card.Soil.TheVariants.{I, II, III}
use Rattle.records.specs.declared.card.Group.{Group}
use Rattle.records.specs.declared.card.Group.TheVariants.{B, A, AA}
use Rattle.records.specs.declared.card.Walls.{Walls}
use Rattle.records.specs.declared.card.Walls.TheVariants.{Tied, Detached}
use Rattle.tokens.specs.Fields.{as_number, as_height, as_load, as_period, as_mark, storey}
use Rattle.tokens.specs.Marks.{soil_named, group_named, walls_named}
use Rattle.tokens.specs.Numbers.{Small, number_of, negated}
use Rattle.tokens.specs.Said.{Said, section, numeral, minus, mark, told}
use Rattle.tokens.specs.Written.{height_text, period_text, soil_text, group_text, walls_text}
use Rattle.tokens.proofs.Cutting.{lacks}
use Rattle.tokens.proofs.Decimals.{own, forth, back}
use Rattle.std.proofs.lemmas.Option.{same_Some}
use Rattle.tokens.proofs.Options.{none_some, mapped_back, cond_some}
use Rattle.tokens.proofs.Words.{Plain, spelled}

-- m reads what text writes, of a value that fits, and nothing else
pub record Laws {X : Type 0} (m : Said → Option X) (text : X → List ℕ) (fits : X → Type 0) : Type 0 where
  pub only : (s : Said) (x : X) → m s ≡ Some x → (spelled s ≡ text x) × fits x
  pub means : (x : X) → fits x → m (told (text x)) ≡ Some x
  pub plain : (x : X) → fits x → Plain (text x)

-- digits

digits_lack : (c : ℕ) (bs : List ℕ) → c < 48 → all_ascii_digits bs ≡ true → lacks c bs ≡ true
digits_lack c [] less h = refl
digits_lack c (b ∷ bs) less h = grind (arith, nat_tests, digits_lack c bs)

told_digits : (bs : List ℕ) → 0 < length bs → all_ascii_digits bs ≡ true → told bs ≡ numeral bs
told_digits [] some h = absurd (omega arith)
told_digits (b ∷ bs) some h = grind (arith, nat_tests)

first_most : (bs : List ℕ) → 0 < length bs → all_ascii_digits bs ≡ true → get_or bs 0 0 ≤ 57
first_most [] some h = absurd (omega arith)
first_most (b ∷ bs) some h = grind (arith, nat_tests)

module _ (n : ℕ) (h : Small n) where
  all_digits : all_ascii_digits (decimal n) ≡ true
  all_digits = digits_decimal own n (omega arith)

  some_digits : 0 < length (decimal n)
  some_digits = decimal_nonempty n (omega arith)

  nine_digits : length (decimal n) ≤ 9
  nine_digits = length-decimal-le 9 n (omega arith) h (omega arith)

  told_decimal : told (decimal n) ≡ numeral (decimal n)
  told_decimal = told_digits (decimal n) some_digits all_digits

  plain_decimal : Plain (decimal n)
  plain_decimal = record {
    no_space = digits_lack 32 (decimal n) (omega arith) all_digits;
    no_end = digits_lack 10 (decimal n) (omega arith) all_digits;
    short = omega (arith, nine_digits);
  }

-- numbers and heights

number_only : (s : Said) (n : ℕ) → as_number s ≡ Some n → (spelled s ≡ decimal n) × Small n
number_only (section w) n h = none_some h
number_only (numeral w) n h = back w n h
number_only (minus w) n h = none_some h
number_only (mark w) n h = none_some h

pub number_laws : Laws as_number decimal Small
number_laws = record {
  only = number_only;
  means = λ n h. ap as_number (told_decimal n h) ∙ forth n h;
  plain = plain_decimal;
}

pub height_laws : Laws as_height height_text (λ h. Small h.0)
height_laws = record {
  only = λ s x h.
      let q = mapped_back storey (as_number s) x h in
      subst (λ t. (spelled s ≡ height_text t) × Small t.0) (sym q.2) (number_only s q.0 q.1);
  means = λ x h. ap (option_map storey) (number_laws.means x.0 h);
  plain = λ x h. plain_decimal x.0 h;
}

-- loads

-- a number that begins with a digit 1 to 9 is not 0
above_none : (b : ℕ) (bs : List ℕ) (n : ℕ) → is_in_range 49 57 b ≡ true → number_of (b ∷ bs) ≡ Some n → 0 < n
above_none b bs zero first h =
    let t : b ∷ bs ≡ 48 ∷ [] = (back (b ∷ bs) 0 h).0 ∙ decimal_digit 0 (omega arith) in
    let e : b ≡ 48 = cc in
    absurd (grind (arith, nat_tests))
above_none b bs (suc n) first h = omega arith

negative_only : (b : List ℕ) (n : ℕ) → 0 < n → (b ≡ decimal n) × Small n → (45 ∷ b ≡ signed_decimal (neg_ℤ (pos n))) × Small (nat_abs (neg_ℤ (pos n)))
negative_only b zero more e = absurd (omega arith)
negative_only b (suc n) more e = (ap (λ l. 45 ∷ l) e.0, e.1)

load_only : (s : Said) (z : ℤ) → as_load s ≡ Some z → (spelled s ≡ signed_decimal z) × Small (nat_abs z)
load_only (section w) z h = none_some h
load_only (numeral w) z h =
    let q = mapped_back pos (number_of w) z h in
    subst (λ y. (w ≡ signed_decimal y) × Small (nat_abs y)) (sym q.2) (back w q.0 q.1)
load_only (minus []) z h = none_some h
load_only (minus (b ∷ bs)) z h =
    let c = cond_some (is_in_range 49 57 b) _ z h in
    let q = mapped_back (λ n. neg_ℤ (pos n)) (number_of (b ∷ bs)) z c.1 in
    subst (λ y. (45 ∷ b ∷ bs ≡ signed_decimal y) × Small (nat_abs y)) (sym q.2) (negative_only (b ∷ bs) q.0 (above_none b bs q.0 c.0 q.1) (back (b ∷ bs) q.0 q.1))
load_only (mark w) z h = none_some h

-- a minus before a digit 1 to 9
negated_number : (bs : List ℕ) → 0 < length bs → 49 ≤ get_or bs 0 0 → get_or bs 0 0 ≤ 57 → negated bs ≡ option_map (λ n. neg_ℤ (pos n)) (number_of bs)
negated_number [] h low high = absurd (omega arith)
negated_number (b ∷ bs) h low high = grind (arith, nat_tests)

load_means : (z : ℤ) → Small (nat_abs z) → as_load (told (signed_decimal z)) ≡ Some z
load_means (pos n) h = ap as_load (told_decimal n h) ∙ ap (option_map pos) (forth n h)
load_means (negsuc n) h =
    negated_number (decimal (suc n)) (some_digits (suc n) h) (let f = first_decimal (suc n) (omega arith) (omega arith) in omega arith) (first_most (decimal (suc n)) (some_digits (suc n) h) (all_digits (suc n) h))
    ∙ ap (option_map (λ k. neg_ℤ (pos k))) (forth (suc n) h)

load_plain : (z : ℤ) → Small (nat_abs z) → Plain (signed_decimal z)
load_plain (pos n) h = plain_decimal n h
load_plain (negsuc n) h =
    let p = plain_decimal (suc n) h in
    record { no_space = p.no_space; no_end = p.no_end; short = omega (arith, nine_digits (suc n) h) }

pub load_laws : Laws as_load signed_decimal (λ z. Small (nat_abs z))
load_laws = record { only = load_only; means = load_means; plain = load_plain }

-- periods

period_only : (s : Said) (o : Option ℕ) → as_period s ≡ Some o → (spelled s ≡ period_text o) × AllByRecursion Small (option_to_list o)
period_only (section w) o h = none_some h
period_only (numeral w) o h =
    let q = mapped_back Some (number_of w) o h in
    let b = back w q.0 q.1 in
    subst (λ p. (w ≡ period_text p) × AllByRecursion Small (option_to_list p)) (sym q.2) (b.0, (b.1, tt))
period_only (minus []) o h = subst (λ p. (45 ∷ [] ≡ period_text p) × AllByRecursion Small (option_to_list p)) (same_Some _ _ h) (refl, tt)
period_only (minus (b ∷ bs)) o h = none_some h
period_only (mark w) o h = none_some h

period_means : (o : Option ℕ) → AllByRecursion Small (option_to_list o) → as_period (told (period_text o)) ≡ Some o
period_means None h = refl
period_means (Some n) h = ap as_period (told_decimal n h.0) ∙ ap (option_map Some) (forth n h.0)

period_plain : (o : Option ℕ) → AllByRecursion Small (option_to_list o) → Plain (period_text o)
period_plain None h = record { no_space = refl; no_end = refl; short = omega arith }
period_plain (Some n) h = plain_decimal n h.0

pub period_laws : Laws as_period period_text (λ o. AllByRecursion Small (option_to_list o))
period_laws = record { only = period_only; means = period_means; plain = period_plain }

-- marks

-- every mark fits
abbrev pub Any : {X : Type 0} → X → Type 0
Any x = Unit {0}

mark_only : {X : Type 0} (named : List ℕ → Option X) (text : X → List ℕ) → ((w : List ℕ) (x : X) → named w ≡ Some x → w ≡ text x) → (s : Said) (x : X) → as_mark named s ≡ Some x → (spelled s ≡ text x) × Any x
mark_only named text only (section w) x h = none_some h
mark_only named text only (numeral w) x h = none_some h
mark_only named text only (minus w) x h = none_some h
mark_only named text only (mark w) x h = (only w x h, tt)

-- the first of the marks, or a later one
one_mark : {X : Type 0} (text : X → List ℕ) (w t : List ℕ) (m x : X) (o : Option X) → t ≡ text m → (o ≡ Some x → w ≡ text x) → cond (bytes_eq w t) (Some m) o ≡ Some x → w ≡ text x
one_mark text w t m x o e later h = grind (arith, bytes_eq-Decides w t)

soil_means : (s : Soil) → Any s → as_mark soil_named (told (soil_text s)) ≡ Some s
soil_means I h = refl
soil_means II h = refl
soil_means III h = refl

soil_plain : (s : Soil) → Any s → Plain (soil_text s)
soil_plain I h = record { no_space = refl; no_end = refl; short = omega arith }
soil_plain II h = record { no_space = refl; no_end = refl; short = omega arith }
soil_plain III h = record { no_space = refl; no_end = refl; short = omega arith }

pub soil_laws : Laws (as_mark soil_named) soil_text Any
soil_laws = record {
  only = mark_only soil_named soil_text (λ w x.
      one_mark soil_text w (codes "I") I x _ refl (one_mark soil_text w (codes "II") II x _ refl (one_mark soil_text w (codes "III") III x None refl none_some)));
  means = soil_means;
  plain = soil_plain;
}

group_means : (g : Group) → Any g → as_mark group_named (told (group_text g)) ≡ Some g
group_means B h = refl
group_means A h = refl
group_means AA h = refl

group_plain : (g : Group) → Any g → Plain (group_text g)
group_plain B h = record { no_space = refl; no_end = refl; short = omega arith }
group_plain A h = record { no_space = refl; no_end = refl; short = omega arith }
group_plain AA h = record { no_space = refl; no_end = refl; short = omega arith }

pub group_laws : Laws (as_mark group_named) group_text Any
group_laws = record {
  only = mark_only group_named group_text (λ w x.
      one_mark group_text w (codes "B") B x _ refl (one_mark group_text w (codes "A") A x _ refl (one_mark group_text w (codes "AA") AA x None refl none_some)));
  means = group_means;
  plain = group_plain;
}

walls_means : (w : Walls) → Any w → as_mark walls_named (told (walls_text w)) ≡ Some w
walls_means Tied h = refl
walls_means Detached h = refl

walls_plain : (w : Walls) → Any w → Plain (walls_text w)
walls_plain Tied h = record { no_space = refl; no_end = refl; short = omega arith }
walls_plain Detached h = record { no_space = refl; no_end = refl; short = omega arith }

pub walls_laws : Laws (as_mark walls_named) walls_text Any
walls_laws = record {
  only = mark_only walls_named walls_text (λ w x.
      one_mark walls_text w (codes "W") Tied x _ refl (one_mark walls_text w (codes "N") Detached x None refl none_some));
  means = walls_means;
  plain = walls_plain;
}
