-- A line without the byte that ends it.
use Rattle.std.proofs.Common.{◌≡◌, ℕ, List, [], ◌∷◌, ◌++◌, length, take, sym, refl, ap, ap₂, ◌∙◌, arith, length-append}
use Rattle.std.proofs.lemmas.List.{take_at}

-- two lists with one element more are one, then so are the lists
pub one_less : (xs ys : List ℕ) (a b : ℕ) → xs ++ a ∷ [] ≡ ys ++ b ∷ [] → xs ≡ ys
one_less xs ys a b e =
    let more = ap length e in
    let long : length xs ≡ length ys = omega (arith, more, length-append xs (a ∷ []), length-append ys (b ∷ [])) in
    sym (take_at xs (a ∷ []) (length xs) refl) ∙ ap₂ take long e ∙ take_at ys (b ∷ []) (length ys) refl
