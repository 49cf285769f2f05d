-- What is told of each storey as it is response, place by place.
use Rattle.std.proofs.Common.{◌≡◌, ℕ, zero, suc, ◌+◌, ◌<◌, List, [], ◌∷◌, ◌++◌, length, get_or, take, map, refl, sym, ap, ◌∙◌, arith}
use Rattle.std.proofs.lemmas.List.{take_more, get_or-map, length-map}
use Rattle.records.specs.declared.card.Card.{Card}
use Rattle.seismic.specs.declared.response.Response.{Response}
use Rattle.seismic.specs.declared.storey.Storey.{Storey}
use Rattle.seismic.specs.Responses.{response, responses, map_placed}

pub length_placed : {X Y : Type 0} (f : ℕ → X → Y) (k : ℕ) (xs : List X) → length (map_placed f k xs) ≡ length xs
length_placed f k [] = refl
length_placed f k (x ∷ xs) = ap suc (length_placed f (k + 1) xs)

-- what is made of the element over i others
pub get_or_placed :
    {X Y : Type 0} (f : ℕ → X → Y) (k : ℕ) (xs : List X) (i : ℕ) (d : Y) (e : X) → i < length xs
    → get_or (map_placed f k xs) i d ≡ f (k + i) (get_or xs i e)
get_or_placed f k [] i d e h = absurd (omega arith)
get_or_placed f k (x ∷ xs) zero d e h = ap (λ (n : ℕ). f n x) (let z : k ≡ k + 0 = omega arith in z)
get_or_placed f k (x ∷ xs) (suc i) d e h =
    get_or_placed f (k + 1) xs i d e (omega arith)
    ∙ ap (λ (n : ℕ). f n (get_or xs i e)) (let z : (k + 1) + i ≡ k + suc i = omega arith in z)

-- the storey over i others, as it is response
pub response_at :
    (card : Card) (ss : List Storey) (i : ℕ) (d : Storey) (l : Response) → i < length ss
    → get_or (responses card ss) i l ≡ response card ss i (get_or ss i d)
response_at card ss i d l h =
    get_or_placed (response card ss) 0 ss i l d h
    ∙ ap (λ (n : ℕ). response card ss n (get_or ss i d)) (let z : 0 + i ≡ i = omega arith in z)

pub length_told : {Y : Type 0} (f : Response → Y) (card : Card) (ss : List Storey) → length (map f (responses card ss)) ≡ length ss
length_told f card ss = length-map (responses card ss) f ∙ length_placed (response card ss) 0 ss

-- what is told of the first storeys, with one more
pub told_more :
    {Y : Type 0} (f : Response → Y) (card : Card) (ss : List Storey) (i : ℕ) (d : Storey) (l : Response) → i < length ss
    → l ≡ response card ss i (get_or ss i d) → take (i + 1) (map f (responses card ss)) ≡ take i (map f (responses card ss)) ++ f l ∷ []
told_more {Y} f card ss i d l h e =
    let told = map f (responses card ss) in
    let at : get_or (map f (responses card ss)) i (f l) ≡ f l = get_or-map f (responses card ss) i l (f l) (omega (arith, h, length_placed (response card ss) 0 ss)) ∙ ap f (response_at card ss i d l h ∙ sym e) in
    take_more told i (f l) (omega (arith, h, length_told f card ss)) ∙ ap (λ (y : Y). take i told ++ y ∷ []) at
