-- How far a walk up the storeys has come, with the rows and the verdict that it leaves.
use Rattle.std.proofs.Common.{◌≡◌, ℕ, ◌+◌, ◌-◌, ◌*◌, ◌<◌, ◌≤◌, List, [], ◌∷◌, ◌++◌, length, get_or, set, take, drop, map, sum_by, Option, refl, sym, ap, ◌∙◌, take_all, arith}
use Rattle.std.proofs.lemmas.List.{take_more_set}
use Rattle.std.proofs.lemmas.List.Elements.{All-from_recursion}
use Rattle.std.proofs.lemmas.List.Sums.{sum_by_more, sum_by-drop_more}
use Rattle.records.specs.declared.card.Card.{Card}
use Rattle.seismic.specs.declared.response.Response.{Response}
use Rattle.seismic.specs.declared.row.Row.{Row}
use Rattle.seismic.specs.declared.storey.Storey.{Storey}
use Rattle.seismic.specs.declared.verdict.Limit.{Limit}
use Rattle.seismic.specs.declared.verdict.Verdict.{Verdict}
use Rattle.seismic.specs.declared.verdict.Verdict.TheVariants.{Pass, Fail}
use Rattle.seismic.specs.declared.walk.Walk.{Walk}
use Rattle.seismic.specs.Bounds.{AreBounded, IsBounded, IsResponseBounded}
use Rattle.seismic.specs.Limits.{first_broken}
use Rattle.seismic.specs.Responses.{drift, moment, weight, response, responses}
use Rattle.seismic.specs.Rows.{row_of, rows_of}
use Rattle.seismic.specs.Verdicts.{first_failed, judged, of_storey, or_then, verdict_of}
use Rattle.seismic.specs.Walks.{CanMeet, met, past, walk_at}
use Rattle.seismic.proofs.Bounds.{moments_most, weights_most, rest_most}
use Rattle.seismic.proofs.Responses.{length_told, told_more}

-- past the first i storeys, with their rows written and judged
pub record Walked (card : Card) (ss : List Storey) (i : ℕ) (w : Walk) (out : List Row) (v : Verdict) : Type 0 where
  pub walk : w ≡ walk_at card ss i
  pub near : w.displacement ≤ i * 4800000000
  pub rows : take i out ≡ take i (rows_of card ss)
  pub verdict : v ≡ first_failed (take i (map (judged card) (responses card ss)))

-- the walk can go on past the next storey
pub meets :
    {card : Card} {ss : List Storey} {i : ℕ} {w : Walk} {out : List Row} {v : Verdict} → Walked card ss i w out v → AreBounded ss
    → i < length ss → (d : Storey) → CanMeet w (get_or ss i d)
meets {card} {ss} {i} {w} on b h d =
    let few : i ≤ 23 = omega (arith, h, b.few) in
    let moments : w.moment ≡ sum_by moment (drop i ss) = ap (λ (x : Walk). x.moment) on.walk in
    let weights : w.weight ≡ sum_by weight (drop i ss) = ap (λ (x : Walk). x.weight) on.walk in
    record {
      storey = All-from_recursion IsBounded ss b.each i d h;
      passed = omega (arith, few, ap (λ (x : Walk). x.passed) on.walk);
      displacement = omega (arith, few, on.near);
      part_of_moment = omega (arith, moments, sum_by-drop_more moment ss i d h);
      moment_most = omega (arith, moments, rest_most moment ss i _ (moments_most ss b));
      part_of_weight = omega (arith, weights, sum_by-drop_more weight ss i d h);
      weight_most = omega (arith, weights, rest_most weight ss i _ (weights_most ss b));
    }

-- the next storey as the walk meets it is as the sheet tells it
met_loaded :
    (card : Card) (ss : List Storey) (i : ℕ) (d : Storey) → i < length ss
    → met card (walk_at card ss i) (get_or ss i d) ≡ response card ss i (get_or ss i d)
met_loaded card ss i d h = let x = sum_by_more (drift card) ss i d h in cc

past_walk :
    (card : Card) (ss : List Storey) (i : ℕ) (d : Storey) → i < length ss
    → past card (walk_at card ss i) (get_or ss i d) ≡ walk_at card ss (i + 1)
past_walk card ss i d h =
    let x = sum_by_more (drift card) ss i d h in
    let m : sum_by moment (drop i ss) - moment (get_or ss i d) ≡ sum_by moment (drop (i + 1) ss) = omega (arith, sum_by-drop_more moment ss i d h) in
    let w : sum_by weight (drop i ss) - weight (get_or ss i d) ≡ sum_by weight (drop (i + 1) ss) = omega (arith, sum_by-drop_more weight ss i d h) in
    cc

-- one more verdict comes last
first_failed_push : (vs : List Verdict) (v : Verdict) → first_failed (vs ++ v ∷ []) ≡ or_then (first_failed vs) v
first_failed_push [] Pass = refl
first_failed_push [] (Fail n l) = refl
first_failed_push (Pass ∷ vs) v = first_failed_push vs v
first_failed_push (Fail n l ∷ vs) v = refl

-- one storey more
pub walked_more :
    {card : Card} {ss : List Storey} {i : ℕ} {w : Walk} {out : List Row} {v : Verdict} → Walked card ss i w out v → i < length ss
    → length out ≡ length ss
    → (d : Storey) (l : Response) → l ≡ met card w (get_or ss i d) → IsResponseBounded l → (w' : Walk) → w' ≡ past card w (get_or ss i d)
    → (r : Row) → r ≡ row_of card l → (b : Option Limit) → b ≡ first_broken card l → (v' : Verdict) → v' ≡ or_then v (of_storey l.number b)
    → Walked card ss (i + 1) w' (set out i r) v'
walked_more {card} {ss} {i} {w} {out} {v} on h same d l el low w' ew r er b eb v' ev =
    let s = get_or ss i d in
    let u : l.drift ≡ drift card (get_or ss i d) = ap (λ (x : Response). x.drift) el in
    let x : w'.displacement ≡ w.displacement + drift card (get_or ss i d) = ap (λ (x : Walk). x.displacement) ew in
    let at : l ≡ response card ss i (get_or ss i d) = el ∙ ap (λ (x : Walk). met card x s) on.walk ∙ met_loaded card ss i d h in
    record {
      walk = ew ∙ ap (λ (x : Walk). past card x s) on.walk ∙ past_walk card ss i d h;
      near = omega (arith, on.near, low.drift, u, x);
      rows =
          take_more_set out i r (omega (arith, h, same))
          ∙ ap (λ (rs : List Row). rs ++ r ∷ []) on.rows
          ∙ ap (λ (y : Row). take i (rows_of card ss) ++ y ∷ []) er
          ∙ sym (told_more (row_of card) card ss i d l h at);
      verdict =
          ev
          ∙ ap (λ (o : Option Limit). or_then v (of_storey l.number o)) eb
          ∙ ap (λ (y : Verdict). or_then y (judged card l)) on.verdict
          ∙ sym (first_failed_push (take i (map (judged card) (responses card ss))) (judged card l))
          ∙ ap first_failed (sym (told_more (judged card) card ss i d l h at));
    }

-- past the last storey, all rows are written
pub all_rows :
    {card : Card} {ss : List Storey} {i : ℕ} {w : Walk} {out : List Row} {v : Verdict} → Walked card ss i w out v → length ss ≤ i
    → length out ≡ length ss → out ≡ rows_of card ss
all_rows {card} {ss} {i} {w} {out} on end same =
    sym (take_all i out (omega (arith, end, same))) ∙ on.rows
    ∙ take_all i (rows_of card ss) (omega (arith, end, length_told (row_of card) card ss))

-- and all are judged
pub all_judged :
    {card : Card} {ss : List Storey} {i : ℕ} {w : Walk} {out : List Row} {v : Verdict} → Walked card ss i w out v → length ss ≤ i
    → v ≡ verdict_of card ss
all_judged {card} {ss} {i} on end =
    on.verdict
    ∙ ap first_failed (take_all i (map (judged card) (responses card ss)) (omega (arith, end, length_told (judged card) card ss)))
