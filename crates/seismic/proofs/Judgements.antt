-- What the tests of a storey's limits say of its row.
use Rattle.std.proofs.Common.{◌≡◌, ℕ, ◌+◌, ◌*◌, ◌<◌, ◌≤◌, true, false, List, map, slice_get, Some, option_map, leb, sym, ap, ◌∙◌, subst, inl, inr, arith}
use Rattle.std.proofs.lemmas.Bool.{and_cases, and_parts, leb-true, leb-false, ltb-true, ltb-false}
use Rattle.std.proofs.lemmas.Option.{slice_get-map}
use Rattle.records.specs.declared.card.Card.{Card}
use Rattle.records.specs.declared.level.Level.{Level}
use Rattle.cards.specs.Shears.{factor}
use Rattle.seismic.specs.declared.response.Response.{Response}
use Rattle.seismic.specs.declared.row.Row.{Row}
use Rattle.seismic.specs.declared.storey.Storey.{Storey}
use Rattle.seismic.specs.declared.verdict.Limit.{Limit}
use Rattle.seismic.specs.declared.verdict.Limit.TheVariants.{Drift, Eccentricity, SecondOrder, Gap}
use Rattle.seismic.specs.declared.verdict.Verdict.{Verdict}
use Rattle.seismic.specs.declared.verdict.Verdict.TheVariants.{Pass, Fail}
use Rattle.seismic.specs.Laws.{Judged, Keeps, StoreyBreaks, StoreyKeeps}
use Rattle.seismic.specs.Limits.{breaks, first_broken}
use Rattle.seismic.specs.Responses.{response, responses}
use Rattle.seismic.specs.Storeys.{sheared}
use Rattle.seismic.specs.Verdicts.{judged, verdict_of}
use Rattle.seismic.proofs.Places.{made_at, made_from}
use Rattle.seismic.proofs.RowPlaces.{rows_at, the_row, the_rows, by_storey, twist_stands}
use Rattle.seismic.proofs.StoreyPlaces.{level_of, levels_stand, weights_stand}
use Rattle.seismic.proofs.Verdicts.{each_passes, one_fails, nothing_broken, something_broken, none_broken, first_broken_is}

module _ (card : Card) (amount : ℕ) (ls : List Level) where
  abbrev ss : List Storey
  ss = sheared amount ls

  abbrev rows : List Row
  rows = the_rows card amount ls

  -- the storey s, response where it is over i others
  abbrev here : ℕ → Storey → Response
  here i s = response card ss i s

  module _ (i : ℕ) (s : Storey) where
    abbrev Kept : Limit → Type 0
    Kept limit = Keeps card ls rows i s.level (the_row card amount ls i s) limit

    -- what the storey resists
    abbrev resisted : ℕ
    resisted = 8 * (card.load_factor * (s.shear * s.level.height.0))

    -- a limit whose test fails is kept
    kept : (limit : Limit) → breaks card (here i s) limit ≡ false → Kept limit
    kept Drift e = ltb-false _ _ e
    kept Eccentricity e =
        λ (ductile : 30 ≤ factor card).
        elim (and_cases (leb 30 (factor card)) _ e) [
          | inl a ↦ absurd (omega (arith, leb-false 30 (factor card) a))
          | inr b ↦ omega (arith, ltb-false _ _ b, twist_stands card amount ls i s)
        ]
    kept SecondOrder e = subst (λ (w : ℕ). 100 * ((here i s).drift * w) ≤ resisted) (weights_stand amount ls i) (ltb-false _ _ e)
    kept Gap e = ltb-false _ _ e

    -- and one whose test holds is not
    not_kept : (limit : Limit) → breaks card (here i s) limit ≡ true → ¬ Kept limit
    not_kept Drift e = λ k. omega (arith, ltb-true _ _ e, k)
    not_kept Eccentricity e =
        λ k.
        let p = and_parts (leb 30 (factor card)) _ e in
        omega (arith, ltb-true _ _ p.1, twist_stands card amount ls i s, k (leb-true _ _ p.0))
    not_kept SecondOrder e =
        λ k.
        let over = subst (λ (w : ℕ). resisted < 100 * ((here i s).drift * w)) (weights_stand amount ls i) (ltb-true _ _ e) in
        omega (arith, over, k)
    not_kept Gap e = λ k. omega (arith, ltb-true _ _ e, k)

  abbrev verdict_on : ℕ → Storey → Verdict
  verdict_on i s = judged card (here i s)

  abbrev verdicts : List Verdict
  verdicts = map (judged card) (responses card ss)

  -- the verdict at a place is that on the storey there
  verdicts_at : (i : ℕ) → slice_get verdicts i ≡ option_map (verdict_on i) (slice_get ss i)
  verdicts_at i = made_at (judged card) (response card ss) 0 i i ss (omega arith)

  -- where a limit's test fails on the storey at a place, the level and the row there keep the limit
  storey_keeps :
      (i : ℕ) (limit : Limit) → ((s : Storey) → slice_get ss i ≡ Some s → breaks card (here i s) limit ≡ false)
      → StoreyKeeps card ls rows i limit
  storey_keeps i limit whole =
      by_storey card amount ls (λ (l : Level) (r : Row). Keeps card ls rows i l r limit) i (λ s own at. kept i s limit (whole s at))

  -- a storey whose verdict passes keeps every limit
  passing_keeps : (i : ℕ) → ((v : Verdict) → slice_get verdicts i ≡ Some v → v ≡ Pass) → (limit : Limit) → StoreyKeeps card ls rows i limit
  passing_keeps i passes limit =
      storey_keeps i limit (λ s at.
      let pass = passes (verdict_on i s) (verdicts_at i ∙ ap (option_map (verdict_on i)) at) in
      none_broken (breaks card (here i s)) (nothing_broken (i + 1) (first_broken card (here i s)) pass) limit)

  -- a storey whose test holds is there, and breaks the limit
  storey_breaks :
      (i : ℕ) (s : Storey) (limit : Limit) → slice_get ss i ≡ Some s → breaks card (here i s) limit ≡ true
      → StoreyBreaks card ls rows i limit
  storey_breaks i s limit at broken = record {
    level = s.level;
    row = the_row card amount ls i s;
    level_at = ap (λ (ms : List Level). slice_get ms i) (sym (levels_stand amount ls)) ∙ slice_get-map level_of ss i ∙ ap (option_map level_of) at;
    row_at = rows_at card ss i ∙ ap (option_map (the_row card amount ls i)) at;
    broken = not_kept i s limit broken;
  }

  -- the verdict on the storeys judges the rows
  pub well_judged : (v : Verdict) → verdict_of card (sheared amount ls) ≡ v → Judged card ls rows v
  well_judged Pass e = λ i. passing_keeps i (λ v at. each_passes verdicts i v e at)
  well_judged (Fail n limit) e =
      let f = one_fails verdicts n limit e in
      let i = f.place in
      let from = made_from (verdict_on i) (slice_get ss i) (Fail n limit) (sym (verdicts_at i) ∙ f.at) in
      let s = from.0 in
      let broken = something_broken (i + 1) n (first_broken card (here i s)) limit from.2 in
      let first = first_broken_is (breaks card (here i s)) limit broken.1 in (
        i,
        broken.0,
        storey_breaks i s limit from.1 first.0,
        (λ j other less. passing_keeps j (λ v at. f.below j v less at) other),
        (λ other less. storey_keeps i other (λ x at.
            let same : s ≡ x = cc (from.1, at) in
            subst (λ (y : Storey). breaks card (here i y) other ≡ false) same (first.1 other less))),
      )
