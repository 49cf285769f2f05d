-- The rows of a sheet, place by place, and what their sums are sums of.
use Rattle.std.proofs.Common.{◌≡◌, ℕ, ◌+◌, ◌*◌, List, [], ◌∷◌, length, take, drop, map, sum_by, slice_get, Some, option_map, sym, refl, ap, ◌∙◌, subst, arith}
use Rattle.std.proofs.lemmas.List.{drop-map, length-map}
use Rattle.std.proofs.lemmas.List.Sums.{sum_by-cons}
use Rattle.std.specs.Int.{abs_diff}
use Rattle.records.specs.declared.card.Card.{Card}
use Rattle.records.specs.declared.level.Level.{Level}
use Rattle.seismic.specs.declared.row.Row.{Row}
use Rattle.seismic.specs.declared.storey.Storey.{Storey}
use Rattle.seismic.specs.Laws.{moment_of, twist_at}
use Rattle.seismic.specs.Responses.{drift, response, moment, twist}
use Rattle.seismic.specs.Rows.{row_of, rows_of}
use Rattle.seismic.specs.Storeys.{sheared}
use Rattle.seismic.proofs.Places.{made_at, made_by_map, made_from, equal_from, equal_up_to}
use Rattle.seismic.proofs.StoreyPlaces.{force_of, level_of, levels_stand, storey_stands}

abbrev row_force : Row → ℕ
row_force r = r.force

abbrev row_drift : Row → ℕ
row_drift r = r.drift

-- rows of some storeys under a card
module _ (card : Card) (ss : List Storey) where
  -- the row of the storey s, which is over i others
  abbrev pub row_at : ℕ → Storey → Row
  row_at i s = row_of card (response card ss i s)

  -- the row at a place is that of the storey there
  pub rows_at : (i : ℕ) → slice_get (rows_of card ss) i ≡ option_map (row_at i) (slice_get ss i)
  rows_at i = made_at (row_of card) (response card ss) 0 i i ss (omega arith)

  -- each row is that of a storey
  pub row_from : (i : ℕ) (r : Row) → slice_get (rows_of card ss) i ≡ Some r → (s : Storey) × (slice_get ss i ≡ Some s) × (row_at i s ≡ r)
  row_from i r e = made_from (row_at i) (slice_get ss i) r (sym (rows_at i) ∙ e)

  forces : map row_force (rows_of card ss) ≡ map force_of ss
  forces = made_by_map (row_of card) (response card ss) row_force force_of (λ k s. refl) 0 ss

  drifts : map row_drift (rows_of card ss) ≡ map (drift card) ss
  drifts = made_by_map (row_of card) (response card ss) row_drift (drift card) (λ k s. refl) 0 ss

  pub forces_from : (i : ℕ) → sum_by row_force (drop i (rows_of card ss)) ≡ sum_by force_of (drop i ss)
  forces_from = equal_from row_force force_of (rows_of card ss) ss forces

  pub drifts_up_to : (i : ℕ) → sum_by row_drift (take i (rows_of card ss)) ≡ sum_by (drift card) (take i ss)
  drifts_up_to = equal_up_to row_drift (drift card) (rows_of card ss) ss drifts

  row_a_storey : length (rows_of card ss) ≡ length ss
  row_a_storey = sym (length-map (rows_of card ss) row_force) ∙ ap length forces ∙ length-map ss force_of

-- rows with the forces of some storeys, on the levels of these, have their moments
moments :
    (ls : List Level) (rows : List Row) (ss : List Storey) → map level_of ss ≡ ls → map row_force rows ≡ map force_of ss
    → moment_of ls rows ≡ sum_by moment ss
moments [] rows [] el er = refl
moments (l ∷ ls) [] [] el er = refl
moments [] rows (s ∷ ss) el er = cc
moments (l ∷ ls) [] (s ∷ ss) el er = cc
moments (l ∷ ls) (r ∷ rows) [] el er = cc
moments (l ∷ ls) (r ∷ rows) (s ∷ ss) el er =
    let level : s.level ≡ l = cc in
    let force : r.force ≡ s.force = cc in
    let later : map level_of ss ≡ ls = cc in
    let later_force : map row_force rows ≡ map force_of ss = cc in
    let one : r.force * l.mass_centre ≡ moment s = cc in
    ap (λ (n : ℕ). n + moment_of ls rows) one ∙ ap (λ (n : ℕ). moment s + n) (moments ls rows ss later later_force) ∙ sym (sum_by-cons moment s ss)

-- the rows of the levels, with an amount spread over their storeys
module _ (card : Card) (amount : ℕ) (ls : List Level) where
  abbrev ss : List Storey
  ss = sheared amount ls

  abbrev pub the_rows : List Row
  the_rows = rows_of card ss

  abbrev pub the_row : ℕ → Storey → Row
  the_row i s = row_at card ss i s

  pub row_a_level : length the_rows ≡ length ls
  row_a_level = row_a_storey card ss ∙ sym (length-map ss level_of) ∙ ap length (levels_stand amount ls)

  -- what holds of each storey's own level and row holds of the level and the row at its place
  pub by_storey :
      (P : Level → Row → Type 0) (i : ℕ)
      → ((s : Storey) → slice_get ls i ≡ Some s.level → slice_get (sheared amount ls) i ≡ Some s → P s.level (the_row i s))
      → (l : Level) (r : Row) → slice_get ls i ≡ Some l → slice_get the_rows i ≡ Some r → P l r
  by_storey P i holds l r el er =
      let from = row_from card ss i r er in
      let level = (storey_stands amount ls i l from.0 el from.1).level in
      subst (P l) from.2 (subst (λ (m : Level). P m (the_row i from.0)) level (holds from.0 (el ∙ ap Some (sym level)) from.1))

  -- |N| is that of the levels and the rows
  pub twist_stands : (i : ℕ) (s : Storey) → twist s (drop i ss) ≡ twist_at ls the_rows i s.level (the_row i s)
  twist_stands i s =
      let levels = sym (drop-map level_of i ss) ∙ ap (drop i) (levels_stand amount ls) in
      let rows = sym (drop-map row_force i the_rows) ∙ ap (drop i) (forces card ss) ∙ drop-map force_of i ss in
      let sums = moments (drop i ls) (drop i the_rows) (drop i ss) levels rows in
      ap (λ (n : ℕ). abs_diff n (s.shear * s.level.torsion_centre)) (sym sums)
