-- What the judgement of a load says of its level, its size and the lines, and back.
use Rattle.std.proofs.Common.{◌≡◌, ℕ, zero, suc, true, cond, not, ◌==◌, nat_le, List, length, ℤ, pos, negsuc, ◌+ℤ◌, ◌≤ℤ◌, Some, None, Ok, Err, Option, Result, inl, inr, add-one, sym, refl, ap, ◌∙◌, subst, arith}
use Rattle.std.proofs.lemmas.Bool.{and_from, both_ways, cond_both, leb-false, not-false, and_parts, cases_lt, eqb-false, ne_eqb, not-true, cond-true, cond-false, leb-true, le-leb, lt-leb, not_from_true, not_from_false, false_from_ne_true}
use Rattle.std.proofs.lemmas.Int.{ints}
use Rattle.std.proofs.lemmas.Option.{same_Some}
use Rattle.records.specs.declared.level.Level.{Level}
use Rattle.records.specs.declared.line.Line.{Line}
use Rattle.records.specs.Ranges.{weight_fits}
use Rattle.frames.specs.Levels.{level_at}
use Rattle.frames.specs.Lists.{none_over}
use Rattle.frames.specs.Places.{at_beyond}
use Rattle.orders.specs.declared.denial.OrderDenial.{OrderDenial}
use Rattle.orders.specs.declared.denial.OrderDenial.TheVariants.{NoSuchLevel, LoadOutOfRange, WeightOutOfRange, NoRoom, NothingToStrike}
use Rattle.orders.specs.Calls.{bears, line_denial, line_limit, load_denial, Bears, IsThere, Judged, LoadDeniedWhen, LoadFits, LoadsWhen}
use Rattle.orders.specs.Loads.{load_fits, natural, standing}

-- a load that fits passes its test
fits_passes : (z : ℤ) → LoadFits z → load_fits z ≡ true
fits_passes (pos n) fits =
    let some = not_from_false (n == 0) (ne_eqb n 0 (λ e. fits.0 (ap pos e))) in
    and_from (not (n == 0)) (nat_le n 5000) some (le-leb n 5000 (omega (arith, ints, fits.2)))
fits_passes (negsuc n) fits = le-leb n 4999 (omega (arith, ints, fits.1))

-- and one that passes fits
pub passes_fits : (z : ℤ) → load_fits z ≡ true → LoadFits z
passes_fits (pos n) e =
    let p = and_parts (not (n == 0)) (nat_le n 5000) e in
    let some = eqb-false n 0 (not-true (n == 0) p.0) in
    let most = leb-true n 5000 p.1 in
    (λ none. some (omega (arith, ints, none)), omega (arith, ints), omega (arith, ints))
passes_fits (negsuc n) e = let most = leb-true n 4999 e in (λ none. cc, omega (arith, ints), omega (arith, ints))

-- what weighs from 1 to 5,000 passes its test
weighs_passes : (z : ℤ) → pos 1 ≤ℤ z → z ≤ℤ pos 5000 → weight_fits (natural z) ≡ true
weighs_passes (pos n) least most =
    and_from (nat_le 1 n) (nat_le n 5000) (le-leb 1 n (omega (arith, ints))) (le-leb n 5000 (omega (arith, ints)))
weighs_passes (negsuc n) least most = absurd (omega (arith, ints))

-- and what passes weighs so
passes_weighs : (z : ℤ) → weight_fits (natural z) ≡ true → (pos 1 ≤ℤ z) × (z ≤ℤ pos 5000)
passes_weighs (pos n) e =
    let p = and_parts (nat_le 1 n) (nat_le n 5000) e in
    let least = leb-true 1 n p.0 in
    let most = leb-true n 5000 p.1 in
    (omega (arith, ints), omega (arith, ints))
passes_weighs (negsuc n) e = cc

-- a level that stands at a number makes it one of the frame's
pub there_at : (ls : List Level) (k : ℕ) (l : Level) → level_at ls k ≡ Some l → IsThere ls k
there_at ls zero l e = cc
there_at ls (suc i) l e =
    elim (cases_lt (length ls) (suc i)) [
      | inl past ↦ let none = at_beyond ls (suc i) past in cc
      | inr within ↦ (omega arith, within)
    ]

-- and where none stands there, it is not
pub none_there : (ls : List Level) (k : ℕ) → level_at ls k ≡ None → ¬ IsThere ls k
none_there ls zero e = λ there. absurd (omega (arith, there.0))
none_there ls (suc i) e = λ there. let past = none_over ls i (rw add-one e) in absurd (omega (arith, there.1))

-- a level bears a load where its test says so
module _ (ls : List Level) (lines : List Line) (x : Line) (l : Level) (at : level_at ls x.level ≡ Some l) where
  bears_passes : Bears ls lines x → bears l (standing x.level lines +ℤ x.load) ≡ true
  bears_passes h = let b = h l at in weighs_passes (pos l.weight +ℤ (standing x.level lines +ℤ x.load)) b.0 b.1

  passes_bears : bears l (standing x.level lines +ℤ x.load) ≡ true → Bears ls lines x
  passes_bears e = λ m at_m.
      let same : l ≡ m = same_Some l m (sym at ∙ at_m) in
      let total : Level → ℤ = λ (y : Level). pos y.weight +ℤ (standing x.level lines +ℤ x.load) in
      subst (λ (y : Level). (pos 1 ≤ℤ total y) × (total y ≤ℤ pos 5000)) same (passes_weighs (total l) e)

  -- what is tested on a level of the frame, and what is tested last
  abbrev tests : Option OrderDenial
  tests = line_denial (Some l) (standing x.level lines) (length lines) x

  abbrev room : Option OrderDenial
  room = cond (nat_le line_limit (length lines)) (Some (NoRoom x.level)) None

  -- past the test of the load, and past that of the weight with it
  past_load :
      LoadFits x.load
      → tests ≡ cond (not (bears l (standing x.level lines +ℤ x.load))) (Some (WeightOutOfRange x.level)) room
  past_load fits = cond-false _ _ _ (not_from_true _ (fits_passes x.load fits))

  past_weight : LoadFits x.load → Bears ls lines x → tests ≡ room
  past_weight fits borne = past_load fits ∙ cond-false _ _ _ (not_from_true _ (bears_passes borne))

  judged_on : (r : Result (Unit {0}) OrderDenial) → LoadsWhen ls lines x r → Judged tests r
  judged_on (Ok _) (there, fits, borne, few) = past_weight fits borne ∙ cond-false _ _ _ (lt-leb _ _ few)
  judged_on (Err (NoSuchLevel k)) (same, gone) = absurd (gone (there_at ls x.level l at))
  judged_on (Err (LoadOutOfRange k)) (same, there, out) =
      cond-true _ _ _ (not_from_false _ (false_from_ne_true _ (λ e. out (passes_fits x.load e))))
      ∙ ap (λ (n : ℕ). Some (LoadOutOfRange n)) (sym same)
  judged_on (Err (WeightOutOfRange k)) (same, there, fits, out) =
      past_load fits
      ∙ cond-true _ _ _ (not_from_false _ (false_from_ne_true _ (λ e. out (passes_bears e))))
      ∙ ap (λ (n : ℕ). Some (WeightOutOfRange n)) (sym same)
  judged_on (Err (NoRoom k)) (same, there, fits, borne, full) =
      past_weight fits borne ∙ cond-true _ _ _ (le-leb line_limit (length lines) full) ∙ ap (λ (n : ℕ). Some (NoRoom n)) (sym same)
  judged_on (Err NothingToStrike) h = absurd h

-- where the frame has no level of its number, that alone is said
judged_off :
    (ls : List Level) (lines : List Line) (x : Line) → ¬ IsThere ls x.level
    → (r : Result (Unit {0}) OrderDenial) → LoadsWhen ls lines x r → Judged (Some (NoSuchLevel x.level)) r
judged_off ls lines x gone (Ok _) h = absurd (gone h.0)
judged_off ls lines x gone (Err (NoSuchLevel k)) h = ap (λ (n : ℕ). Some (NoSuchLevel n)) (sym h.0)
judged_off ls lines x gone (Err (LoadOutOfRange k)) h = absurd (gone h.1)
judged_off ls lines x gone (Err (WeightOutOfRange k)) h = absurd (gone h.1)
judged_off ls lines x gone (Err (NoRoom k)) h = absurd (gone h.1)
judged_off ls lines x gone (Err NothingToStrike) h = absurd h

judged_at :
    (ls : List Level) (lines : List Line) (x : Line) (o : Option Level) → level_at ls x.level ≡ o
    → (r : Result (Unit {0}) OrderDenial) → LoadsWhen ls lines x r → Judged (line_denial o (standing x.level lines) (length lines) x) r
judged_at ls lines x None e = judged_off ls lines x (none_there ls x.level e)
judged_at ls lines x (Some l) e = judged_on ls lines x l e

-- so what a load's answer says leaves one denial, or none
pub load_judged :
    (ls : List Level) (lines : List Line) (x : Line) (r : Result (Unit {0}) OrderDenial)
    → LoadsWhen ls lines x r → Judged (load_denial ls lines x) r
load_judged ls lines x = judged_at ls lines x (level_at ls x.level) refl

-- what a judgement says
abbrev Says : List Level → List Line → Line → Option OrderDenial → Type 0
Says ls lines x (Some d) = LoadDeniedWhen ls lines x d
Says ls lines x None = LoadsWhen ls lines x (Ok tt)

says :
    (ls : List Level) (lines : List Line) (x : Line) (o : Option Level) → level_at ls x.level ≡ o
    → Says ls lines x (line_denial o (standing x.level lines) (length lines) x)
says ls lines x None e = (refl, none_there ls x.level e)
says ls lines x (Some l) e =
    let there = there_at ls x.level l e in
    cond_both (not (load_fits x.load)) _ _ (Says ls lines x) (λ t. (refl, there, λ fits. both_ways _ (not-true _ t) (fits_passes x.load fits)))
    (λ f.
    let fits = passes_fits x.load (not-false _ f) in
    cond_both (not (bears l (standing x.level lines +ℤ x.load))) _ _ (Says ls lines x)
    (λ t. (refl, there, fits, λ b. both_ways _ (not-true _ t) (bears_passes ls lines x l e b)))
    (λ g.
    let borne = passes_bears ls lines x l e (not-false _ g) in
    cond_both (nat_le line_limit (length lines)) _ _ (Says ls lines x) (λ t. (refl, there, fits, borne, leb-true _ _ t)) (λ h. (there, fits, borne, leb-false _ _ h))))

pub loads_when :
    (ls : List Level) (lines : List Line) (x : Line) (r : Result (Unit {0}) OrderDenial)
    → Judged (load_denial ls lines x) r → LoadsWhen ls lines x r
loads_when ls lines x (Ok _) e = subst (Says ls lines x) e (says ls lines x (level_at ls x.level) refl)
loads_when ls lines x (Err d) e = subst (Says ls lines x) e (says ls lines x (level_at ls x.level) refl)

-- what is accepted is borne
pub borne :
    (ls : List Level) (lines : List Line) (x : Line) (l : Level) → load_denial ls lines x ≡ None → level_at ls x.level ≡ Some l
    → bears l (standing x.level lines +ℤ x.load) ≡ true
borne ls lines x l accepted e = bears_passes ls lines x l e (subst (Says ls lines x) accepted (says ls lines x (level_at ls x.level) refl)).2
