-- What a trial leaves of what stood when it began.
use Rattle.std.proofs.Common.{◌≡◌, ℕ, zero, suc, ◌+◌, ◌-◌, ◌<◌, ◌≤◌, true, false, nat_lt, List, [], ◌∷◌, length, take, Some, None, Option, inl, inr, sym, refl, ap, ◌∙◌, subst, add-one, arith}
use Rattle.std.proofs.lemmas.Bool.{cases_lt, cond-true, cond_both, ltb-true}
use Rattle.std.proofs.lemmas.List.{length-take, take-append-le, take-take, take_all}
use Rattle.std.proofs.lemmas.Option.{slice_get_within}
use Rattle.records.specs.declared.level.Level.{Level}
use Rattle.records.specs.declared.line.Line.{Line}
use Rattle.orders.specs.declared.denial.OrderDenial.{OrderDenial}
use Rattle.orders.specs.Calls.{load_denial}
use Rattle.runs.specs.declared.call.Call.{Call}
use Rattle.runs.specs.declared.call.Call.TheVariants.{Load, Strike, Trial, Keep, Abandon, Issue, Reopen}
use Rattle.runs.specs.Runs.{tally_at, TrialAbandoned}
use Rattle.runs.specs.Tally.{Stage, Tally, after, has, is_on_trial, is_opened, left_by, on_trial, opened, struck, with_line}
use Rattle.runs.proofs.Places.{some_at}
use Rattle.runs.proofs.Tallies.{none_bound, tally_next}

-- the bound is where these lines end, and they are the oldest
record Held (lines : List Line) (t : Tally) : Type 0 where
  bound : t.bound ≡ length lines
  oldest : take t.bound t.lines ≡ lines

module _ (lines : List Line) (t : Tally) (held : Held lines t) where
  -- so strike leaves them, and what is loaded comes after them
  within : t.bound ≤ length t.lines
  within = omega (arith, held.bound, ap length held.oldest, length-take t.bound t.lines)

  with_line_held : (o : Option OrderDenial) (x : Line) → Held lines (record t { lines = with_line o t.lines x })
  with_line_held None x = record { bound = held.bound; oldest = take-append-le t.bound t.lines (x ∷ []) within ∙ held.oldest }
  with_line_held (Some d) x = held

  struck_held : Held lines (record t { lines = struck t.bound t.lines })
  struck_held =
      cond_both (nat_lt t.bound (length t.lines)) (take (length t.lines - 1) t.lines) t.lines
      (λ (xs : List Line). Held lines (record t { lines = xs }))
      (λ more. record {
        bound = held.bound;
        oldest = take-take t.bound (length t.lines - 1) t.lines (omega (arith, ltb-true t.bound (length t.lines) more)) ∙ held.oldest;
      })
      (λ none. held)

  -- whatever is called, where the trial goes on
  left_held :
      (ls : List Level) (c : Call) → t.stage ≡ on_trial → has t.stage c ≡ true → (left_by ls c t).stage ≡ on_trial
      → Held lines (left_by ls c t)
  left_held ls (Load x) tried had on = with_line_held (load_denial ls t.lines x) x
  left_held ls Strike tried had on = struck_held
  left_held ls Trial tried had on = let no : is_opened t.stage ≡ false = ap is_opened tried in cc
  left_held ls Keep tried had on = cc
  left_held ls Abandon tried had on = cc
  left_held ls Issue tried had on = cc
  left_held ls Reopen tried had on = cc
  left_held ls _ tried had on = held

  after_held : (ls : List Level) (c : Call) → t.stage ≡ on_trial → (after ls t c).stage ≡ on_trial → Held lines (after ls t c)
  after_held ls c tried =
      cond_both (has t.stage c) (left_by ls c t) t (λ (u : Tally). u.stage ≡ on_trial → Held lines u)
      (left_held ls c tried) (λ not on. held)

-- a trial begins with all that stands
begun : (ls : List Level) (t : Tally) → t.stage ≡ opened → Held t.lines (after ls t Trial)
begun ls t free =
    let had : is_opened t.stage ≡ true = ap is_opened free in
    subst (Held t.lines) (sym (cond-true (is_opened t.stage) (left_by ls Trial t) t had))
    (record { bound = refl; oldest = take_all (length t.lines) t.lines (omega arith) })

-- an open tally is told by its lines
opened_whole : (t : Tally) → t.bound ≡ 0 → t.stage ≡ opened → record { lines = t.lines; bound = 0; stage = opened } ≡ t
opened_whole t none free =
    ap (λ (n : ℕ). record { lines = t.lines; bound = n; stage = opened }) (sym none)
    ∙ ap (λ (s : Stage). record t { stage = s }) (sym free)

module _ (ls : List Level) (calls : List Call) (i j : ℕ) (trial : TrialAbandoned ls calls i j) where
  -- the trial has left them so after n calls
  abbrev HeldAt : ℕ → Type 0
  HeldAt n = Held (tally_at ls calls i).lines (tally_at ls calls n)

  held_first : HeldAt (i + 1)
  held_first = subst (Held _) (sym (tally_next ls calls i Trial trial.begins)) (begun ls (tally_at ls calls i) trial.from_open)

  held_next : (n : ℕ) → i < n → n + 1 ≤ j → HeldAt n → HeldAt (n + 1)
  held_next n low high held =
      let c = some_at calls n (omega (arith, high, slice_get_within calls j Abandon trial.ends)) in
      let step = tally_next ls calls n c.0 c.1 in
      let on = ap (λ (t : Tally). t.stage) (sym step) ∙ trial.lasts (n + 1) (omega arith) high in
      subst (Held _) (sym step) (after_held _ (tally_at ls calls n) held ls c.0 (trial.lasts n low (omega (arith, high))) on)

  -- as long as it lasts
  held_at : (n : ℕ) → i < n → n ≤ j → HeldAt n
  held_at zero low high = absurd (omega arith)
  held_at (suc n) low high =
      subst HeldAt (add-one n)
      (elim (cases_lt i n) [
        | inl more ↦ held_next n more (omega (arith, high)) (held_at n more (omega (arith, high)))
        | inr first ↦ let same : i ≡ n = omega (arith, low) in subst (λ (k : ℕ). HeldAt (k + 1)) same held_first
      ])

  -- abandon leaves what stood when the trial began
  pub abandoned : tally_at ls calls (j + 1) ≡ tally_at ls calls i
  abandoned =
      let t = tally_at ls calls j in
      let had : is_on_trial t.stage ≡ true = ap is_on_trial (trial.lasts j trial.later (omega arith)) in
      tally_next ls calls j Abandon trial.ends
      ∙ cond-true (is_on_trial t.stage) (left_by ls Abandon t) t had
      ∙ ap (λ (lines : List Line). record { lines = lines; bound = 0; stage = opened }) (held_at j trial.later (omega arith)).oldest
      ∙ opened_whole (tally_at ls calls i) (none_bound ls (take i calls) trial.from_open) trial.from_open
