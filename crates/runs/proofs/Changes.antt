-- What an answer tells of the tally before its call and the tally after it.
use Rattle.std.proofs.Common.{◌≡◌, ℕ, ◌+◌, ◌≤◌, Bool, true, false, cond, nat_lt, List, [], ◌∷◌, ◌++◌, length, slice_get, Some, Err, Ok, Option, sym, refl, ap, ◌∙◌, subst, arith}
use Rattle.std.proofs.lemmas.Bool.{cond-false, le-ltb}
use Rattle.std.proofs.lemmas.List.{length_push}
use Rattle.std.proofs.lemmas.Option.{slice_get_within}
use Rattle.records.specs.declared.level.Level.{Level}
use Rattle.records.specs.declared.line.Line.{Line}
use Rattle.orders.specs.declared.denial.OrderDenial.{OrderDenial}
use Rattle.orders.proofs.Judging.{load_judged}
use Rattle.runs.specs.declared.answer.Answer.{Answer}
use Rattle.runs.specs.declared.answer.Answer.TheVariants.{Loaded, Struck, Standing as Sum, OnTrial, Kept, Abandoned, Issued, Reopened, Released, Sheet as Sheets, Axes as Shears, Denied, OutOfState}
use Rattle.runs.specs.declared.call.Call.{Call}
use Rattle.runs.specs.declared.call.Call.TheVariants.{Load, Strike, Standing, Trial, Keep, Abandon, Issue, Reopen, Release, Sheet, Axes}
use Rattle.runs.specs.Answers.{InState, LoadAnswer, ReleaseAnswer, StandingAnswer, StrikeAnswer, WhenHad}
use Rattle.runs.specs.Runs.{tally_at, Answered, ChangesNothing, KeepsLines}
use Rattle.runs.specs.Tally.{Tally, has, left_by, struck, with_line}
use Rattle.runs.proofs.Places.{some_at}
use Rattle.runs.proofs.Tallies.{struck_newest, tally_next}

-- what it tells of the tally t before the call and the tally u after it; of abandon the law over trials tells
abbrev Tells : Answer → Tally → Tally → Type 0
Tells (Loaded x) t u = u ≡ record t { lines = t.lines ++ x ∷ [] }
Tells (Struck x) t u = t ≡ record u { lines = u.lines ++ x ∷ [] }
Tells OnTrial t u = u.lines ≡ t.lines
Tells Kept t u = u.lines ≡ t.lines
Tells Issued t u = u.lines ≡ t.lines
Tells Reopened t u = u.lines ≡ t.lines
Tells Abandoned t u = Unit {0}
Tells _ t u = u ≡ t

module _ (ls : List Level) (t : Tally) where
  -- a load is booked where it is answered as loaded, and a strike takes off the line that it answers
  of_load : (x : Line) (a : Answer) → LoadAnswer ls t.lines x a → Tells a t (left_by ls (Load x) t)
  of_load x (Loaded y) h =
      ap (λ (o : Option OrderDenial). record t { lines = with_line o t.lines x }) (load_judged ls t.lines x (Ok tt) h.1)
      ∙ ap (λ (z : Line). record t { lines = t.lines ++ z ∷ [] }) (sym h.0)
  of_load x (Denied d) h =
      ap (λ (o : Option OrderDenial). record t { lines = with_line o t.lines x }) (load_judged ls t.lines x (Err d) h)
  of_load x _ h = absurd h

  of_strike : (a : Answer) → StrikeAnswer t.bound t.lines a → Tells a t (left_by ls Strike t)
  of_strike (Struck x) (older, (reach, is)) =
      let within : t.bound ≤ length older = omega (arith, reach, ap length is, length_push older x) in
      let left : struck t.bound t.lines ≡ older = ap (struck t.bound) is ∙ struck_newest t.bound older x within in
      ap (λ (xs : List Line). record t { lines = xs }) (is ∙ ap (λ (xs : List Line). xs ++ x ∷ []) (sym left))
  of_strike (Denied d) h =
      ap (λ (xs : List Line). record t { lines = xs })
      (cond-false (nat_lt t.bound (length t.lines)) _ t.lines (le-ltb t.bound (length t.lines) h.0))
  of_strike _ h = absurd h

  -- what only reads leaves all as it was
  of_standing : (k : ℕ) (a : Answer) → StandingAnswer ls t.lines k a → Tells a t t
  of_standing k (Sum j sum) h = refl
  of_standing k (Denied d) h = refl
  of_standing k _ h = absurd h

  of_release : (a : Answer) → ReleaseAnswer ls t.lines a → Tells a t t
  of_release (Released levels count weight) h = refl
  of_release _ h = absurd h

  -- in a state that has the call
  in_state : (c : Call) (a : Answer) → InState ls t c a → Tells a t (left_by ls c t)
  in_state (Load x) a h = of_load x a h
  in_state Strike a h = of_strike a h
  in_state (Standing k) a h = of_standing k a h
  in_state Trial a h = subst (λ (b : Answer). Tells b t (left_by ls Trial t)) (sym h) refl
  in_state Keep a h = subst (λ (b : Answer). Tells b t (left_by ls Keep t)) (sym h) refl
  in_state Abandon a h = subst (λ (b : Answer). Tells b t (left_by ls Abandon t)) (sym h) tt
  in_state Issue a h = subst (λ (b : Answer). Tells b t (left_by ls Issue t)) (sym h) refl
  in_state Reopen a h = subst (λ (b : Answer). Tells b t (left_by ls Reopen t)) (sym h) refl
  in_state Release a h = of_release a h
  in_state (Sheet card rows) (Sheets sheet after_rows) h = refl
  in_state (Sheet card rows) _ h = absurd h
  in_state (Axes card storey axes) (Shears shear after_axes) h = refl
  in_state (Axes card storey axes) _ h = absurd h

  -- and in any state
  when_had : (s : Bool) (c : Call) (a : Answer) → WhenHad s ls t c a → Tells a t (cond s (left_by ls c t) t)
  when_had true c a h = in_state c a h
  when_had false c a h = subst (λ (b : Answer). Tells b t t) (sym h) refl

-- what each kind of answer tells
unchanged : (a : Answer) (t u : Tally) → ChangesNothing a → Tells a t u → u ≡ t
unchanged (Denied d) t u says h = h
unchanged OutOfState t u says h = h
unchanged (Sum k sum) t u says h = h
unchanged (Released levels count weight) t u says h = h
unchanged (Sheets sheet rows) t u says h = h
unchanged (Shears shear axes) t u says h = h
unchanged _ t u says h = absurd says

lines_kept : (a : Answer) (t u : Tally) → KeepsLines a → Tells a t u → u.lines ≡ t.lines
lines_kept OnTrial t u keeps h = h
lines_kept Kept t u keeps h = h
lines_kept Issued t u keeps h = h
lines_kept Reopened t u keeps h = h
lines_kept _ t u keeps h = absurd keeps

module _ (ls : List Level) (calls : List Call) (answers : List Answer) (answered : Answered ls calls answers) (n : ℕ) where
  -- answer n, whichever call it answers, tells of the tallies at n and at n + 1
  pub answer_tells : (a : Answer) → slice_get answers n ≡ Some a → Tells a (tally_at ls calls n) (tally_at ls calls (n + 1))
  answer_tells a here =
      let t = tally_at ls calls n in
      let c = some_at calls n (omega (arith, slice_get_within answers n a here, answered.one_a_call)) in
      subst (Tells a t) (sym (tally_next ls calls n c.0 c.1)) (when_had ls t (has t.stage c.0) c.0 a (answered.each n c.0 a c.1 here))

  pub changes_nothing :
      (a : Answer) → slice_get answers n ≡ Some a → ChangesNothing a → tally_at ls calls (n + 1) ≡ tally_at ls calls n
  changes_nothing a here says = unchanged a (tally_at ls calls n) (tally_at ls calls (n + 1)) says (answer_tells a here)

  pub keeps_lines :
      (a : Answer) → slice_get answers n ≡ Some a → KeepsLines a
      → (tally_at ls calls (n + 1)).lines ≡ (tally_at ls calls n).lines
  keeps_lines a here keeps = lines_kept a (tally_at ls calls n) (tally_at ls calls (n + 1)) keeps (answer_tells a here)
