-- A run whose answers are those that its tallies say keeps the law.
use Rattle.std.proofs.Common.{◌≡◌, ℕ, ◌+◌, ◌-◌, Bool, true, false, List, [], ◌∷◌, ◌++◌, length, take, drop, slice_get, fold, Some, None, Ok, sym, refl, ap, ◌∙◌, subst, arith}
use Rattle.std.specs.List.{between}
use Rattle.std.proofs.lemmas.List.{length-append, length-drop, length-take, length-take-le, take-append-drop}
use Rattle.std.proofs.lemmas.List.Edits.{length-between}
use Rattle.std.proofs.lemmas.Option.{slice_get_within}
use Rattle.records.specs.declared.level.Level.{Level}
use Rattle.records.specs.declared.line.Line.{Line}
use Rattle.frames.specs.Levels.{Sound}
use Rattle.orders.specs.Calls.{load_denial}
use Rattle.orders.specs.Loads.{raised}
use Rattle.runs.specs.declared.answer.Answer.{Answer}
use Rattle.runs.specs.declared.answer.Answer.TheVariants.{Loaded, Struck}
use Rattle.runs.specs.declared.call.Call.{Call}
use Rattle.runs.specs.declared.call.Call.TheVariants.{Load, Strike, Abandon}
use Rattle.runs.specs.Answers.{AnswerOf, WhenHad}
use Rattle.runs.specs.Runs.{tally_at, Answered, LoadStruck, RunLaw, SameAnswers, TrialAbandoned, without}
use Rattle.runs.specs.Tally.{Tally, after, is_working, tally}
use Rattle.runs.proofs.Changes.{answer_tells, changes_nothing, keeps_lines}
use Rattle.runs.proofs.Determined.{newest_answered, same_answer, same_reading}
use Rattle.orders.proofs.Judging.{load_judged}
use Rattle.runs.proofs.Places.{get_past, slice_get-drop, some_at}
use Rattle.runs.proofs.Tallies.{after_load, after_strike, bound_within, tally_next, tally_over, tally_past, tally_unread}
use Rattle.runs.proofs.Trials.{abandoned}
use Rattle.runs.proofs.Weighing.{weighed}

-- what is told where a load is accepted: the state has loads, and nothing stands against this one
accepted :
    (s : Bool) (ls : List Level) (t : Tally) (x : Line) → WhenHad s ls t (Load x) (Loaded x)
    → (s ≡ true) × (load_denial ls t.lines x ≡ None)
accepted true ls t x h = (refl, load_judged ls t.lines x (Ok tt) h.1)
accepted false ls t x h = cc

-- two runs that end in the same calls, from the same tally on, answer these the same
alike :
    (ls : List Level) (front other rest : List Call) (mine theirs : List Answer) (n m : ℕ) → length front ≡ n → length other ≡ m
    → tally ls other ≡ tally ls front → Answered ls (front ++ rest) mine → Answered ls (other ++ rest) theirs
    → SameAnswers (drop n mine) (drop m theirs)
alike ls front other rest mine theirs n m len other_len same told other_told =
    record {
      count =
          let my_count = told.one_a_call ∙ length-append front rest in
          let their_count = other_told.one_a_call ∙ length-append other rest in
          omega (arith, len, other_len, my_count, their_count, length-drop n mine, length-drop m theirs);
      each = λ k a b my_answer their_answer.
          let here : slice_get mine (n + k) ≡ Some a = sym (slice_get-drop n mine k) ∙ my_answer in
          let there : slice_get theirs (m + k) ≡ Some b = sym (slice_get-drop m theirs k) ∙ their_answer in
          let c = some_at (front ++ rest) (n + k) (omega (arith, slice_get_within mine (n + k) a here, told.one_a_call)) in
          let call = get_past other rest m k other_len ∙ sym (get_past front rest n k len) ∙ c.1 in
          let tallies =
          tally_past ls other rest m k other_len
          ∙ ap (λ (t : Tally). fold (after ls) t (take k rest)) same
          ∙ sym (tally_past ls front rest n k len) in
          same_answer ls (tally_at ls (front ++ rest) (n + k)) c.0 a b (told.each (n + k) c.0 a c.1 here)
          (subst (λ (t : Tally). AnswerOf ls t c.0 b) tallies (other_told.each (m + k) c.0 b call there));
    }

module _
    (ls : List Level) (calls : List Call) (answers : List Answer) (answered : Answered ls calls answers) (n m : ℕ) (x : Line)
    (struck : LoadStruck calls answers n m x)
  where
    -- what stands when the load is called
    abbrev before : Tally
    before = tally_at ls calls n

    -- that has loads, and nothing stands against this one
    told : (is_working before.stage ≡ true) × (load_denial ls before.lines x ≡ None)
    told = accepted (is_working before.stage) ls before x (answered.each n (Load x) (Loaded x) struck.load struck.accepted)

    -- the strike finds the line as the newest
    found : tally_at ls calls m ≡ record before { lines = before.lines ++ x ∷ [] }
    found =
        tally_over ls calls (n + 1) m (omega (arith, struck.later)) struck.readings
        ∙ tally_next ls calls n (Load x) struck.load
        ∙ after_load ls before x told.0 told.1

    -- and answers it
    answers_load : slice_get answers m ≡ Some (Struck x)
    answers_load =
        let a = some_at answers m (omega (arith, slice_get_within calls m Strike struck.strike, answered.one_a_call)) in
        let had = subst (λ (t : Tally). AnswerOf ls t Strike a.0) found (answered.each m Strike a.0 struck.strike a.1) in
        let reached = subst (λ (s : Bool). WhenHad s ls (record before { lines = before.lines ++ x ∷ [] }) Strike a.0) told.0 had in
        a.1 ∙ ap Some (newest_answered before.bound before.lines x a.0 (bound_within ls (take n calls)) reached)

    -- so the tally is what it was before the load
    back : tally_at ls calls (m + 1) ≡ before
    back =
        tally_next ls calls m Strike struck.strike
        ∙ ap (λ (t : Tally). after ls t Strike) found
        ∙ after_strike ls before x told.0 (bound_within ls (take n calls))

    -- and a run without the two answers the same from there on
    undoes_load :
        (others : List Answer) → Answered ls (without n m calls) others → SameAnswers (drop (m + 1) answers) (drop (m - 1) others)
    undoes_load others other_told =
        let low = slice_get_within calls m Strike struck.strike in
        let read = between (n + 1) m calls in
        let len = length-between calls (n + 1) m (omega (arith, low)) in
        alike ls (take (m + 1) calls) (take n calls ++ read) (drop (m + 1) calls) answers others (m + 1) (m - 1)
        (length-take-le (m + 1) calls (omega (arith, low)))
        (omega (arith, struck.later, low, len, length-append (take n calls) read, length-take n calls))
        (tally_unread ls (take n calls) read struck.readings ∙ sym back)
        (subst (λ (cs : List Call). Answered ls cs answers) (sym (take-append-drop (m + 1) calls)) answered)
        other_told

-- after an abandon a run without the trial answers the same
undoes_trial :
    (ls : List Level) (calls : List Call) (answers : List Answer) → Answered ls calls answers → (i j : ℕ) (others : List Answer)
    → TrialAbandoned ls calls i j → Answered ls (take i calls ++ drop (j + 1) calls) others
    → SameAnswers (drop (j + 1) answers) (drop i others)
undoes_trial ls calls answers answered i j others trial other_told =
    let low = slice_get_within calls j Abandon trial.ends in
    alike ls (take (j + 1) calls) (take i calls) (drop (j + 1) calls) answers others (j + 1) i
    (length-take-le (j + 1) calls (omega (arith, low)))
    (length-take-le i calls (omega (arith, low, trial.later)))
    (sym (abandoned ls calls i j trial))
    (subst (λ (cs : List Call). Answered ls cs answers) (sym (take-append-drop (j + 1) calls)) answered)
    other_told

-- the law of a run, from its answers, and from levels that stay within their ranges under the loads of every tally
pub run_law :
    (ls : List Level) (calls : List Call) (answers : List Answer) → ((n : ℕ) → Sound (raised (tally_at ls calls n).lines ls))
    → Answered ls calls answers → RunLaw ls calls answers
run_law ls calls answers sound answered =
    record {
      answered = answered;
      denied_and_read_change_nothing = changes_nothing ls calls answers answered;
      loaded_is_newest = λ n x. answer_tells ls calls answers answered n (Loaded x);
      struck_was_newest = λ n x. answer_tells ls calls answers answered n (Struck x);
      moves_keep_lines = keeps_lines ls calls answers answered;
      weighed = λ n. weighed ls (tally_at ls calls n).lines (sound n);
      strike_answers_load = answers_load ls calls answers answered;
      strike_undoes_load = λ n m x others struck. undoes_load ls calls answers answered n m x struck others;
      abandon_restores = abandoned ls calls;
      abandoned_trial_undone = undoes_trial ls calls answers answered;
      readings_follow_lines = λ others theirs told n m lines c d a b call answer their_call their_answer same.
          same_reading ls (tally_at ls calls n) (tally_at ls others m) lines c d a b same
          (answered.each n c a call answer) (told.each m d b their_call their_answer);
    }
