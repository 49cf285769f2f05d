-- How far a run has come: some calls are answered, and the others are left.
use Rattle.std.proofs.Common.{◌≡◌, ℕ, ◌+◌, ◌<◌, ◌≤◌, List, [], ◌∷◌, ◌++◌, length, drop, slice_get, Some, refl, sym, ap, ◌∙◌, subst, ⊎_elim, arith, length-append, length-drop, drop-drop, take_all}
use Rattle.std.proofs.lemmas.Bool.{cases_lt}
use Rattle.std.proofs.lemmas.Option.{slice_get_within}
use Rattle.records.specs.declared.level.Level.{Level}
use Rattle.records.specs.declared.line.Line.{Line}
use Rattle.frames.specs.Levels.{Sound}
use Rattle.orders.specs.Loads.{raised}
use Rattle.orders.proofs.Raising.{raised_by_none}
use Rattle.runs.specs.declared.answer.Answer.{Answer}
use Rattle.runs.specs.declared.call.Call.{Call}
use Rattle.runs.specs.Answers.{AnswerOf}
use Rattle.runs.specs.Runs.{RunLaw, tally_at}
use Rattle.runs.specs.Tally.{Tally, after, new_tally, opened, tally}
use Rattle.runs.proofs.Laws.{run_law}
use Rattle.runs.proofs.Places.{get_more, slice_get-drop}
use Rattle.runs.proofs.Tallies.{tally_next}

-- the calls so far are answered, t is their tally, and the levels bore the lines at every point
pub record Progress (ls : List Level) (calls rest : List Call) (answers : List Answer) (t : Tally) : Type 0 where
  pub within : length answers ≤ length calls
  pub left : rest ≡ drop (length answers) calls
  pub tally : t ≡ tally_at ls calls (length answers)
  pub each : (n : ℕ) (c : Call) (a : Answer) → slice_get calls n ≡ Some c → slice_get answers n ≡ Some a → AnswerOf ls (tally_at ls calls n) c a
  pub sound : (n : ℕ) → n ≤ length answers → Sound (raised (tally_at ls calls n).lines ls)

same_some : {X : Type 0} (x y : X) → Some x ≡ Some y → x ≡ y
same_some x y e = cc

-- an answer over equal levels, after an equal tally
answered : (held ls : List Level) (t s : Tally) (c d : Call) (a b : Answer) → held ≡ ls → t ≡ s → c ≡ d → a ≡ b → AnswerOf held t c a → AnswerOf ls s d b
answered held ls t s c d a b h q i j k =
    subst (λ (ws : List Level). AnswerOf ws s d b) h
    (subst (λ (u : Tally). AnswerOf held u d b) q
    (subst (λ (e : Call). AnswerOf held t e b) i (subst (λ (z : Answer). AnswerOf held t c z) j k)))

-- the levels bear an equal tally
borne : (kept ls : List Level) (u s : Tally) → kept ≡ ls → u ≡ s → Sound (raised u.lines kept) → Sound (raised s.lines ls)
borne kept ls u s k q sound = subst (λ (ws : List Level). Sound (raised s.lines ws)) k (subst (λ (v : Tally). Sound (raised v.lines kept)) q sound)

-- one call more, on levels that are still ls
pub progress_more :
    (ls held kept : List Level) (calls left rest : List Call) (answers more : List Answer) (t u : Tally) (c : Call) (a : Answer)
    → held ≡ ls → kept ≡ ls
    → Progress ls calls left answers t
    → left ≡ c ∷ rest → more ≡ answers ++ a ∷ []
    → u ≡ after held t c → AnswerOf held t c a → Sound (raised u.lines kept)
    → Progress ls calls rest more u
progress_more ls held kept calls left rest answers more t u c a h k p e m q answer sound =
    let n = length answers in
    let len : length more ≡ n + 1 = omega (arith, ap length m, length-append answers (a ∷ [])) in
    let here : slice_get calls n ≡ Some c = ap (slice_get calls) (omega arith) ∙ sym (slice_get-drop n calls 0) ∙ ap (λ (xs : List Call). slice_get xs 0) (sym p.left ∙ e) in
    let t_is : u ≡ tally_at ls calls (length more) =
    q ∙ ap (λ (ws : List Level). after ws t c) h ∙ ap (λ (s : Tally). after ls s c) p.tally ∙ sym (tally_next ls calls n c here) ∙ ap (tally_at ls calls) (sym len) in
    record {
      within = omega (arith, len, ap length (sym e ∙ p.left), length-drop n calls);
      left = ap (drop 1) (sym e ∙ p.left) ∙ drop-drop 1 n calls ∙ ap (λ (i : ℕ). drop i calls) (sym len);
      tally = t_is;
      each = λ i d b atc ata. ⊎_elim (λ old. p.each i d b atc old) (λ new.
          answered held ls t (tally_at ls calls i) c d a b h (p.tally ∙ ap (tally_at ls calls) (sym new.0)) (same_some c d (sym here ∙ ap (slice_get calls) (sym new.0) ∙ atc)) (sym new.1) answer) (get_more answers a i b (ap (λ (xs : List Answer). slice_get xs i) (sym m) ∙ ata));
      sound = λ i low. ⊎_elim
          (λ (new : n < i). borne kept ls u (tally_at ls calls i) k (t_is ∙ ap (tally_at ls calls) (omega (arith, len, low, new))) sound)
          (λ (old : i ≤ n). p.sound i old)
          (cases_lt n i);
    }

-- all calls are answered where none is left
pub all_made : (ls : List Level) (calls left : List Call) (answers : List Answer) (t : Tally) → Progress ls calls left answers t → length left ≡ 0 → RunLaw ls calls answers
all_made ls calls left answers t p e =
    let n = length answers in
    let none : length calls ≡ n = omega (arith, p.within, e, ap length p.left, length-drop n calls) in
    run_law ls calls answers
    (λ i. ⊎_elim
    (λ (beyond : n < i). subst (λ (cs : List Call). Sound (raised (tally ls cs).lines ls)) (take_all n calls (omega (arith, none)) ∙ sym (take_all i calls (omega (arith, none, beyond)))) (p.sound n (omega arith)))
    (λ (within : i ≤ n). p.sound i within)
    (cases_lt n i))
    (record { one_a_call = sym none; each = p.each })

-- before the first call, on a new order
pub begun :
    (ls : List Level) (calls left : List Call) (answers : List Answer) (lines : List Line)
    → Sound ls → left ≡ calls → answers ≡ [] → lines ≡ []
    → Progress ls calls left answers (record { lines = lines; bound = 0; stage = opened })
begun ls calls left answers lines sound e none new =
    let zero_is : 0 ≡ length answers = sym (ap length none) in
    record {
      within = omega (arith, zero_is);
      left = e ∙ ap (λ (n : ℕ). drop n calls) zero_is;
      tally = ap (λ (xs : List Line). record { lines = xs; bound = 0; stage = opened }) new ∙ ap (tally_at ls calls) zero_is;
      each = λ n c a atc ata. absurd (omega (arith, zero_is, slice_get_within answers n a ata));
      sound = λ n low. borne ls ls new_tally (tally_at ls calls n) refl ((let z : 0 ≡ n = omega (arith, zero_is, low) in ap (tally_at ls calls) z)) (subst (λ (ws : List Level). Sound ws) (sym (raised_by_none ls)) sound);
    }
