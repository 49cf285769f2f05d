-- The tally and the call determine the answer.
use Rattle.std.proofs.Common.{◌≡◌, ℕ, ◌<◌, ◌≤◌, Bool, true, false, ℤ, List, [], ◌∷◌, ◌++◌, length, Some, None, Ok, Err, Option, Result, sym, refl, ap, ◌∙◌, subst, arith}
use Rattle.std.specs.Prelude.{vec_items, Vec}
use Rattle.std.specs.Global.{Global}
use Rattle.std.proofs.lemmas.List.{length_push, same_from_push}
use Rattle.std.proofs.lemmas.Option.{same_Some}
use Rattle.records.specs.declared.card.Card.{Card}
use Rattle.records.specs.declared.level.Level.{Level}
use Rattle.records.specs.declared.line.Line.{Line}
use Rattle.frames.specs.Levels.{weight_of}
use Rattle.seismic.specs.declared.axis.Axis.{Axis}
use Rattle.seismic.specs.declared.denial.AxesDenial.{AxesDenial}
use Rattle.seismic.specs.declared.denial.SheetDenial.{SheetDenial}
use Rattle.seismic.specs.declared.row.Row.{Row}
use Rattle.seismic.specs.declared.sheet.Sheet.{Sheet as TheSheet}
use Rattle.seismic.specs.Axes.{OnAxes}
use Rattle.seismic.specs.Sheets.{Sheeted}
use Rattle.orders.specs.declared.denial.OrderDenial.{OrderDenial}
use Rattle.orders.specs.Calls.{load_denial, Stands, Strikes}
use Rattle.orders.specs.Loads.{raised}
use Rattle.runs.specs.declared.answer.Answer.{Answer}
use Rattle.runs.specs.declared.answer.Answer.TheVariants.{Loaded, Struck, Standing as Sum, Released, Sheet as Sheets, Axes as Shears, Denied}
use Rattle.runs.specs.declared.call.Call.{Call}
use Rattle.runs.specs.declared.call.Call.TheVariants.{Load, Strike, Standing, Release, Sheet, Axes}
use Rattle.runs.specs.Answers.{AnswerOf, AxesAnswer, InState, LoadAnswer, ReleaseAnswer, SheetAnswer, StandingAnswer, StrikeAnswer, WhenHad}
use Rattle.runs.specs.Runs.{SameAnswer, SameReading}
use Rattle.runs.specs.Tally.{Tally, has}
use Rattle.orders.proofs.Judging.{load_judged}

-- equal answers are the same
same_from_equal : (a b : Answer) → b ≡ a → SameAnswer a b
same_from_equal (Sheets sheet rows) b e = (rows, e, refl)
same_from_equal (Shears shear axes) b e = (axes, e, refl)
same_from_equal _ b e = e

abbrev load_answer : Line → Option OrderDenial → Answer
load_answer x None = Loaded x
load_answer x (Some d) = Denied d

-- a load is answered by what stands against it
load_answered :
    (ls : List Level) (lines : List Line) (x : Line) (a : Answer) → LoadAnswer ls lines x a
    → a ≡ load_answer x (load_denial ls lines x)
load_answered ls lines x (Loaded y) h = ap Loaded h.0 ∙ ap (load_answer x) (sym (load_judged ls lines x (Ok tt) h.1))
load_answered ls lines x (Denied d) h = ap (load_answer x) (sym (load_judged ls lines x (Err d) h))
load_answered ls lines x _ h = absurd h

abbrev strike_answer : Result Line OrderDenial → Answer
strike_answer (Ok x) = Struck x
strike_answer (Err d) = Denied d

-- a strike is answered by what it takes off
strike_answered :
    (bound : ℕ) (lines : List Line) (a : Answer) → StrikeAnswer bound lines a
    → (r : Result Line OrderDenial) × (older : List Line) × (a ≡ strike_answer r) × Strikes bound lines r older
strike_answered bound lines (Struck x) h = (Ok x, h.0, refl, h.1)
strike_answered bound lines (Denied d) h = (Err d, lines, refl, h)
strike_answered bound lines _ h = absurd h

same_strike :
    (bound : ℕ) (lines xs ys : List Line) (r s : Result Line OrderDenial) → Strikes bound lines r xs → Strikes bound lines s ys → s ≡ r
same_strike bound lines xs ys (Ok x) (Ok y) h k = ap Ok (same_from_push ys xs y x (sym k.1 ∙ h.1)).1
same_strike bound lines xs ys (Ok x) (Err d) h k = absurd (omega (arith, h.0, k.0))
same_strike bound lines xs ys (Err d) (Ok y) h k = absurd (omega (arith, h.0, k.0))
same_strike bound lines xs ys (Err d) (Err e) h k = ap Err (k.1 ∙ sym h.1)

-- a strike answers the newest line, where the bound leaves it within reach
pub newest_answered :
    (bound : ℕ) (lines : List Line) (x : Line) (a : Answer) → bound ≤ length lines → StrikeAnswer bound (lines ++ x ∷ []) a
    → a ≡ Struck x
newest_answered bound lines x a within h =
    let f = strike_answered bound (lines ++ x ∷ []) a h in
    let reach : bound < length (lines ++ x ∷ []) = omega (arith, length_push lines x, within) in
    f.2 ∙ ap strike_answer (same_strike bound (lines ++ x ∷ []) lines f.1 (Ok x) f.0 (reach, refl) f.3)

abbrev standing_answer : ℕ → Result ℤ OrderDenial → Answer
standing_answer k (Ok sum) = Sum k sum
standing_answer k (Err d) = Denied d

-- a standing is answered by the sum
standing_answered :
    (ls : List Level) (lines : List Line) (k : ℕ) (a : Answer) → StandingAnswer ls lines k a
    → (r : Result ℤ OrderDenial) × (a ≡ standing_answer k r) × Stands ls lines k r
standing_answered ls lines k (Sum j sum) h = (Ok sum, ap (λ (n : ℕ). Sum n sum) h.0, h.1)
standing_answered ls lines k (Denied d) h = (Err d, refl, h)
standing_answered ls lines k _ h = absurd h

same_sum :
    (ls : List Level) (lines : List Line) (k : ℕ) (r s : Result ℤ OrderDenial) → Stands ls lines k r → Stands ls lines k s → s ≡ r
same_sum ls lines k (Ok x) (Ok y) h i = ap Ok (i.1 ∙ sym h.1)
same_sum ls lines k (Ok x) (Err d) h i = absurd (i.0 h.0)
same_sum ls lines k (Err d) (Ok y) h i = absurd (h.0 i.0)
same_sum ls lines k (Err d) (Err e) h i = ap Err (i.1 ∙ sym h.1)

-- a release is answered by what stands
release_answered :
    (ls : List Level) (lines : List Line) (a : Answer) → ReleaseAnswer ls lines a
    → a ≡ Released (length ls) (length lines) (weight_of (raised lines ls))
release_answered ls lines (Released levels count weight) h = cc (h.0, h.1, h.2)
release_answered ls lines _ h = absurd h

-- there is one sheet of some levels under a card, with one table, or one denial
same_sheeted :
    (card : Card) (ls : List Level) (before xs ys : List Row) (r s : Result TheSheet SheetDenial)
    → Sheeted card ls before r xs → Sheeted card ls before s ys → (s ≡ r) × (ys ≡ xs)
same_sheeted card ls before xs ys (Ok x) (Ok y) h k = (ap Ok (k.1 ∙ sym h.1), k.2 ∙ sym h.2)
same_sheeted card ls before xs ys (Ok x) (Err d) h k = cc (h.0, k.0)
same_sheeted card ls before xs ys (Err d) (Ok y) h k = cc (h.0, k.0)
same_sheeted card ls before xs ys (Err d) (Err e) h k = (ap Err (same_Some e d (sym k.0 ∙ h.0)), k.1 ∙ sym h.1)

sheet_after :
    (ls : List Level) (lines : List Line) (card : Card) (before : List Row) (r : Result TheSheet SheetDenial) (rows : Vec Row Global)
    → Sheeted card (raised lines ls) before r (vec_items rows)
    → (b : Answer) → SheetAnswer ls lines card before b → SameAnswer (Sheets r rows) b
sheet_after ls lines card before r rows h (Sheets s others) k =
    let same = same_sheeted card (raised lines ls) before (vec_items rows) (vec_items others) r s h k.0 in
    (others, ap (λ (x : Result TheSheet SheetDenial). Sheets x others) same.0, same.1)
sheet_after ls lines card before r rows h _ k = absurd k

-- a sheet is answered by the levels that it reads, and what was lent
same_sheet :
    (ls : List Level) (lines : List Line) (card : Card) (before : List Row) (a b : Answer)
    → SheetAnswer ls lines card before a → SheetAnswer ls lines card before b → SameAnswer a b
same_sheet ls lines card before (Sheets r rows) b h = sheet_after ls lines card before r rows h.0 b
same_sheet ls lines card before _ b h = absurd h

-- and one shear of a storey, with one table of axes, or one denial
same_on_axes :
    (card : Card) (ls : List Level) (storey : ℕ) (before xs ys : List Axis) (r s : Result ℕ AxesDenial)
    → OnAxes card ls storey before r xs → OnAxes card ls storey before s ys → (s ≡ r) × (ys ≡ xs)
same_on_axes card ls storey before xs ys (Ok v) (Ok w) h k =
    let same : w ≡ v = same_Some w v (sym k.1 ∙ h.1) in
    let on_v = subst (λ (u : ℕ). OnAxes card ls storey before (Ok u) ys) same k in
    (ap Ok same, on_v.2 ∙ sym h.2)
same_on_axes card ls storey before xs ys (Ok v) (Err d) h k = cc (h.0, k.0)
same_on_axes card ls storey before xs ys (Err d) (Ok w) h k = cc (h.0, k.0)
same_on_axes card ls storey before xs ys (Err d) (Err e) h k = (ap Err (same_Some e d (sym k.0 ∙ h.0)), k.1 ∙ sym h.1)

axes_after :
    (ls : List Level) (lines : List Line) (card : Card) (storey : ℕ) (before : List Axis) (r : Result ℕ AxesDenial)
    (axes : Vec Axis Global)
    → OnAxes card (raised lines ls) storey before r (vec_items axes)
    → (b : Answer) → AxesAnswer ls lines card storey before b → SameAnswer (Shears r axes) b
axes_after ls lines card storey before r axes h (Shears s others) k =
    let same = same_on_axes card (raised lines ls) storey before (vec_items axes) (vec_items others) r s h k.0 in
    (others, ap (λ (x : Result ℕ AxesDenial). Shears x others) same.0, same.1)
axes_after ls lines card storey before r axes h _ k = absurd k

-- so is a shear on axes
same_axes :
    (ls : List Level) (lines : List Line) (card : Card) (storey : ℕ) (before : List Axis) (a b : Answer)
    → AxesAnswer ls lines card storey before a → AxesAnswer ls lines card storey before b → SameAnswer a b
same_axes ls lines card storey before (Shears r axes) b h = axes_after ls lines card storey before r axes h.0 b
same_axes ls lines card storey before _ b h = absurd h

-- in a state that has the call, and in one that has it not
same_in_state : (ls : List Level) (t : Tally) (c : Call) (a b : Answer) → InState ls t c a → InState ls t c b → SameAnswer a b
same_in_state ls t (Load x) a b h k = same_from_equal a b (load_answered ls t.lines x b k ∙ sym (load_answered ls t.lines x a h))
same_in_state ls t Strike a b h k =
    let f = strike_answered t.bound t.lines a h in
    let g = strike_answered t.bound t.lines b k in
    same_from_equal a b (g.2 ∙ ap strike_answer (same_strike t.bound t.lines f.1 g.1 f.0 g.0 f.3 g.3) ∙ sym f.2)
same_in_state ls t (Standing n) a b h k =
    let f = standing_answered ls t.lines n a h in
    let g = standing_answered ls t.lines n b k in
    same_from_equal a b (g.1 ∙ ap (standing_answer n) (same_sum ls t.lines n f.0 g.0 f.2 g.2) ∙ sym f.1)
same_in_state ls t Release a b h k = same_from_equal a b (release_answered ls t.lines b k ∙ sym (release_answered ls t.lines a h))
same_in_state ls t (Sheet card rows) a b h k = same_sheet ls t.lines card (vec_items rows) a b h k
same_in_state ls t (Axes card storey axes) a b h k = same_axes ls t.lines card storey (vec_items axes) a b h k
same_in_state ls t _ a b h k = same_from_equal a b (k ∙ sym h)

same_when_had :
    (s : Bool) (ls : List Level) (t : Tally) (c : Call) (a b : Answer) → WhenHad s ls t c a → WhenHad s ls t c b → SameAnswer a b
same_when_had true ls t c a b h k = same_in_state ls t c a b h k
same_when_had false ls t c a b h k = same_from_equal a b (k ∙ sym h)

-- whatever two answers say of one call after one tally, they are the same
pub same_answer : (ls : List Level) (t : Tally) (c : Call) (a b : Answer) → AnswerOf ls t c a → AnswerOf ls t c b → SameAnswer a b
same_answer ls t c a b = same_when_had (has t.stage c) ls t c a b

-- and what is read of two tallies is the same where their lines are
pub same_reading :
    (ls : List Level) (t u : Tally) → u.lines ≡ t.lines → (c d : Call) (a b : Answer) → SameReading c d
    → AnswerOf ls t c a → AnswerOf ls u d b → SameAnswer a b
same_reading ls t u lines (Sheet card rows) d a b (others, is, items) h k =
    let on_d : AnswerOf ls u (Sheet card others) b = subst (λ (e : Call). AnswerOf ls u e b) is k in
    let on_lines = subst (λ (xs : List Line). SheetAnswer ls xs card (vec_items others) b) lines on_d in
    same_sheet ls t.lines card (vec_items rows) a b h (subst (λ (xs : List Row). SheetAnswer ls t.lines card xs b) items on_lines)
same_reading ls t u lines (Axes card storey axes) d a b (others, is, items) h k =
    let on_d : AnswerOf ls u (Axes card storey others) b = subst (λ (e : Call). AnswerOf ls u e b) is k in
    let on_lines = subst (λ (xs : List Line). AxesAnswer ls xs card storey (vec_items others) b) lines on_d in
    same_axes ls t.lines card storey (vec_items axes) a b h (subst (λ (xs : List Axis). AxesAnswer ls t.lines card storey xs b) items on_lines)
same_reading ls t u lines _ d a b r h k = absurd r
