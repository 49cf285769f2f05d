-- How a tally goes on from call to call.
use Rattle.std.proofs.Common.{◌≡◌, ℕ, ◌+◌, ◌-◌, ◌≤◌, true, nat_lt, List, [], ◌∷◌, ◌++◌, length, take, slice_get, fold, Some, None, Option, sym, refl, ap, ◌∙◌, arith}
use Rattle.std.specs.Prelude.{All}
use Rattle.std.specs.List.{between}
use Rattle.std.proofs.Math.Seq.{take-add, take-append-add}
use Rattle.std.proofs.lemmas.Bool.{cond_both, ltb-true, lt-ltb, cond-true}
use Rattle.std.proofs.lemmas.List.{length-take, length_push, take_at}
use Rattle.std.proofs.lemmas.List.Elements.{All-head, All-tail}
use Rattle.std.proofs.lemmas.List.Sums.{fold_more, fold-append}
use Rattle.std.proofs.lemmas.Option.{get_or_from_slice_get, slice_get_within}
use Rattle.records.specs.declared.level.Level.{Level}
use Rattle.records.specs.declared.line.Line.{Line}
use Rattle.orders.specs.declared.denial.OrderDenial.{OrderDenial}
use Rattle.orders.specs.Calls.{load_denial}
use Rattle.runs.specs.declared.call.Call.{Call}
use Rattle.runs.specs.declared.call.Call.TheVariants.{Load, Strike, Standing, Trial, Keep, Abandon, Issue, Reopen, Sheet, Axes}
use Rattle.runs.specs.Runs.{tally_at, Reads}
use Rattle.runs.specs.Tally.{Stage, Tally, after, has, is_issued, is_opened, is_working, issued, left_by, new_tally, on_trial, opened, struck, tally, with_line}

-- after one call more, what it leaves
pub tally_next :
    (ls : List Level) (calls : List Call) (n : ℕ) (c : Call) → slice_get calls n ≡ Some c
    → tally_at ls calls (n + 1) ≡ after ls (tally_at ls calls n) c
tally_next ls calls n c e =
    fold_more (after ls) new_tally calls n c (slice_get_within calls n c e)
    ∙ ap (after ls (tally_at ls calls n)) (get_or_from_slice_get calls n c c e)

-- what each call keeps in a state that has it, any calls keep
kept :
    (ls : List Level) (P : Tally → Type 0) → ((c : Call) (t : Tally) → has t.stage c ≡ true → P t → P (left_by ls c t))
    → (t : Tally) (calls : List Call) → P t → P (fold (after ls) t calls)
kept ls P keeps t [] p = p
kept ls P keeps t (c ∷ calls) p =
    let next : P (after ls t c) = cond_both (has t.stage c) (left_by ls c t) t P (λ had. keeps c t had p) (λ not. p) in
    kept ls P keeps (after ls t c) calls next

-- the bound is no further than there are lines
abbrev Within : Tally → Type 0
Within t = t.bound ≤ length t.lines

-- no load, strike or other call takes it further
with_line_within : (o : Option OrderDenial) (lines : List Line) (x : Line) → length lines ≤ length (with_line o lines x)
with_line_within None lines x = omega (arith, length_push lines x)
with_line_within (Some d) lines x = omega arith

struck_within : (bound : ℕ) (lines : List Line) → bound ≤ length lines → bound ≤ length (struck bound lines)
struck_within bound lines within =
    cond_both (nat_lt bound (length lines)) (take (length lines - 1) lines) lines (λ (xs : List Line). bound ≤ length xs)
    (λ more. omega (arith, ltb-true bound (length lines) more, length-take (length lines - 1) lines))
    (λ none. within)

left_within : (ls : List Level) (c : Call) (t : Tally) → Within t → Within (left_by ls c t)
left_within ls (Load x) t within = omega (arith, within, with_line_within (load_denial ls t.lines x) t.lines x)
left_within ls Strike t within = struck_within t.bound t.lines within
left_within ls Trial t within = omega arith
left_within ls Keep t within = omega arith
left_within ls Abandon t within = omega arith
left_within ls _ t within = within

-- so it is after any calls
pub bound_within : (ls : List Level) (calls : List Call) → (tally ls calls).bound ≤ length (tally ls calls).lines
bound_within ls calls = kept ls Within (λ c t had within. left_within ls c t within) new_tally calls (omega arith)

-- there is no bound but on trial
abbrev BoundIn : Stage → ℕ → Type 0
BoundIn opened bound = bound ≡ 0
BoundIn on_trial bound = Unit {0}
BoundIn issued bound = bound ≡ 0

abbrev Bound : Tally → Type 0
Bound t = BoundIn t.stage t.bound

none_opened : (s : Stage) (bound : ℕ) → is_opened s ≡ true → BoundIn s bound → bound ≡ 0
none_opened opened bound is none = none
none_opened on_trial bound is none = cc
none_opened issued bound is none = none

none_issued : (s : Stage) (bound : ℕ) → is_issued s ≡ true → BoundIn s bound → bound ≡ 0
none_issued opened bound is none = none
none_issued on_trial bound is none = cc
none_issued issued bound is none = none

left_bound : (ls : List Level) (c : Call) (t : Tally) → has t.stage c ≡ true → Bound t → Bound (left_by ls c t)
left_bound ls Trial t had none = tt
left_bound ls Keep t had none = refl
left_bound ls Abandon t had none = refl
left_bound ls Issue t had none = none_opened t.stage t.bound had none
left_bound ls Reopen t had none = none_issued t.stage t.bound had none
left_bound ls _ t had none = none

-- so an open order has none, after any calls
pub none_bound : (ls : List Level) (calls : List Call) → (tally ls calls).stage ≡ opened → (tally ls calls).bound ≡ 0
none_bound ls calls free =
    let t = tally ls calls in none_opened t.stage t.bound (ap is_opened free) (kept ls Bound (left_bound ls) new_tally calls refl)

-- a load is booked where the state has loads and nothing stands against it
pub after_load :
    (ls : List Level) (t : Tally) (x : Line) → is_working t.stage ≡ true → load_denial ls t.lines x ≡ None
    → after ls t (Load x) ≡ record t { lines = t.lines ++ x ∷ [] }
after_load ls t x working none =
    cond-true (is_working t.stage) _ t working ∙ ap (λ (o : Option OrderDenial). record t { lines = with_line o t.lines x }) none

-- the newest line is struck, where the bound leaves it within reach
pub struck_newest : (bound : ℕ) (lines : List Line) (x : Line) → bound ≤ length lines → struck bound (lines ++ x ∷ []) ≡ lines
struck_newest bound lines x within =
    let more = length_push lines x in
    cond-true (nat_lt bound (length (lines ++ x ∷ []))) _ (lines ++ x ∷ []) (lt-ltb _ _ (omega (arith, more, within)))
    ∙ take_at lines (x ∷ []) (length (lines ++ x ∷ []) - 1) (omega (arith, more))

-- so a strike takes it off
pub after_strike :
    (ls : List Level) (t : Tally) (x : Line) → is_working t.stage ≡ true → t.bound ≤ length t.lines
    → after ls (record t { lines = t.lines ++ x ∷ [] }) Strike ≡ t
after_strike ls t x working within =
    cond-true (is_working t.stage) _ _ working
    ∙ ap (λ (lines : List Line). record t { lines = lines }) (struck_newest t.bound t.lines x within)

-- what only reads leaves a tally as it was
after_reading : (ls : List Level) (t : Tally) (c : Call) → Reads c → after ls t c ≡ t
after_reading ls t (Standing k) reads = refl
after_reading ls t (Sheet card rows) reads = refl
after_reading ls t (Axes card storey axes) reads = refl
after_reading ls t _ reads = absurd reads

-- so do any number of such calls
after_readings : (ls : List Level) (t : Tally) (calls : List Call) → All Reads calls → fold (after ls) t calls ≡ t
after_readings ls t [] reads = refl
after_readings ls t (c ∷ calls) reads =
    ap (λ (u : Tally). fold (after ls) u calls) (after_reading ls t c (All-head Reads c calls reads))
    ∙ after_readings ls t calls (All-tail Reads c calls reads)

-- readings at the end of a list of calls leave the tally of the others
pub tally_unread :
    (ls : List Level) (calls readings : List Call) → All Reads readings
    → tally ls (calls ++ readings) ≡ tally ls calls
tally_unread ls calls readings reads =
    fold-append (after ls) new_tally calls readings ∙ after_readings ls (tally ls calls) readings reads

-- so it is the same at two places with nothing but readings between
pub tally_over :
    (ls : List Level) (calls : List Call) (n m : ℕ) → n ≤ m → All Reads (between n m calls)
    → tally_at ls calls m ≡ tally_at ls calls n
tally_over ls calls n m up reads =
    let sum : m ≡ n + (m - n) = omega (arith, up) in
    ap (tally_at ls calls) sum
    ∙ ap (tally ls) (take-add n (m - n) calls)
    ∙ tally_unread ls (take n calls) (between n m calls) reads

-- past the front of a list of calls, the rest go on from what the front leaves
pub tally_past :
    (ls : List Level) (front rest : List Call) (n k : ℕ) → length front ≡ n
    → tally_at ls (front ++ rest) (n + k) ≡ fold (after ls) (tally ls front) (take k rest)
tally_past ls front rest n k len =
    ap (λ (i : ℕ). tally_at ls (front ++ rest) (i + k)) (sym len)
    ∙ ap (tally ls) (take-append-add front rest k)
    ∙ fold-append (after ls) new_tally front (take k rest)
