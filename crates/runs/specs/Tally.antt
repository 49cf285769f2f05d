-- The tally: what a list of calls leaves, told from the levels of a frame and the calls alone.
use Rattle.std.specs.Prelude.{ℕ, ◌-◌, Bool, true, false, cond, List, [], ◌∷◌, ◌++◌, length, take, fold, Some, None, Option, nat_lt}
use Rattle.records.specs.declared.level.Level.{Level}
use Rattle.records.specs.declared.line.Line.{Line}
use Rattle.orders.specs.declared.denial.OrderDenial.{OrderDenial}
use Rattle.orders.specs.Calls.{load_denial}
use Rattle.runs.specs.declared.call.Call.{Call}
use Rattle.runs.specs.declared.call.Call.TheVariants.{Load, Strike, Standing, Trial, Keep, Abandon, Issue, Reopen, Release, Sheet, Axes}

-- the state of an order
pub data Stage : Type 0 where
  opened : Stage
  on_trial : Stage
  issued : Stage

pub record Tally : Type 0 where
  -- the lines that stand, the oldest first
  pub lines : List Line
  -- how many of the oldest strike does not reach, and abandon leaves
  pub bound : ℕ
  pub stage : Stage

-- a new order
abbrev pub new_tally : Tally
new_tally = record { lines = []; bound = 0; stage = opened }

-- loads and strikes go on while an order is open or on trial
abbrev pub is_working : Stage → Bool
is_working opened = true
is_working on_trial = true
is_working issued = false

abbrev pub is_opened : Stage → Bool
is_opened opened = true
is_opened on_trial = false
is_opened issued = false

abbrev pub is_on_trial : Stage → Bool
is_on_trial opened = false
is_on_trial on_trial = true
is_on_trial issued = false

abbrev pub is_issued : Stage → Bool
is_issued opened = false
is_issued on_trial = false
is_issued issued = true

-- which states have which calls
abbrev pub has : Stage → Call → Bool
has s (Load x) = is_working s
has s Strike = is_working s
has s (Standing k) = true
has s Trial = is_opened s
has s Keep = is_on_trial s
has s Abandon = is_on_trial s
has s Issue = is_opened s
has s Reopen = is_issued s
has s Release = is_issued s
has s (Sheet card rows) = true
has s (Axes card storey axes) = true

-- the lines with one more as the newest, where nothing stands against it
abbrev pub with_line : Option OrderDenial → List Line → Line → List Line
with_line None lines x = lines ++ x ∷ []
with_line (Some d) lines x = lines

-- the lines without the newest, where more stand than the bound
abbrev pub struck : ℕ → List Line → List Line
struck bound lines = cond (nat_lt bound (length lines)) (take (length lines - 1) lines) lines

-- what a call leaves in a state that has it
abbrev pub left_by : List Level → Call → Tally → Tally
left_by ls (Load x) t = record t { lines = with_line (load_denial ls t.lines x) t.lines x }
left_by ls Strike t = record t { lines = struck t.bound t.lines }
left_by ls Trial t = record t { bound = length t.lines; stage = on_trial }
left_by ls Keep t = record t { bound = 0; stage = opened }
left_by ls Abandon t = record t { lines = take t.bound t.lines; bound = 0; stage = opened }
left_by ls Issue t = record t { stage = issued }
left_by ls Reopen t = record t { stage = opened }
-- what only reads
left_by ls (Standing k) t = t
left_by ls Release t = t
left_by ls (Sheet card rows) t = t
left_by ls (Axes card storey axes) t = t

-- a call out of state leaves all as it was
abbrev pub after : List Level → Tally → Call → Tally
after ls t c = cond (has t.stage c) (left_by ls c t) t

-- what stands after some calls on a new order over a frame with these levels
abbrev pub tally : List Level → List Call → Tally
tally ls calls = fold (after ls) new_tally calls
