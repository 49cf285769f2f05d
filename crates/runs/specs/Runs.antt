-- The law over every run of calls on a new order.
use Rattle.std.specs.Prelude.{◌≡◌, ℕ, ◌+◌, ◌-◌, ◌<◌, ◌≤◌, ◌+ℤ◌, List, [], ◌∷◌, ◌++◌, length, take, drop, slice_get, pos, Some, vec_items, All, Vec}
use Rattle.std.specs.Global.{Global}
use Rattle.std.specs.List.{between}
use Rattle.records.specs.declared.level.Level.{Level}
use Rattle.records.specs.declared.line.Line.{Line}
use Rattle.frames.specs.Levels.{level_at}
use Rattle.seismic.specs.declared.axis.Axis.{Axis}
use Rattle.seismic.specs.declared.row.Row.{Row}
use Rattle.orders.specs.Loads.{raised, standing}
use Rattle.runs.specs.declared.answer.Answer.{Answer}
use Rattle.runs.specs.declared.answer.Answer.TheVariants.{Loaded, Struck, Standing as Sum, OnTrial, Kept, Issued, Reopened, Released, Sheet as Sheets, Axes as Shears, Denied, OutOfState}
use Rattle.runs.specs.declared.call.Call.{Call}
use Rattle.runs.specs.declared.call.Call.TheVariants.{Load, Strike, Standing, Trial, Abandon, Sheet, Axes}
use Rattle.runs.specs.Answers.{AnswerOf}
use Rattle.runs.specs.Tally.{Tally, on_trial, opened, tally}

-- the tally of the first n calls
abbrev pub tally_at : List Level → List Call → ℕ → Tally
tally_at ls calls n = tally ls (take n calls)

-- a run of calls over levels ls: each call is answered as the tally of the calls before it says
pub record Answered (ls : List Level) (calls : List Call) (answers : List Answer) : Type 0 where
  pub one_a_call : length answers ≡ length calls
  pub each : (n : ℕ) (c : Call) (a : Answer) → slice_get calls n ≡ Some c → slice_get answers n ≡ Some a → AnswerOf ls (tally_at ls calls n) c a

-- w is the level l, but that it weighs what l does and the loads on it together, and so 1 to 5,000 tenths of a tonne
pub record Weighs (k : ℕ) (lines : List Line) (l w : Level) : Type 0 where
  pub weight : pos w.weight ≡ pos l.weight +ℤ standing k lines
  pub least : 1 ≤ w.weight
  pub most : w.weight ≤ 5000
  pub else : w ≡ record l { weight = w.weight }

-- the levels of a frame with the loads of some lines on them
pub record Weighed (ls : List Level) (lines : List Line) (ws : List Level) : Type 0 where
  pub count : length ws ≡ length ls
  pub each : (k : ℕ) (l w : Level) → level_at ls k ≡ Some l → level_at ws k ≡ Some w → Weighs k lines l w

-- the same answer, but that its table may stand elsewhere in memory
abbrev pub SameAnswer : Answer → Answer → Type 0
SameAnswer (Sheets sheet rows) b = (others : Vec Row Global) × (b ≡ Sheets sheet others) × (vec_items others ≡ vec_items rows)
SameAnswer (Shears shear axes) b = (others : Vec Axis Global) × (b ≡ Shears shear others) × (vec_items others ≡ vec_items axes)
SameAnswer a b = b ≡ a

-- one by one
pub record SameAnswers (mine theirs : List Answer) : Type 0 where
  pub count : length theirs ≡ length mine
  pub each : (n : ℕ) (a b : Answer) → slice_get mine n ≡ Some a → slice_get theirs n ≡ Some b → SameAnswer a b

-- both ask for a sheet, or both for the same shear on axes, with equal arguments
abbrev pub SameReading : Call → Call → Type 0
SameReading (Sheet card rows) c = (others : Vec Row Global) × (c ≡ Sheet card others) × (vec_items others ≡ vec_items rows)
SameReading (Axes card storey axes) c = (others : Vec Axis Global) × (c ≡ Axes card storey others) × (vec_items others ≡ vec_items axes)
SameReading _ c = ⊥

-- the answers that tell of no change: a denial, a call out of state, and whatever is read
abbrev pub ChangesNothing : Answer → Type 0
ChangesNothing (Denied d) = Unit {0}
ChangesNothing OutOfState = Unit {0}
ChangesNothing (Sum k sum) = Unit {0}
ChangesNothing (Released levels count weight) = Unit {0}
ChangesNothing (Sheets sheet rows) = Unit {0}
ChangesNothing (Shears shear axes) = Unit {0}
ChangesNothing _ = ⊥

-- the moves from state to state but abandon, which alone of them can take lines off
abbrev pub KeepsLines : Answer → Type 0
KeepsLines OnTrial = Unit {0}
KeepsLines Kept = Unit {0}
KeepsLines Issued = Unit {0}
KeepsLines Reopened = Unit {0}
KeepsLines _ = ⊥

-- a call that every state has, and that changes nothing, whatever it answers
abbrev pub Reads : Call → Type 0
Reads (Standing k) = Unit {0}
Reads (Sheet card rows) = Unit {0}
Reads (Axes card storey axes) = Unit {0}
Reads _ = ⊥

-- call n loads line x, which is accepted, and call m is a strike, with nothing but readings between the two: another call
-- between them could be answered otherwise without the load, and then leave something else
pub record LoadStruck (calls : List Call) (answers : List Answer) (n m : ℕ) (x : Line) : Type 0 where
  pub later : n < m
  pub load : slice_get calls n ≡ Some (Load x)
  pub accepted : slice_get answers n ≡ Some (Loaded x)
  pub readings : All Reads (between (n + 1) m calls)
  pub strike : slice_get calls m ≡ Some Strike

-- the calls without call n and call m, of which n is the earlier
abbrev pub without : ℕ → ℕ → List Call → List Call
without n m calls = take n calls ++ between (n + 1) m calls ++ drop (m + 1) calls

-- the trial that call i begins lasts up to call j, which abandons it
pub record TrialAbandoned (ls : List Level) (calls : List Call) (i j : ℕ) : Type 0 where
  pub later : i < j
  pub begins : slice_get calls i ≡ Some Trial
  pub from_open : (tally_at ls calls i).stage ≡ opened
  pub lasts : (n : ℕ) → i < n → n ≤ j → (tally_at ls calls n).stage ≡ on_trial
  pub ends : slice_get calls j ≡ Some Abandon

-- what every run over a frame with levels ls keeps
pub record RunLaw (ls : List Level) (calls : List Call) (answers : List Answer) : Type 0 where
  pub answered : Answered ls calls answers
  -- what is denied, out of state or read leaves all as it was
  pub denied_and_read_change_nothing :
      (n : ℕ) (a : Answer) → slice_get answers n ≡ Some a → ChangesNothing a
      → tally_at ls calls (n + 1) ≡ tally_at ls calls n
  -- a line that is answered as loaded then stands as the newest, and nothing else changes
  pub loaded_is_newest :
      (n : ℕ) (x : Line) → slice_get answers n ≡ Some (Loaded x)
      → tally_at ls calls (n + 1) ≡ record (tally_at ls calls n) { lines = (tally_at ls calls n).lines ++ x ∷ [] }
  -- a line that is answered as struck was the newest until then, and nothing else changes
  pub struck_was_newest :
      (n : ℕ) (x : Line) → slice_get answers n ≡ Some (Struck x)
      → tally_at ls calls n ≡ record (tally_at ls calls (n + 1)) { lines = (tally_at ls calls (n + 1)).lines ++ x ∷ [] }
  -- trial, keep, issue and reopen leave the lines as they stood
  pub moves_keep_lines :
      (n : ℕ) (a : Answer) → slice_get answers n ≡ Some a → KeepsLines a
      → (tally_at ls calls (n + 1)).lines ≡ (tally_at ls calls n).lines
  -- the levels that a sheet or an axes call reads, at any point
  pub weighed : (n : ℕ) → Weighed ls (tally_at ls calls n).lines (raised (tally_at ls calls n).lines ls)
  -- where an accepted load is struck, with nothing but readings between the two, the strike answers its line
  pub strike_answers_load : (n m : ℕ) (x : Line) → LoadStruck calls answers n m x → slice_get answers m ≡ Some (Struck x)
  -- and leaves every later answer as if neither call had been made
  pub strike_undoes_load :
      (n m : ℕ) (x : Line) (others : List Answer) → LoadStruck calls answers n m x → Answered ls (without n m calls) others
      → SameAnswers (drop (m + 1) answers) (drop (m - 1) others)
  -- abandon leaves exactly what stood when its trial began: lines, bound and state
  pub abandon_restores : (i j : ℕ) → TrialAbandoned ls calls i j → tally_at ls calls (j + 1) ≡ tally_at ls calls i
  -- and every later answer as if the trial had never been
  pub abandoned_trial_undone :
      (i j : ℕ) (others : List Answer) → TrialAbandoned ls calls i j → Answered ls (take i calls ++ drop (j + 1) calls) others
      → SameAnswers (drop (j + 1) answers) (drop i others)
  -- what is read of a sheet or on axes depends on the levels, the lines that stand and the call's arguments alone: any other
  -- run over these levels, at any point with the same lines, however it came there, answers the same
  pub readings_follow_lines :
      (others : List Call) (theirs : List Answer) → Answered ls others theirs
      → (n m : ℕ) → (tally_at ls others m).lines ≡ (tally_at ls calls n).lines
      → (c d : Call) (a b : Answer)
      → slice_get calls n ≡ Some c → slice_get answers n ≡ Some a → slice_get others m ≡ Some d → slice_get theirs m ≡ Some b
      → SameReading c d → SameAnswer a b
