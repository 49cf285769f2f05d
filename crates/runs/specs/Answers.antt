-- What each call answers, by the tally of the calls before it.
use Rattle.std.specs.Prelude.{◌≡◌, ℕ, Bool, true, false, List, length, Ok, Err, vec_items}
use Rattle.records.specs.declared.card.Card.{Card}
use Rattle.records.specs.declared.level.Level.{Level}
use Rattle.records.specs.declared.line.Line.{Line}
use Rattle.frames.specs.Levels.{weight_of}
use Rattle.seismic.specs.declared.axis.Axis.{Axis}
use Rattle.seismic.specs.declared.row.Row.{Row}
use Rattle.seismic.specs.Axes.{OnAxes, LawOnAxes}
use Rattle.seismic.specs.Laws.{LawOf}
use Rattle.seismic.specs.Sheets.{Sheeted}
use Rattle.orders.specs.Calls.{LoadsWhen, Strikes, Stands}
use Rattle.orders.specs.Loads.{raised}
use Rattle.runs.specs.declared.answer.Answer.{Answer}
use Rattle.runs.specs.declared.answer.Answer.TheVariants.{Loaded, Struck, Standing as Sum, OnTrial, Kept, Abandoned, Issued, Reopened, Released, Sheet as Sheets, Axes as Shears, Denied, OutOfState}
use Rattle.runs.specs.declared.call.Call.{Call}
use Rattle.runs.specs.declared.call.Call.TheVariants.{Load, Strike, Standing, Trial, Keep, Abandon, Issue, Reopen, Release, Sheet, Axes}
use Rattle.runs.specs.Tally.{Tally, has}

-- a load is accepted or denied by the levels and the lines that stand
abbrev pub LoadAnswer : List Level → List Line → Line → Answer → Type 0
LoadAnswer ls lines x (Loaded y) = (y ≡ x) × LoadsWhen ls lines x (Ok tt)
LoadAnswer ls lines x (Denied d) = LoadsWhen ls lines x (Err d)
LoadAnswer ls lines x _ = ⊥

-- a strike answers the newest line, or that none is within its reach
abbrev pub StrikeAnswer : ℕ → List Line → Answer → Type 0
StrikeAnswer bound lines (Struck x) = (older : List Line) × Strikes bound lines (Ok x) older
StrikeAnswer bound lines (Denied d) = Strikes bound lines (Err d) lines
StrikeAnswer bound lines _ = ⊥

-- a standing answers the sum of the loads on the level that it names, or that the frame has no such level
abbrev pub StandingAnswer : List Level → List Line → ℕ → Answer → Type 0
StandingAnswer ls lines k (Sum j sum) = (j ≡ k) × Stands ls lines k (Ok sum)
StandingAnswer ls lines k (Denied d) = Stands ls lines k (Err d)
StandingAnswer ls lines k _ = ⊥

-- levels and lines are counted; the total weight is that of the levels with the loads that stand
abbrev pub ReleaseAnswer : List Level → List Line → Answer → Type 0
ReleaseAnswer ls lines (Released levels count weight) = (levels ≡ length ls) × (count ≡ length lines) × (weight ≡ weight_of (raised lines ls))
ReleaseAnswer ls lines _ = ⊥

-- a sheet of the levels with the loads that stand, in the rows that were lent: Sheeted says which sheet and rows, or which denial,
-- and LawOf is the law that these keep
abbrev pub SheetAnswer : List Level → List Line → Card → List Row → Answer → Type 0
SheetAnswer ls lines card before (Sheets sheet rows) = Sheeted card (raised lines ls) before sheet (vec_items rows) × LawOf card (raised lines ls) sheet (vec_items rows)
SheetAnswer ls lines card before _ = ⊥

-- a storey's shear under the loads that stand, on the axes that were lent: OnAxes says which shear and axes, or which denial, and
-- LawOnAxes is the law that these keep
abbrev pub AxesAnswer : List Level → List Line → Card → ℕ → List Axis → Answer → Type 0
AxesAnswer ls lines card storey before (Shears shear axes) = OnAxes card (raised lines ls) storey before shear (vec_items axes) × LawOnAxes card (raised lines ls) storey before shear (vec_items axes)
AxesAnswer ls lines card storey before _ = ⊥

-- in a state that has the call
abbrev pub InState : List Level → Tally → Call → Answer → Type 0
InState ls t (Load x) a = LoadAnswer ls t.lines x a
InState ls t Strike a = StrikeAnswer t.bound t.lines a
InState ls t (Standing k) a = StandingAnswer ls t.lines k a
InState ls t Trial a = a ≡ OnTrial
InState ls t Keep a = a ≡ Kept
InState ls t Abandon a = a ≡ Abandoned
InState ls t Issue a = a ≡ Issued
InState ls t Reopen a = a ≡ Reopened
InState ls t Release a = ReleaseAnswer ls t.lines a
InState ls t (Sheet card rows) a = SheetAnswer ls t.lines card (vec_items rows) a
InState ls t (Axes card storey axes) a = AxesAnswer ls t.lines card storey (vec_items axes) a

abbrev pub WhenHad : Bool → List Level → Tally → Call → Answer → Type 0
WhenHad true ls t c a = InState ls t c a
WhenHad false ls t c a = a ≡ OutOfState

-- what a call answers over levels ls, after calls with the tally t
abbrev pub AnswerOf : List Level → Tally → Call → Answer → Type 0
AnswerOf ls t c a = WhenHad (has t.stage c) ls t c a
