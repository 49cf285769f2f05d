-- What is printed for an input: an order file, and call lines after it.
use Rattle.std.specs.Prelude.{◌≡◌, ℕ, ◌^◌, List, [], ◌∷◌, ◌++◌, map, Some, None, Ok, Err, Option, Result, codes, decimal}
use Rattle.records.specs.declared.level.Level.{Level}
use Rattle.records.specs.declared.line.Line.{Line}
use Rattle.tokens.specs.Text.{line_of}
use Rattle.tokens.specs.declared.fault.Fault.{Fault}
use Rattle.frames.specs.declared.denial.FrameDenial.{FrameDenial}
use Rattle.order_file.specs.File.{Filed, sections}
use Rattle.order_file.specs.Sections.{Place}
use Rattle.order_frame.specs.Frames.{frame_denial, frame_levels}
use Rattle.order_frame.specs.Refusals.{frame_refusal, refused_words}
use Rattle.order_frame.specs.declared.refusal.Refusal.TheVariants.{Faulty}
use Rattle.call_lines.specs.Asked.{Entry, call, load, asked}
use Rattle.call_lines.specs.Entries.{entries_of}
use Rattle.runs.specs.declared.answer.Answer.{Answer}
use Rattle.runs.specs.declared.call.Call.{Call}
use Rattle.runs.specs.Runs.{RunLaw}
use Rattle.transcript.specs.declared.unrun.Unrun.{Unrun}
use Rattle.transcript.specs.declared.unrun.Unrun.TheVariants.{Refused, Unreadable, NoMemory}
use Rattle.transcript.specs.Scripts.{asked_calls, told, turns}

-- bytes; of a longer input no more count
abbrev pub input_limit : ℕ
input_limit = 2 ^ 20

-- the file's loads, and then what the lines after it come to
abbrev pub day_entries : List Line → List Entry → List Entry
day_entries loads es = map (λ (x : Line). call (load x)) loads ++ es

-- a day's calls on a new order over a frame, and the text of their answers
pub record DayTold (ls : List Level) (es : List Entry) (text : List ℕ) : Type 0 where
  pub calls : List Call
  pub answers : List Answer
  pub asked : map asked calls ≡ asked_calls es
  -- the answers are those of a run of these calls
  pub law : RunLaw ls calls answers
  pub text_is : text ≡ told (turns es) answers

-- what an input comes to: a file and the entries after it, or why no call is made
abbrev pub on_frame : Filed → Option FrameDenial → List Entry → Result (Filed × List Entry) Unrun
on_frame f (Some d) es = Err (Refused (frame_refusal f d))
on_frame f None es = Ok (f, es)

-- the lines after the file are read before the frame is made
abbrev pub with_lines : Filed → Result (List Entry) ℕ → Result (Filed × List Entry) Unrun
with_lines f (Err n) = Err (Unreadable n)
with_lines f (Ok es) = on_frame f (frame_denial f.kit f.levels) es

-- they are read under the file's card
abbrev pub after_file : Result (Filed × Place) Fault → Result (Filed × List Entry) Unrun
after_file (Err e) = Err (Refused (Faulty e))
after_file (Ok (f, (rest, n))) = with_lines f (entries_of f.card n rest)

-- of the bytes of an input
abbrev pub day_of : List ℕ → Result (Filed × List Entry) Unrun
day_of input = after_file (sections (input, 1))

-- what is printed for it; no input comes to want of memory
abbrev pub Prints : Result (Filed × List Entry) Unrun → List ℕ → Type 0
Prints (Err (Refused r)) text = text ≡ line_of (refused_words r) []
Prints (Err (Unreadable n)) text = text ≡ line_of (codes "UNREADABLE" ∷ decimal n ∷ []) []
Prints (Err NoMemory) text = ⊥
Prints (Ok (f, es)) text = DayTold (frame_levels f.kit f.levels) (day_entries f.loads es) text

-- the text is what is printed for an input
abbrev pub Transcribed : List ℕ → List ℕ → Type 0
Transcribed input text = Prints (day_of input) text
