-- What an input asks for, and what is told of it.
use Rattle.std.specs.Prelude.{◌≡◌, List, map, Ok, Err, Result, String, string_bytes, vec_items}
use Rattle.std.specs.Global.{Global}
use Rattle.std.specs.declared.alloc.AllocError.{AllocError}
use Rattle.order_file.specs.File.{Filed}
use Rattle.order_frame.specs.Frames.{frame_levels}
use Rattle.order_frame.specs.OrderFrames.{frame_list}
use Rattle.call_lines.specs.Asked.{Entry, entry}
use Rattle.transcript.specs.declared.day.Day.{Day}
use Rattle.transcript.specs.declared.unrun.Unrun.{Unrun}
use Rattle.transcript.specs.declared.unrun.Unrun.TheVariants.{Refused, Unreadable, NoMemory}
use Rattle.transcript.specs.Transcripts.{day_entries, DayTold}

-- a day's frame, loads and lines are those of a file and of the entries after it
pub record Holds (d : Day) (f : Filed) (es : List Entry) : Type 0 where
  pub frame : frame_list d.frame ≡ frame_levels f.kit f.levels
  pub loads : vec_items d.loads ≡ f.loads
  pub lines : map entry (vec_items d.lines) ≡ es

-- what was read is what the input comes to; nothing is said where there was no memory
abbrev pub DayRead : Result Day Unrun → Result (Filed × List Entry) Unrun → Type 0
DayRead (Ok day) want = (f : Filed) × (es : List Entry) × (want ≡ Ok (f, es)) × Holds day f es
DayRead (Err NoMemory) want = Unit {0}
DayRead (Err (Refused r)) want = want ≡ Err (Refused r)
DayRead (Err (Unreadable n)) want = want ≡ Err (Unreadable n)

-- the text is that of a run of the day's calls on its frame
abbrev pub DayAnswered : Day → Result (String Global) AllocError → Type 0
DayAnswered day (Ok text) = DayTold (frame_list day.frame) (day_entries (vec_items day.loads) (map entry (vec_items day.lines))) (string_bytes text)
DayAnswered day (Err e) = Unit {0}
