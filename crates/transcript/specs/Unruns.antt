-- Why no call is made.
use Rattle.records.specs.declared.failure.Failure.{Failure}
use Rattle.records.specs.declared.failure.Failure.TheVariants.{Denied, NoMemory}
use Rattle.tokens.specs.declared.fault.Fault.{Fault}
use Rattle.order_frame.specs.declared.refusal.Refusal.{Refusal}
use Rattle.order_frame.specs.declared.refusal.Refusal.TheVariants.{Faulty}
use Rattle.call_lines.specs.declared.unread.Unread.{Unread}
use Rattle.call_lines.specs.declared.unread.Unread.TheVariants.{Unreadable as NoCallLine, NoMemory as NoMemoryForLines}
use Rattle.transcript.specs.declared.unrun.Unrun.{Unrun}
use Rattle.transcript.specs.declared.unrun.Unrun.TheVariants.{Refused, Unreadable, NoMemory as WantsMemory}

-- the order file is faulty
abbrev pub of_front : Failure Fault → Unrun
of_front (Denied e) = Refused (Faulty e)
of_front NoMemory = WantsMemory

-- its frame is denied
abbrev pub of_frame : Failure Refusal → Unrun
of_frame (Denied r) = Refused r
of_frame NoMemory = WantsMemory

-- a line after it is no call line
abbrev pub of_lines : Unread → Unrun
of_lines (NoCallLine n) = Unreadable n
of_lines NoMemoryForLines = WantsMemory
