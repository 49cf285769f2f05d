-- What the bytes of an order file come to.
use Rattle.std.specs.Prelude.{◌≡◌, ℕ, List, Some, None, Ok, Err, Option, Result}
use Rattle.records.specs.declared.failure.Failure.{Failure}
use Rattle.records.specs.declared.failure.Failure.TheVariants.{Denied, NoMemory}
use Rattle.tokens.specs.declared.fault.Fault.{Fault}
use Rattle.frames.specs.declared.denial.FrameDenial.{FrameDenial}
use Rattle.order_file.specs.File.{Filed, filed, order_file_of}
use Rattle.order_frame.specs.declared.frame.OrderFrame.{OrderFrame}
use Rattle.order_frame.specs.declared.opened.Opened.{Opened}
use Rattle.order_frame.specs.declared.refusal.Refusal.{Refusal}
use Rattle.order_frame.specs.declared.refusal.Refusal.TheVariants.{Faulty}
use Rattle.order_frame.specs.Frames.{frame_levels, frame_denial}
use Rattle.order_frame.specs.OrderFrames.{frame_list, MadeOn}
use Rattle.order_frame.specs.Refusals.{frame_refusal}

-- the frame is judged once the records are read
abbrev pub framed : Filed → Option FrameDenial → Result Filed Refusal
framed f None = Ok f
framed f (Some d) = Err (frame_refusal f d)

abbrev pub judged : Result Filed Fault → Result Filed Refusal
judged (Ok f) = framed f (frame_denial f.kit f.levels)
judged (Err e) = Err (Faulty e)

-- the records of a file whose frame stands, or the refusal
abbrev pub outcome : List ℕ → Result Filed Refusal
outcome bytes = judged (order_file_of bytes)

-- the frame of exactly the levels that the records describe, or the refusal; memory is wanting only where nothing is
-- denied, never on a kit
abbrev pub FrameAs : Result OrderFrame (Failure Refusal) → Filed → Type 0
FrameAs (Ok frame) f =
    (frame_denial f.kit f.levels ≡ None) × (frame_list frame ≡ frame_levels f.kit f.levels) × MadeOn f.kit frame
FrameAs (Err (Denied r)) f = framed f (frame_denial f.kit f.levels) ≡ Err r
FrameAs (Err NoMemory) f = (frame_denial f.kit f.levels ≡ None) × (f.kit ≡ None)

-- the records with the frame of their levels, or the refusal; nothing is said where memory is wanting
abbrev pub OpenedAs : Result Opened (Failure Refusal) → Result Filed Refusal → Type 0
OpenedAs (Ok o) want =
    (want ≡ Ok (filed o.file)) × (frame_list o.frame ≡ frame_levels o.file.kit (filed o.file).levels)
    × MadeOn o.file.kit o.frame
OpenedAs (Err (Denied r)) want = want ≡ Err r
OpenedAs (Err NoMemory) want = Unit {0}
