-- An order that goes from state to state, by the frame that it holds and the tally that it stands at.
use Rattle.frames.specs.declared.frame.Frame.{Ghosts}
use Rattle.orders.specs.Tables.{booked as lines_of}
use Rattle.runs.specs.declared.any_order.AnyOrder.{AnyOrder}
use Rattle.runs.specs.declared.any_order.AnyOrder.TheVariants.{Open, OnTrial, Issued}
use Rattle.runs.specs.Tally.{Tally, opened, on_trial, issued}

-- the frame that it holds, whatever its state
abbrev pub frame_of : {F : Type 0} {g : Ghosts F} → AnyOrder F g → F
frame_of (Open o) = o.frame
frame_of (OnTrial o) = o.frame
frame_of (Issued o) = o.frame

-- what stands in it, told as a tally: its lines, its state, and the bound of its trial, 0 where it is not on trial
abbrev pub tally_of : {F : Type 0} {g : Ghosts F} → AnyOrder F g → Tally
tally_of (Open o) = record { lines = lines_of o.lines; bound = 0; stage = opened }
tally_of (OnTrial o) = record { lines = lines_of o.lines; bound = o.state.bound; stage = on_trial }
tally_of (Issued o) = record { lines = lines_of o.lines; bound = 0; stage = issued }
