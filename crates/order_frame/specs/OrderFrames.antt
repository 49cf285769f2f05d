-- The list of an order file's frame, and what making it answers.
use Rattle.std.specs.Prelude.{◌≡◌, List, Some, None, Ok, Err, Option, Result}
use Rattle.records.specs.declared.kit_numbers.KitNumbers.{KitNumbers}
use Rattle.records.specs.declared.level.Level.{Level}
use Rattle.frames.specs.declared.denial.FrameDenial.{FrameDenial}
use Rattle.records.specs.declared.failure.Failure.{Failure}
use Rattle.records.specs.declared.failure.Failure.TheVariants.{Denied, NoMemory}
use Rattle.frames.specs.declared.kit.Kit.{Kit}
use Rattle.frames.specs.declared.topping.Topping.{Topping}
use Rattle.frames.specs.KitFrames.{made_list}
use Rattle.frames.specs.Toppings.{topped}
use Rattle.frames.specs.TypedLists.{typed_list}
use Rattle.order_frame.specs.declared.frame.OrderFrame.{OrderFrame}
use Rattle.order_frame.specs.declared.frame.OrderFrame.TheVariants.{Typed, Topped}
use Rattle.order_frame.specs.Frames.{frame_levels, frame_denial}

abbrev pub frame_list : OrderFrame → List Level
frame_list (Typed t) = typed_list t
frame_list (Topped t) = topped made_list t

-- without a kit the levels stand in a typed frame, with one in a topping on the kit of exactly these numbers
abbrev pub MadeOn : Option KitNumbers → OrderFrame → Type 0
MadeOn kit (Typed t) = kit ≡ None
MadeOn kit (Topped t) = kit ≡ Some t.below.numbers

-- the frame of exactly these levels, or the denial; memory is wanting only for a table without denial, never on a kit
abbrev pub Framed : Option KitNumbers → List Level → Result OrderFrame (Failure FrameDenial) → Type 0
Framed kit levels (Ok f) = (frame_denial kit levels ≡ None) × (frame_list f ≡ frame_levels kit levels) × MadeOn kit f
Framed kit levels (Err (Denied d)) = frame_denial kit levels ≡ Some d
Framed kit levels (Err NoMemory) = (frame_denial kit levels ≡ None) × (kit ≡ None)

-- the same of a kit with levels put on it
abbrev pub ToppedBy : KitNumbers → List Level → Result (Topping Kit) FrameDenial → Type 0
ToppedBy n levels (Ok t) =
    (frame_denial (Some n) levels ≡ None) × (topped made_list t ≡ frame_levels (Some n) levels) × (t.below.numbers ≡ n)
ToppedBy n levels (Err d) = frame_denial (Some n) levels ≡ Some d
