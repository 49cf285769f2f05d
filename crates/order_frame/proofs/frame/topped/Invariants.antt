use Rattle.std.proofs.Common.{◌≡◌}
use Rattle.frames.specs.KitFrames.{made_list}
use Rattle.frames.specs.Toppings.{topped}
use Rattle.order_frame.proofs.Adding.{PutOn}
use Rattle.order_frame.proofs.frame.topped.Given as goal

abbrev pub invariant-loop-level : goal.invariant-loop-level
invariant-loop-level l = (l.topping.below ≡ l.initial.topping.below) × PutOn (made_list l.initial.topping.below) l.levels l.level-index (topped made_list l.topping)
