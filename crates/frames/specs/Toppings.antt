-- The list of a topping, and what adding a level does to it.
use Rattle.std.specs.Prelude.{◌≡◌, ℕ, ◌+◌, ◌-◌, List, [], ◌∷◌, ◌++◌, length, Some, None, Ok, Err, Option, Result}
use Rattle.records.specs.declared.level.Level.{Level}
use Rattle.frames.specs.declared.denial.FrameDenial.{FrameDenial}
use Rattle.frames.specs.declared.topping.Topping.{Topping}
use Rattle.frames.specs.Additions.{add_denial}
use Rattle.frames.specs.Levels.{height_of}
use Rattle.frames.specs.OwnStoreys.{own_storeys}
use Rattle.frames.specs.Steps.{stacked}

-- the list below, and the topping's own storeys as far as a frame's limits allow
abbrev pub topped : {F : Type 0} → (F → List Level) → Topping F → List Level
topped list t = stacked (list t.below) (own_storeys t.own)

-- how many storeys the whole list has over the list below
abbrev pub own_count : List Level → List Level → ℕ
own_count below whole = length whole - length below

-- the denial of one level more on the whole list, which stands over the list below
abbrev pub denial_over : List Level → List Level → Level → Option FrameDenial
denial_over below whole l = add_denial (length whole) (own_count below whole) (height_of whole) l

-- the level comes on top; where it is denied the list stays
abbrev pub Added : List Level → List Level → List Level → Level → Result (Unit {0}) FrameDenial → Type 0
Added below before after l (Ok _) =
    (denial_over below before l ≡ None) × (after ≡ before ++ l ∷ []) × (own_count below after ≡ own_count below before + 1)
Added below before after l (Err d) = (denial_over below before l ≡ Some d) × (after ≡ before)
