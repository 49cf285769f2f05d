-- The list of a typed frame, and what laying a table does to it.
use Rattle.std.specs.Prelude.{◌≡◌, List, Some, None, Ok, Err, vec_items, Result}
use Rattle.records.specs.declared.level.Level.{Level}
use Rattle.records.specs.declared.failure.Failure.{Failure}
use Rattle.records.specs.declared.failure.Failure.TheVariants.{Denied, NoMemory}
use Rattle.frames.specs.declared.denial.FrameDenial.{FrameDenial}
use Rattle.frames.specs.declared.typed.Typed.{Typed}
use Rattle.frames.specs.Levels.{Sound}
use Rattle.frames.specs.Tables.{lay_denial, DeniedWhen}

abbrev pub typed_list : Typed → List Level
typed_list t = vec_items t.levels

-- the table becomes the list; where it is denied, or memory is wanting, the list stays
abbrev pub Laid : List Level → List Level → List Level → Result (Unit {0}) (Failure FrameDenial) → Type 0
Laid table before after (Ok _) = (lay_denial table ≡ None) × (after ≡ table)
Laid table before after (Err (Denied d)) = (lay_denial table ≡ Some d) × (after ≡ before)
Laid table before after (Err NoMemory) = (lay_denial table ≡ None) × (after ≡ before)

-- what each answer says of the table
abbrev pub LaidWhen : List Level → Result (Unit {0}) (Failure FrameDenial) → Type 0
LaidWhen table (Ok _) = Sound table
LaidWhen table (Err (Denied d)) = DeniedWhen table d
LaidWhen table (Err NoMemory) = Sound table
