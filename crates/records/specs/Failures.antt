-- What becomes of a failure that is told as one of a wider kind.
use Rattle.records.specs.declared.failure.Failure.{Failure}
use Rattle.records.specs.declared.failure.Failure.TheVariants.{Denied, NoMemory}

-- its denial is what `from` makes of it; want of memory stays want of memory
abbrev pub Widens : {D E : Type 0} → (D → E → Type 0) → Failure D → Failure E → Type 0
Widens gives (Denied d) (Denied e) = gives d e
Widens gives (Denied d) NoMemory = ⊥
Widens gives NoMemory (Denied e) = ⊥
Widens gives NoMemory NoMemory = Unit {0}
