-- What load, strike and standing answer, and what they leave of the lines.
use Rattle.std.specs.Prelude.{◌≡◌, ℕ, ◌<◌, ◌≤◌, ◌≤ℤ◌, ◌+ℤ◌, Bool, cond, not, ◌≢◌, List, [], ◌∷◌, ◌++◌, ℤ, pos, negsuc, length, Some, None, Ok, Err, Option, Result, nat_le}
use Rattle.records.specs.declared.level.Level.{Level}
use Rattle.records.specs.declared.line.Line.{Line}
use Rattle.records.specs.Ranges.{weight_fits}
use Rattle.frames.specs.Levels.{level_at}
use Rattle.orders.specs.declared.denial.OrderDenial.{OrderDenial}
use Rattle.orders.specs.declared.denial.OrderDenial.TheVariants.{NoSuchLevel, LoadOutOfRange, WeightOutOfRange, NoRoom, NothingToStrike}
use Rattle.orders.specs.Loads.{load_fits, loaded, standing}

-- lines that an order keeps
abbrev pub line_limit : ℕ
line_limit = 64

-- a level bears a load where it then weighs 1 to 5,000 tenths of a tonne
abbrev pub bears : Level → ℤ → Bool
bears l z = weight_fits (loaded z l).weight

-- why a line is not booked on the level that it names, where there is one: so much stands on it, and so many lines in all
abbrev pub line_denial : Option Level → ℤ → ℕ → Line → Option OrderDenial
line_denial None sum lines x = Some (NoSuchLevel x.level)
line_denial (Some l) sum lines x =
    cond (not (load_fits x.load)) (Some (LoadOutOfRange x.level))
    (cond (not (bears l (sum +ℤ x.load))) (Some (WeightOutOfRange x.level))
    (cond (nat_le line_limit lines) (Some (NoRoom x.level)) None))

-- why a load is denied, judged on the frame's list and the standing lines
abbrev pub load_denial : List Level → List Line → Line → Option OrderDenial
load_denial ls lines x = line_denial (level_at ls x.level) (standing x.level lines) (length lines) x

-- a line may be booked, or this stands against it
abbrev pub Judged : Option OrderDenial → Result (Unit {0}) OrderDenial → Type 0
Judged denial (Ok _) = denial ≡ None
Judged denial (Err d) = denial ≡ Some d

-- a load is booked as the newest line; where it is denied the lines stay
abbrev pub Loads : List Level → List Line → Line → Result (Unit {0}) OrderDenial → List Line → Type 0
Loads ls before x (Ok _) after = (load_denial ls before x ≡ None) × (after ≡ before ++ x ∷ [])
Loads ls before x (Err d) after = (load_denial ls before x ≡ Some d) × (after ≡ before)

-- the frame has a level k
abbrev pub IsThere : List Level → ℕ → Type 0
IsThere ls k = (1 ≤ k) × (k ≤ length ls)

-- -5,000 to 5,000, and not 0
abbrev pub LoadFits : ℤ → Type 0
LoadFits z = (z ≢ pos 0) × (negsuc 4999 ≤ℤ z) × (z ≤ℤ pos 5000)

-- with the load its level weighs 1 to 5,000: what the frame gives, what stands there, and the load
abbrev pub Bears : List Level → List Line → Line → Type 0
Bears ls lines x =
    (l : Level) → level_at ls x.level ≡ Some l
    → (pos 1 ≤ℤ (pos l.weight +ℤ (standing x.level lines +ℤ x.load))) × ((pos l.weight +ℤ (standing x.level lines +ℤ x.load)) ≤ℤ pos 5000)

-- what each denial of a load says of its level, its size and the lines, in the order in which they are judged
abbrev pub LoadDeniedWhen : List Level → List Line → Line → OrderDenial → Type 0
LoadDeniedWhen ls lines x (NoSuchLevel k) = (k ≡ x.level) × ¬ IsThere ls x.level
LoadDeniedWhen ls lines x (LoadOutOfRange k) = (k ≡ x.level) × IsThere ls x.level × ¬ LoadFits x.load
LoadDeniedWhen ls lines x (WeightOutOfRange k) = (k ≡ x.level) × IsThere ls x.level × LoadFits x.load × ¬ Bears ls lines x
LoadDeniedWhen ls lines x (NoRoom k) = (k ≡ x.level) × IsThere ls x.level × LoadFits x.load × Bears ls lines x × (line_limit ≤ length lines)
LoadDeniedWhen ls lines x NothingToStrike = ⊥

-- what a load's answer says
abbrev pub LoadsWhen : List Level → List Line → Line → Result (Unit {0}) OrderDenial → Type 0
LoadsWhen ls lines x (Ok _) = IsThere ls x.level × LoadFits x.load × Bears ls lines x × (length lines < line_limit)
LoadsWhen ls lines x (Err d) = LoadDeniedWhen ls lines x d

-- the newest line is taken off and answered, where more stand than the bound
abbrev pub Strikes : ℕ → List Line → Result Line OrderDenial → List Line → Type 0
Strikes bound before (Ok x) after = (bound < length before) × (before ≡ after ++ x ∷ [])
Strikes bound before (Err d) after = (length before ≤ bound) × (d ≡ NothingToStrike) × (after ≡ before)

-- the sum of the loads on a level that the frame has
abbrev pub Stands : List Level → List Line → ℕ → Result ℤ OrderDenial → Type 0
Stands ls lines k (Ok sum) = IsThere ls k × (sum ≡ standing k lines)
Stands ls lines k (Err d) = (¬ IsThere ls k) × (d ≡ NoSuchLevel k)
