-- What each fault tells.
use Rattle.std.specs.Prelude.{ℕ}
use Rattle.tokens.specs.declared.fault.Fault.{Fault}
use Rattle.tokens.specs.declared.fault.Fault.TheVariants.{Layout, Count, Surplus}

abbrev pub fault_number : Fault → ℕ
fault_number (Layout n) = 41
fault_number (Count n) = 42
fault_number (Surplus n) = 43

-- it is told by its line, and has no place
abbrev pub fault_place : Fault → ℕ
fault_place e = 0

-- the faulty line, counted from 1
abbrev pub fault_line : Fault → ℕ
fault_line (Layout n) = n
fault_line (Count n) = n
fault_line (Surplus n) = n
