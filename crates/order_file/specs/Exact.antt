-- A file is accepted exactly where it is what writing its records makes, and the faulty line of any other is
-- the first that no such file has after the lines before it.
use Rattle.std.specs.Prelude.{◌≡◌, ℕ, ◌-◌, List, Ok, Err, Result, ◌≢◌}
use Rattle.tokens.specs.Faults.{fault_line}
use Rattle.tokens.specs.declared.fault.Fault.{Fault}
use Rattle.order_file.specs.declared.contents.OrderFile.{OrderFile}
use Rattle.records.specs.declared.failure.Failure.{Failure}
use Rattle.records.specs.declared.failure.Failure.TheVariants.{Denied, NoMemory}
use Rattle.order_file.specs.File.{Filed, filed}
use Rattle.order_file.specs.First.{Shares}
use Rattle.order_file.specs.Limits.{Fits}
use Rattle.order_file.specs.Render.{render}

pub record Accepted (f : Filed) (bytes : List ℕ) : Type 0 where
  pub written : bytes ≡ render f
  pub fits : Fits f

pub record Refused (e : Fault) (bytes : List ℕ) : Type 0 where
  -- no records make these bytes
  pub unwritten : (f : Filed) → Fits f → bytes ≢ render f
  -- nor any file with the same lines up to and including the faulty one
  pub faulty : (f : Filed) → Fits f → Shares (fault_line e) bytes (render f) → ⊥
  -- but some file with the same lines before it
  pub first : (f : Filed) × Fits f × Shares (fault_line e - 1) bytes (render f)

abbrev pub Exactly : Result OrderFile (Failure Fault) → List ℕ → Type 0
Exactly (Ok f) bytes = Accepted (filed f) bytes
Exactly (Err (Denied e)) bytes = Refused e bytes
Exactly (Err NoMemory) bytes = Unit {0}
