-- The caller's buffer.
use Rattle.std.specs.Prelude.{◌≡◌, ℕ, ◌<◌, ◌≤◌, List, ◌++◌, length, drop, Ok, Err, Result}
use Rattle.records.specs.declared.failure.Failure.{Failure}
use Rattle.records.specs.declared.failure.Failure.TheVariants.{Denied, NoMemory}
use Rattle.report.specs.declared.denial.ReportDenial.{ReportDenial}
use Rattle.report.specs.declared.denial.ReportDenial.TheVariants.{BufferTooShort}

-- bytes that hold every report
abbrev pub buffer_size : ℕ
buffer_size = 4096

-- the number of each denial
abbrev pub denial_number : ReportDenial → ℕ
denial_number BufferTooShort = 37

-- how many bytes are needed
abbrev pub denial_place : ReportDenial → ℕ
denial_place BufferTooShort = buffer_size

-- the text stands at the front of the buffer, and further bytes are as they were; so is the whole buffer where it is too
-- short, or where there is no memory, which is looked for in a buffer that is long enough
abbrev pub Written : List ℕ → List ℕ → Result ℕ (Failure ReportDenial) → List ℕ → Type 0
Written text before (Ok n) after =
    (buffer_size ≤ length before) × (n ≡ length text) × (after ≡ text ++ drop (length text) before)
Written text before (Err (Denied BufferTooShort)) after = (length before < buffer_size) × (after ≡ before)
Written text before (Err NoMemory) after = (buffer_size ≤ length before) × (after ≡ before)
