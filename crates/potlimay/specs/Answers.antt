-- What a call of the report answers to C, and the outcome that the answer tells of.
use Rattle.std.specs.Prelude.{ℕ, zero, suc, Ok, Err, Result}
use Rattle.records.specs.declared.failure.Failure.{Failure}
use Rattle.records.specs.declared.failure.Failure.TheVariants.{Denied, NoMemory}
use Rattle.report.specs.Buffers.{denial_number, denial_place}
use Rattle.report.specs.declared.denial.ReportDenial.{ReportDenial}
use Rattle.report.specs.declared.denial.ReportDenial.TheVariants.{BufferTooShort}
use Rattle.potlimay.specs.declared.answer.Answer.{Answer}

-- the answer that tells of an outcome: status 0 and the bytes written, 1 and the denial, or 2 for want of memory
abbrev pub answer_of : Result ℕ (Failure ReportDenial) → Answer
answer_of (Ok n) = record { status = 0; number = 0; place = 0; length = n }
answer_of (Err (Denied d)) = record { status = 1; number = denial_number d; place = denial_place d; length = 0 }
answer_of (Err NoMemory) = record { status = 2; number = 0; place = 0; length = 0 }

-- the outcome that a status tells of, where so many bytes were written; a report has one denial
abbrev pub outcome_with : ℕ → ℕ → Result ℕ (Failure ReportDenial)
outcome_with zero n = Ok n
outcome_with (suc zero) n = Err (Denied BufferTooShort)
outcome_with (suc (suc more)) n = Err NoMemory

-- the outcome that an answer tells of
abbrev pub outcome_of : Answer → Result ℕ (Failure ReportDenial)
outcome_of a = outcome_with a.status a.length
