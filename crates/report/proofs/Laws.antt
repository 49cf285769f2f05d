-- Every report keeps its law.
use Rattle.std.proofs.Common.{◌≡◌, ℕ, List, length, take, drop, ap₂, Ok, Err, Result, IfOk, sym, refl, ap, ◌∙◌, subst, take_at}
use Rattle.records.specs.declared.failure.Failure.{Failure}
use Rattle.tokens.specs.declared.fault.Fault.{Fault}
use Rattle.order_file.specs.File.{Filed, byte_limit}
use Rattle.order_file.proofs.FirstBytes.{file_front}
use Rattle.order_frame.specs.Outcomes.{judged as frame_judged}
use Rattle.report.proofs.AsRun.{as_run}
use Rattle.report.proofs.Exactly.{good_shows_sheet, other_refused, sheet_of_good}
use Rattle.report.proofs.Lengths.{report_short}
use Rattle.report.specs.declared.denial.ReportDenial.{ReportDenial}
use Rattle.report.specs.Buffers.{Written}
use Rattle.report.specs.Laws.{ReportLaw}
use Rattle.report.specs.Reports.{after_frame, report_text, text_of}

-- a file and its first bytes have the same report
of_first_bytes : (bytes : List ℕ) → report_text bytes ≡ report_text (take byte_limit bytes)
of_first_bytes bytes = ap (λ (o : Result Filed Fault). text_of (after_frame (frame_judged o))) (file_front bytes)

-- the report of every file keeps the law
pub report_law : (bytes : List ℕ) → ReportLaw bytes (report_text bytes)
report_law bytes =
    record {
      good_file_shows_sheet = good_shows_sheet bytes;
      sheet_comes_of_good_file = sheet_of_good bytes;
      other_file_is_refused = other_refused bytes;
      as_run = as_run bytes;
      short = report_short bytes;
    }

-- what is written is the report of the first bytes
pub written_of_first_bytes :
    (bytes before after : List ℕ) (r : Result ℕ (Failure ReportDenial)) → Written (report_text bytes) before r after
    → Written (report_text (take byte_limit bytes)) before r after
written_of_first_bytes bytes before after r w =
    subst (λ (text : List ℕ). Written text before r after) (of_first_bytes bytes) w

-- what is written keeps the law
pub lawful_written :
    (bytes before after : List ℕ) (r : Result ℕ (Failure ReportDenial)) → Written (report_text bytes) before r after
    → IfOk r (λ n. ReportLaw bytes (take n after))
lawful_written bytes before after (Ok n) w =
    let text = report_text bytes in
    let front : text ≡ take n after = sym (ap₂ take w.1 w.2 ∙ take_at text (drop (length text) before) (length text) refl) in
    subst (ReportLaw bytes) front (report_law bytes)
lawful_written bytes before after (Err e) w = tt
