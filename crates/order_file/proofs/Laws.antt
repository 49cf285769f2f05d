-- What holds of every file that is read as the definition says.
use Rattle.std.proofs.Common.{ℕ, List, [], IfOk, Ok, Err, Result, sym, ap, ◌∙◌, subst}
use Rattle.tokens.specs.declared.fault.Fault.{Fault}
use Rattle.order_file.specs.declared.contents.OrderFile.{OrderFile}
use Rattle.records.specs.declared.failure.Failure.{Failure}
use Rattle.records.specs.declared.failure.Failure.TheVariants.{Denied, NoMemory}
use Rattle.order_file.specs.Exact.{Exactly}
use Rattle.order_file.specs.File.{order_file_of, filed, ReadAs}
use Rattle.order_file.specs.Lines.{LinedUp}
use Rattle.order_file.proofs.Begun.{file_begun}
use Rattle.order_file.proofs.First.{first_fault}
use Rattle.order_file.proofs.Standing.{lined_up}
use Rattle.order_file.proofs.Steps.{err_ok}
use Rattle.order_file.proofs.Whole.{file_back, file_forth}

pub exactly : (r : Result OrderFile (Failure Fault)) (bytes : List ℕ) → ReadAs r (order_file_of bytes) → Exactly r bytes
exactly (Ok f) bytes h = let q = file_back bytes (filed f) h in record { written = q.0; fits = q.1 }
exactly (Err (Denied e)) bytes h = record { unwritten = λ f fits is. err_ok (sym h ∙ ap order_file_of is ∙ file_forth f fits); faulty = first_fault bytes e h; first = file_begun bytes e h }
exactly (Err NoMemory) bytes h = tt

pub standing : (r : Result OrderFile (Failure Fault)) (bytes : List ℕ) → ReadAs r (order_file_of bytes) → IfOk r (λ f. LinedUp (filed f) bytes)
standing (Ok f) bytes h = let q = file_back bytes (filed f) h in subst (LinedUp (filed f)) (sym q.0) (lined_up (filed f) q.1 [])
standing (Err e) bytes h = tt
