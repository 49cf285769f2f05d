use Rattle.std.proofs.Common.{◌≡◌, true, Ok, Err, Result, IfOk, is_ok, MatchResult, subst}
use Rattle.std.proofs.lemmas.Result.{err_from_is_err_and}
use Rattle.order_file.specs.File.{order_file_of, filed, ReadAs}
use Rattle.order_file.specs.Lines.{LinedUp}
use Rattle.order_frame.proofs.Blame.{blamed}
use Rattle.order_frame.proofs.open.Goals as goal

-- a value that `map_err` hands on is the one that there was
handed_on : {T E : Type 0} (D : Type 0) (r : Result T E) (x : T) (Q : E → Type 0) → MatchResult r (λ y. ◌≡◌ {A = Result T D} (Ok x) (Ok y)) Q → true ≡ is_ok r → r ≡ Ok x
handed_on D (Ok y) x Q e v = cc
handed_on D (Err e) x Q h v = cc

pub returns-in_err-frame-clause-blame : goal.returns-in_err-frame-clause-blame
returns-in_err-frame-clause-blame c =
    let bytes = c.args.bytes.now in
    let is = handed_on _ c.read.result c.in_ok-file.file _ c.in_ok-file.ensures.cases c.in_ok-file.ensures.variant in
    let told = subst (λ r. ReadAs r (order_file_of bytes)) is c.read.ensures.told in
    let lines = subst (λ r. IfOk r (λ f. LinedUp (filed f) bytes)) is c.read.ensures.lines in
    let e = err_from_is_err_and c.from_residual-in_err-frame.result c.from_residual-in_err-frame.ensures.1 in
    rw (e.1, e.2) (blamed (filed c.in_ok-file.file) bytes _ told (c.in_err-frame.ensures.blame bytes lines))
