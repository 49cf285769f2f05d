-- The exit at a fault.
use Rattle.std.proofs.Common.{◌≡◌, IsErrAnd, Err, Result, sym, ap, ◌∙◌, subst}
use Rattle.std.proofs.lemmas.Result.{err_from_is_err_and}
use Rattle.tokens.specs.declared.fault.Fault.{Fault}
use Rattle.records.specs.declared.failure.Failure.{Failure}
use Rattle.records.specs.declared.failure.Failure.TheVariants.{Denied}
use Rattle.order_file.specs.Reading.{Reads}
use Rattle.order_file.specs.Sections.{Place}

-- a fault that `?` hands on
pub at_fault : {V A : Type 0} (f : V → A) {e : Fault} (r : Result V (Failure Fault)) (p : Place) (want : Result (A × Place) Fault) → IsErrAnd r (λ y. y ≡ Denied e) → want ≡ Err e → Reads f r p want
at_fault f {e = e} r p want by bad =
    let q = err_from_is_err_and r by in
    subst (λ s. Reads f s p want) (sym (q.1 ∙ ap Err q.2)) bad
