-- The exits at a line that is not laid out so.
use Rattle.std.proofs.Common.{◌≡◌, ℕ, IsErrAnd, List, None, Err, Option, Result, Vec, Global, sym, ap, ◌∙◌, subst}
use Rattle.std.proofs.lemmas.Result.{err_from_is_err_and}
use Rattle.tokens.specs.Faults.{fault_line}
use Rattle.tokens.specs.TextLines.{Left}
use Rattle.tokens.specs.declared.fault.Fault.{Fault}
use Rattle.tokens.specs.declared.fault.Fault.TheVariants.{Layout}
use Rattle.call_lines.specs.declared.unread.Unread.{Unread}
use Rattle.call_lines.specs.declared.unread.Unread.TheVariants.{Unreadable, NoMemory}
use Rattle.call_lines.specs.declared.call_line.CallLine.{CallLine}
use Rattle.call_lines.specs.Asked.{Entry}
use Rattle.call_lines.specs.Entries.{ReadAs}
use Rattle.call_lines.specs.Reading.{Reads}
use Rattle.call_lines.specs.Steps.{Place, Stepped}

-- a fault that `?` hands on
pub at_fault : {V A : Type 0} (f : V → A) {e : Fault} (r : Result V Unread) (ws : Left) (n : ℕ) (want : Option (A × Left)) → IsErrAnd r (λ y. y ≡ Unreadable (fault_line e)) → (want ≡ None) × (e ≡ Layout n) → Reads f r ws n want
at_fault f {e = e} r ws n want by bad =
    let q = err_from_is_err_and r by in
    subst (λ s. Reads f s ws n want) (sym (q.1 ∙ ap Err q.2)) (bad.0, ap fault_line bad.1)

-- a line's failure, handed on for the whole text
pub at_unread : (e : Unread) (r : Result (Vec CallLine Global) Unread) (p : Place) (n : ℕ) (step : Option (Entry × Place)) (want : Result (List Entry) ℕ) → IsErrAnd r (λ y. y ≡ e) → Stepped (Err e) p n step → (step ≡ None → want ≡ Err n) → ReadAs r want
at_unread e r p n step want by bad faulty =
    let q = err_from_is_err_and r by in
    subst (λ s. ReadAs s want) (sym (q.1 ∙ ap Err q.2)) (told e bad)
  where
    told : (e : Unread) → Stepped (Err e) p n step → ReadAs (Err e) want
    told (Unreadable m) bad = faulty bad.0 ∙ ap Err (sym bad.1)
    told NoMemory bad = tt
