-- The loads of a file are booked in turn.
use Rattle.std.proofs.Common.{◌≡◌, ◌+◌, List, [], ◌∷◌, ◌++◌, length, Some, Ok, Err, sym, ap, ◌∙◌, subst, append_assoc}
use Rattle.records.specs.declared.line.Line.{Line}
use Rattle.order_file.specs.File.{Filed}
use Rattle.order_file.specs.Lines.{load_line}
use Rattle.report.specs.declared.refusal.Refusal.{Refusal}
use Rattle.report.specs.Reports.{load_refusal, on_line, or_else}
use Rattle.report.specs.Sheetings.{Booked}

-- those on the order and those to come are the file's, and what is left to refuse is what there was
pub record Going (f : Filed) (lines left : List Line) : Type 0 where
  pub all : lines ++ left ≡ f.loads
  pub same : load_refusal f lines left ≡ load_refusal f [] f.loads

-- a load that is taken
pub more :
    (f : Filed) (lines later left : List Line) (x : Line) → Going f lines (x ∷ left) → Booked f lines x (Ok tt) later
    → Going f later left
more f lines later left x g b =
    let with_it = lines ++ x ∷ [] in
    let taken : load_refusal f lines (x ∷ left) ≡ load_refusal f with_it left =
    ap (λ o. or_else (on_line (load_line f (length lines + 1)) o) (load_refusal f with_it left)) b.0 in
    let going : Going f with_it left = record { all = append_assoc lines (x ∷ []) left ∙ g.all; same = sym taken ∙ g.same } in
    subst (λ (ls : List Line). Going f ls left) (sym b.1) going

-- one that is denied
pub denied :
    (f : Filed) (lines later left : List Line) (x : Line) (r : Refusal) → Going f lines (x ∷ left)
    → Booked f lines x (Err r) later → load_refusal f [] f.loads ≡ Some r
denied f lines later left x r g b = sym g.same ∙ ap (λ o. or_else o (load_refusal f (lines ++ x ∷ []) left)) b
