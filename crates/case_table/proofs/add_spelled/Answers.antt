use Rattle.std.proofs.Common.{◌≡◌, ◌++◌, ◌∙◌, List, ℕ, subst, sym, ap, append_assoc}
use Rattle.case_table.specs.Spelling.{card, no_loads, spelled}
use Rattle.case_table.proofs.add_spelled.Goals as goal

pub returns-in_ok-extend_from_slice-in-36-2 : goal.returns-in_ok-extend_from_slice-in-36-2
returns-in_ok-extend_from_slice-in-36-2 c =
    subst
    (λ b. c.extend_from_slice-in-36-2.new.self.items ≡ c.args.bytes.now.items ++ spelled b)
    (sym c.in-36.is)
    (c.in_ok-extend_from_slice-in-36-2.ensures.items
    ∙ ap (λ (bs : List ℕ). bs ++ card) c.in_ok-extend_from_slice-in-36.ensures.items
    ∙ append_assoc c.args.bytes.now.items no_loads card)

pub returns-in_ok-extend_from_slice-in-38 : goal.returns-in_ok-extend_from_slice-in-38
returns-in_ok-extend_from_slice-in-38 c =
    subst
    (λ b. c.extend_from_slice-in-38.new.self.items ≡ c.args.bytes.now.items ++ spelled b)
    (sym c.in-38.is)
    c.in_ok-extend_from_slice-in-38.ensures.items
