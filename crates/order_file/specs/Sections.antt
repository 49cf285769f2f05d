-- How lines, records and sections follow one another in the file.
use Rattle.std.specs.Prelude.{ℕ, zero, suc, ◌+◌, cond, ◌&&◌, List, [], ◌∷◌, Some, None, Ok, Err, Option, Result, nat_le}
use Rattle.tokens.specs.TextLines.{Left, first_line, heading_of}
use Rattle.tokens.specs.declared.fault.Fault.{Fault}
use Rattle.tokens.specs.declared.fault.Fault.TheVariants.{Layout, Count}

-- what is left of the file, and the number of its first line
abbrev pub Place : Type 0
Place = List ℕ × ℕ

-- one after the other, up to the first fault
abbrev pub next : {A B : Type 0} → Result (A × Place) Fault → (A → Place → Result B Fault) → Result B Fault
next (Ok p) k = k p.0 p.1
next (Err e) k = Err e

-- a line that no byte 10 ends is missing
abbrev pub numbered_line : ℕ → Option (Left × List ℕ) → Result (Left × Place) Fault
numbered_line n None = Err (Layout n)
numbered_line n (Some p) = Ok (p.0, (p.1, n + 1))

abbrev pub next_line : Place → Result (Left × Place) Fault
next_line p = numbered_line p.1 (first_line p.0)

-- nothing is left of the line
abbrev pub to_the_end : {A : Type 0} → Option (A × Left) → Option A
to_the_end None = None
to_the_end (Some (x, None)) = Some x
to_the_end (Some (x, Some ws)) = None

-- line n is laid out so, or not
abbrev pub laid_out : {A : Type 0} → ℕ → Place → Option A → Result (A × Place) Fault
laid_out n p None = Err (Layout n)
laid_out n p (Some x) = Ok (x, p)

-- the next line is one such record
abbrev pub record_line : {A : Type 0} → (Left → Option (A × Left)) → Place → Result (A × Place) Fault
record_line f p = next (next_line p) (λ ws q. laid_out p.1 q (to_the_end (f ws)))

-- so many records, one a line
abbrev pub record_lines : {A : Type 0} → (Left → Option (A × Left)) → ℕ → Place → Result (List A × Place) Fault
record_lines f zero p = Ok ([], p)
record_lines f (suc n) p = next (record_line f p) (λ x q. next (record_lines f n q) (λ xs r. Ok (x ∷ xs, r)))

-- the line that opens a section: its word and its count; the layout comes before the count
abbrev pub count_line : ℕ → ℕ → List ℕ → Place → Result (ℕ × Place) Fault
count_line least most name p = next (record_line (heading_of name) p) (λ n q. cond (nat_le least n && nat_le n most) (Ok (n, q)) (Err (Count p.1)))

-- a section of up to so many records
abbrev pub section_of_up_to : {A : Type 0} → ℕ → (Left → Option (A × Left)) → List ℕ → Place → Result (List A × Place) Fault
section_of_up_to most f name p = next (count_line 0 most name p) (record_lines f)
