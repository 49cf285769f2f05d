-- What each step of the reader comes to, by the definitions of the format.
use Rattle.std.specs.Prelude.{◌≡◌, ℕ, Ok, Err, Result}
use Rattle.tokens.specs.TextLines.{Left, left, numbered}
use Rattle.tokens.specs.declared.fault.Fault.{Fault}
use Rattle.tokens.specs.declared.text_line.TextLine.{TextLine}
use Rattle.records.specs.declared.failure.Failure.{Failure}
use Rattle.records.specs.declared.failure.Failure.TheVariants.{Denied, NoMemory}
use Rattle.order_file.specs.declared.reader.Reader.{Reader}
use Rattle.order_file.specs.Sections.{Place}

-- where a reader stands
abbrev pub place : Reader → Place
place r = (r.rest.now, r.line)

-- what was read is what was wanted, and the reader stands after it
abbrev pub Read : {A : Type 0} → Result A Fault → Place → Result (A × Place) Fault → Type 0
Read (Ok x) p want = want ≡ Ok (x, p)
Read (Err e) p want = want ≡ Err e

-- the same where there may be no memory: then nothing is said
abbrev pub Reads : {V A : Type 0} → (V → A) → Result V (Failure Fault) → Place → Result (A × Place) Fault → Type 0
Reads f (Ok x) p want = want ≡ Ok (f x, p)
Reads f (Err (Denied e)) p want = want ≡ Err e
Reads f (Err NoMemory) p want = Unit {0}

-- line n was taken, to be read word by word
abbrev pub Lined : Result TextLine Fault → Place → ℕ → Result (Left × Place) Fault → Type 0
Lined (Ok l) p n want = (want ≡ Ok (left l, p)) × (numbered l ≡ n)
Lined (Err e) p n want = want ≡ Err e
