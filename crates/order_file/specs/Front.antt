-- An order file that stands at the front of a longer text.
use Rattle.std.specs.Prelude.{◌≡◌, ◌≢◌, ℕ, ◌+◌, ◌-◌, List, ◌++◌, length, take, drop, Ok, Err, Result}
use Rattle.tokens.specs.Faults.{fault_line}
use Rattle.tokens.specs.declared.fault.Fault.{Fault}
use Rattle.tokens.specs.declared.fault.Fault.TheVariants.{Surplus}
use Rattle.records.specs.declared.failure.Failure.{Failure}
use Rattle.records.specs.declared.failure.Failure.TheVariants.{Denied, NoMemory}
use Rattle.order_file.specs.declared.front.Front.{Front}
use Rattle.order_file.specs.File.{Filed, filed, byte_limit, sections}
use Rattle.order_file.specs.First.{Shares}
use Rattle.order_file.specs.Limits.{Fits}
use Rattle.order_file.specs.Lines.{card_line}
use Rattle.order_file.specs.Render.{render}
use Rattle.order_file.specs.Sections.{Place, next}

-- the sections of the text are these records, and the rest is what follows them, from the line after the card's; nothing is
-- said where there was no memory
abbrev pub FrontAs : Result Front (Failure Fault) → Result (Filed × Place) Fault → Type 0
FrontAs (Ok f) want = want ≡ Ok (filed f.file, (f.rest.now, card_line (filed f.file) + 1))
FrontAs (Err (Denied e)) want = want ≡ Err e
FrontAs (Err NoMemory) want = Unit {0}

-- the text is what writing the records makes, and then the rest
pub record Begins (f : Filed) (rest text : List ℕ) : Type 0 where
  pub written : text ≡ render f ++ rest
  pub fits : Fits f

-- no order file stands at the front of the text, and this line is the first at fault
pub record NotBegun (e : Fault) (text : List ℕ) : Type 0 where
  -- no file stands at the front of the text
  pub unwritten : (f : Filed) (rest : List ℕ) → Fits f → text ≢ render f ++ rest
  -- nor at the front of any text with the same lines up to and including the faulty one
  pub faulty : (f : Filed) (rest : List ℕ) → Fits f → Shares (fault_line e) text (render f ++ rest) → ⊥
  -- but some file has the same lines before it
  pub first : (f : Filed) × Fits f × Shares (fault_line e - 1) text (render f)
  -- what follows the card's record is never at fault
  pub no_surplus : (n : ℕ) → e ≢ Surplus n

-- what was read, and the text that it was read from
abbrev pub ExactlyBegun : Result Front (Failure Fault) → List ℕ → Type 0
ExactlyBegun (Ok f) text = Begins (filed f.file) f.rest.now text
ExactlyBegun (Err (Denied e)) text = NotBegun e text
ExactlyBegun (Err NoMemory) text = Unit {0}

-- what follows in the text, where so much is left of its first bytes
abbrev pub rest_after : List ℕ → List ℕ → List ℕ
rest_after text left = drop (length (take byte_limit text) - length left) text

-- the records and what follows them, where only the first bytes are looked at
abbrev pub front_within : List ℕ → Result (Filed × List ℕ) Fault
front_within text = next (sections (take byte_limit text, 1)) (λ f p. Ok (f, rest_after text p.0))

-- what was read is what the first bytes come to
abbrev pub FrontWithin : Result Front (Failure Fault) → Result (Filed × List ℕ) Fault → Type 0
FrontWithin (Ok f) want = want ≡ Ok (filed f.file, f.rest.now)
FrontWithin (Err (Denied e)) want = want ≡ Err e
FrontWithin (Err NoMemory) want = Unit {0}
