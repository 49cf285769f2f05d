-- One line of a text after another, as the reader takes them.
use Rattle.std.specs.Prelude.{◌≡◌, ℕ, ◌+◌, List, Some, None, Ok, Err, Option, Result}
use Rattle.std.specs.Option.{option_map}
use Rattle.records.specs.declared.card.Card.{Card}
use Rattle.tokens.specs.TextLines.{Left, then, first_line, left, numbered}
use Rattle.tokens.specs.declared.fault.Fault.{Fault}
use Rattle.tokens.specs.declared.fault.Fault.TheVariants.{Layout}
use Rattle.tokens.specs.declared.text_line.TextLine.{TextLine}
use Rattle.call_lines.specs.declared.call_line.CallLine.{CallLine}
use Rattle.call_lines.specs.declared.reader.Reader.{Reader}
use Rattle.call_lines.specs.declared.unread.Unread.{Unread}
use Rattle.call_lines.specs.declared.unread.Unread.TheVariants.{Unreadable, NoMemory}
use Rattle.call_lines.specs.Asked.{Entry, entry}
use Rattle.call_lines.specs.Entries.{in_force}
use Rattle.call_lines.specs.Lines.{entry_of}

-- what is left of a text, the number of its first line, and the card in force for it
pub record Place : Type 0 where
  pub rest : List ℕ
  pub line : ℕ
  pub card : Card

-- where a reader stands
abbrev pub place : Reader → Place
place r = record { rest = r.rest.now; line = r.line; card = r.card }

-- the next line, and the place after it; nothing where no byte 10 ends the line
abbrev pub next_line : Place → Option (Left × Place)
next_line p = option_map (λ c. (c.0, record p { rest = c.1; line = p.line + 1 })) (first_line p.rest)

-- what the next line comes to, and the place after it
abbrev pub step : Place → Option (Entry × Place)
step p = then (next_line p) (λ c. option_map (λ e. (e, record c.1 { card = in_force p.card e })) (entry_of p.card c.0))

-- line n was taken, to be read word by word
abbrev pub Lined : Result TextLine Fault → Place → ℕ → Option (Left × Place) → Type 0
Lined (Ok l) p n want = (want ≡ Some (left l, p)) × (numbered l ≡ n)
Lined (Err e) p n want = (want ≡ None) × (e ≡ Layout n)

-- line n was read, or is unreadable; where there was no memory nothing is said
abbrev pub Stepped : Result CallLine Unread → Place → ℕ → Option (Entry × Place) → Type 0
Stepped (Ok x) p n want = want ≡ Some (entry x, p)
Stepped (Err (Unreadable m)) p n want = (want ≡ None) × (m ≡ n)
Stepped (Err NoMemory) p n want = Unit {0}
