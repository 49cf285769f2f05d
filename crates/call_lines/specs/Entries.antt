-- What all lines of a text come to, one after another.
use Rattle.std.specs.Prelude.{◌≡◌, ℕ, ◌+◌, ◌^◌, cond, List, [], ◌∷◌, length, map, take, Some, None, Ok, Err, Option, Result, vec_items, Vec, ◌==◌}
use Rattle.std.specs.Global.{Global}
use Rattle.std.specs.List.{slice_split}
use Rattle.records.specs.declared.card.Card.{Card}
use Rattle.call_lines.specs.declared.call_line.CallLine.{CallLine}
use Rattle.call_lines.specs.declared.unread.Unread.{Unread}
use Rattle.call_lines.specs.declared.unread.Unread.TheVariants.{Unreadable, NoMemory}
use Rattle.call_lines.specs.Asked.{Entry, call, card, entry}
use Rattle.call_lines.specs.Lines.{entry_of}

-- of a longer text only so many bytes count
abbrev pub text_limit : ℕ
text_limit = 2 ^ 20

-- the bytes of a text that count
unfoldable pub counted : List ℕ → List ℕ
counted bs = take text_limit bs

-- the card in force after a line
abbrev pub in_force : Card → Entry → Card
in_force k (call a) = k
in_force k (card c) = c

-- line n, and then the others; where line n is unreadable its number, without a look at the others
abbrev pub first_then : ℕ → Option Entry → (Entry → Result (List Entry) ℕ) → Result (List Entry) ℕ
first_then n None others = Err n
first_then n (Some e) others = others e

-- one entry before the others, where they are readable
abbrev pub before : Entry → Result (List Entry) ℕ → Result (List Entry) ℕ
before e (Ok es) = Ok (e ∷ es)
before e (Err n) = Err n

-- the lines from line n on, as a text falls apart at each byte 10: no byte 10 ends the last part, so it is empty or unreadable
abbrev pub entries : Card → ℕ → List (List ℕ) → Result (List Entry) ℕ
entries k n [] = Ok []
entries k n (last ∷ []) = cond (length last == 0) (Ok []) (Err n)
entries k n (line ∷ next ∷ later) = first_then n (entry_of k (Some line)) (λ e. before e (entries (in_force k e) (n + 1) (next ∷ later)))

-- the lines of a text whose first line has the number n, or the number of its first unreadable line
abbrev pub entries_of : Card → ℕ → List ℕ → Result (List Entry) ℕ
entries_of k n bs = entries k n (slice_split (λ b. b == 10) bs)

-- what was read is what the definition says; nothing is said where there was no memory
abbrev pub ReadAs : Result (Vec CallLine Global) Unread → Result (List Entry) ℕ → Type 0
ReadAs (Ok lines) want = want ≡ Ok (map entry (vec_items lines))
ReadAs (Err (Unreadable n)) want = want ≡ Err n
ReadAs (Err NoMemory) want = Unit {0}
