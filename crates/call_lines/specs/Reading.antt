-- What each step of the reader comes to, by the definitions of the lines.
use Rattle.std.specs.Prelude.{◌≡◌, ℕ, Some, None, Ok, Err, Option, Result}
use Rattle.tokens.specs.TextLines.{Left}
use Rattle.call_lines.specs.declared.call_line.CallLine.{CallLine}
use Rattle.call_lines.specs.declared.unread.Unread.{Unread}
use Rattle.call_lines.specs.declared.unread.Unread.TheVariants.{Unreadable, NoMemory}
use Rattle.call_lines.specs.Asked.{Entry, entry}

-- a part of line n was read, with what is left of the line, or it is not laid out so; where there was no memory nothing is said
abbrev pub Reads : {V A : Type 0} → (V → A) → Result V Unread → Left → ℕ → Option (A × Left) → Type 0
Reads f (Ok x) left n want = want ≡ Some (f x, left)
Reads f (Err (Unreadable m)) left n want = (want ≡ None) × (m ≡ n)
Reads f (Err NoMemory) left n want = Unit {0}

-- line n was read as a whole, or it is unreadable
abbrev pub ReadsWhole : Result CallLine Unread → ℕ → Option Entry → Type 0
ReadsWhole (Ok x) n want = want ≡ Some (entry x)
ReadsWhole (Err (Unreadable m)) n want = (want ≡ None) × (m ≡ n)
ReadsWhole (Err NoMemory) n want = Unit {0}
