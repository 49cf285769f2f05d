-- A text is read exactly where it is what writing its lines makes, and the unreadable line of any other is the first that
-- no such text has after the lines before it.
use Rattle.std.specs.Prelude.{◌≡◌, ℕ, suc, ◌+◌, ◌≤◌, List, [], ◌∷◌, length, map, Ok, Err, Result, vec_items, Vec, ◌≢◌}
use Rattle.std.specs.Global.{Global}
use Rattle.std.specs.List.{AllByRecursion}
use Rattle.records.specs.declared.card.Card.{Card}
use Rattle.seismic.specs.declared.axis.Axis.{Axis}
use Rattle.tokens.specs.Numbers.{Small}
use Rattle.order_file.specs.First.{Shares}
use Rattle.order_file.specs.Limits.{LoadShort, CardShort}
use Rattle.call_lines.specs.declared.call_line.CallLine.{CallLine}
use Rattle.call_lines.specs.declared.unread.Unread.{Unread}
use Rattle.call_lines.specs.declared.unread.Unread.TheVariants.{Unreadable, NoMemory}
use Rattle.call_lines.specs.Asked.{Asked, load, strike, standing, trial, keep, abandon, issue, reopen, release, sheet, axes, Entry, call, card, entry}
use Rattle.call_lines.specs.Entries.{in_force}
use Rattle.call_lines.specs.Lines.{blank_rows, most_stiffnesses}
use Rattle.call_lines.specs.Render.{written}

-- an axis that takes nothing yet, with a stiffness of at most nine digits
abbrev pub Fresh : Axis → Type 0
Fresh a = Small a.stiffness × (a.direct_shear ≡ 0)

-- what a line can ask under a card: numbers of at most nine digits, this card, blank rows, and axes that take nothing yet
abbrev pub CanAsk : Card → Asked → Type 0
CanAsk k (load x) = LoadShort x
CanAsk k strike = Unit {0}
CanAsk k (standing n) = Small n
CanAsk k trial = Unit {0}
CanAsk k keep = Unit {0}
CanAsk k abandon = Unit {0}
CanAsk k issue = Unit {0}
CanAsk k reopen = Unit {0}
CanAsk k release = Unit {0}
CanAsk k (sheet c rows) = (c ≡ k) × (rows ≡ blank_rows)
CanAsk k (axes c storey lent) = (c ≡ k) × Small storey × AllByRecursion Fresh lent × (length lent ≤ most_stiffnesses)

-- what a line can be under a card
abbrev pub CanStand : Card → Entry → Type 0
CanStand k (call a) = CanAsk k a
CanStand k (card c) = CardShort c

-- each under the card that the lines before it leave in force
abbrev pub CanFollow : Card → List Entry → Type 0
CanFollow k [] = Unit {0}
CanFollow k (e ∷ es) = CanStand k e × CanFollow (in_force k e) es

-- the entries make the text, each under the card in force
pub record Accepted (k : Card) (es : List Entry) (bytes : List ℕ) : Type 0 where
  pub written : bytes ≡ written es
  pub can : CanFollow k es

-- i lines stand before the unreadable one
pub record Refused (k : Card) (i : ℕ) (bytes : List ℕ) : Type 0 where
  -- no lines make these bytes
  pub unwritten : (es : List Entry) → CanFollow k es → bytes ≢ written es
  -- nor any text with the same lines up to and including the unreadable one
  pub faulty : (es : List Entry) → CanFollow k es → Shares (suc i) bytes (written es) → ⊥
  -- but some text with the same lines before it
  pub first : (es : List Entry) × CanFollow k es × Shares i bytes (written es)

-- what was read, and the text whose first line has the number n; nothing is said where there was no memory
abbrev pub Exactly : Card → ℕ → Result (Vec CallLine Global) Unread → List ℕ → Type 0
Exactly k n (Ok lines) bytes = Accepted k (map entry (vec_items lines)) bytes
Exactly k n (Err (Unreadable m)) bytes = (i : ℕ) × (m ≡ n + i) × Refused k i bytes
Exactly k n (Err NoMemory) bytes = Unit {0}
