-- On which line of the file each record stands. Lines and records are counted from 1.
use Rattle.std.specs.Prelude.{◌≡◌, ℕ, zero, suc, ◌+◌, ◌-◌, ◌≤◌, cond, ◌&&◌, List, length, Some, None, Option, nat_le, slice_index_or}
use Rattle.std.specs.Option.{option_map, option_to_list}
use Rattle.records.specs.declared.kit_numbers.KitNumbers.{KitNumbers}
use Rattle.records.specs.declared.level.Level.{Level}
use Rattle.records.specs.declared.line.Line.{Line}
use Rattle.tokens.specs.Cuts.{cut_at}
use Rattle.tokens.specs.Text.{joined}
use Rattle.tokens.specs.TextLines.{then}
use Rattle.order_file.specs.File.{Filed}
use Rattle.order_file.specs.Render.{kit_words, level_words, load_words, card_words}

-- how many kits the file has
abbrev pub kits : Filed → ℕ
kits f = length (option_to_list f.kit)

-- the line of the kit's record
abbrev pub kit_line : ℕ
kit_line = 2

-- the line of level k
abbrev pub level_line : Filed → ℕ → ℕ
level_line f k = 2 + kits f + k

-- the line of load k
abbrev pub load_line : Filed → ℕ → ℕ
load_line f k = 3 + kits f + length f.levels + k

-- the line of the card's record
abbrev pub card_line : Filed → ℕ
card_line f = 5 + kits f + length f.levels + length f.loads

-- the line of record k of a list, where there is one
abbrev pub where_listed : {A : Type 0} → ℕ → List A → ℕ → Option ℕ
where_listed k xs line = cond (nat_le 1 k && nat_le k (length xs)) (Some line) None

-- the line that stands after n others
abbrev pub line_after : ℕ → List ℕ → Option (List ℕ)
line_after zero bytes = option_map (λ p. p.0) (cut_at 10 bytes)
line_after (suc n) bytes = then (cut_at 10 bytes) (λ p. line_after n p.1)

-- line n of the file, without its byte 10
abbrev pub line_at : ℕ → List ℕ → Option (List ℕ)
line_at zero bytes = None
line_at (suc n) bytes = line_after n bytes

-- each record stands on its line
pub record LinedUp (f : Filed) (bytes : List ℕ) : Type 0 where
  pub kit : (k : KitNumbers) → f.kit ≡ Some k → line_at kit_line bytes ≡ Some (joined (kit_words k))
  pub level : (k : ℕ) (d : Level) → 1 ≤ k → k ≤ length f.levels → line_at (level_line f k) bytes ≡ Some (joined (level_words (slice_index_or f.levels (k - 1) d)))
  pub load : (k : ℕ) (d : Line) → 1 ≤ k → k ≤ length f.loads → line_at (load_line f k) bytes ≡ Some (joined (load_words (slice_index_or f.loads (k - 1) d)))
  pub card : line_at (card_line f) bytes ≡ Some (joined (card_words f.card))
