-- The whole order file.
use Rattle.std.specs.Prelude.{◌≡◌, ℕ, cond, List, [], ◌∷◌, Some, None, Ok, Err, vec_items, codes, Option, Result, ◌==◌}
use Rattle.records.specs.declared.card.Card.{Card}
use Rattle.records.specs.declared.kit_numbers.KitNumbers.{KitNumbers}
use Rattle.records.specs.declared.level.Level.{Level}
use Rattle.records.specs.declared.line.Line.{Line}
use Rattle.tokens.specs.declared.fault.Fault.{Fault}
use Rattle.tokens.specs.declared.fault.Fault.TheVariants.{Surplus}
use Rattle.order_file.specs.declared.contents.OrderFile.{OrderFile}
use Rattle.records.specs.declared.failure.Failure.{Failure}
use Rattle.records.specs.declared.failure.Failure.TheVariants.{Denied, NoMemory}
use Rattle.order_file.specs.Records.{read_kit, read_level, read_load, read_card}
use Rattle.order_file.specs.Sections.{Place, next, record_line, count_line, section_of_up_to}
use Rattle.records.specs.Limits.{level_limit, storey_limit}

-- the records of a file as plain lists
pub record Filed : Type 0 where
  pub kit : Option KitNumbers
  pub levels : List Level
  pub loads : List Line
  pub card : Card

abbrev pub filed : OrderFile → Filed
filed f = record { kit = f.kit; levels = vec_items f.levels; loads = vec_items f.loads; card = f.card }

-- of a longer file only so many bytes count
abbrev pub byte_limit : ℕ
byte_limit = 8192

-- without a kit a file lists the whole frame, and with one only what stands on top of it
abbrev pub most_levels : Option KitNumbers → ℕ
most_levels None = level_limit
most_levels (Some k) = storey_limit

abbrev pub most_loads : ℕ
most_loads = 64

-- KIT 0, or KIT 1 and the kit's record
abbrev pub kit_section : Place → Result (Option KitNumbers × Place) Fault
kit_section p =
    next (count_line 0 1 (codes "KIT") p) (λ n q.
    cond (n == 0) (Ok (None, q)) (next (record_line read_kit q) (λ k r. Ok (Some k, r))))

-- LEVELS and so many of them
abbrev pub level_section : Option KitNumbers → Place → Result (List Level × Place) Fault
level_section kit p = section_of_up_to (most_levels kit) read_level (codes "LEVELS") p

-- LOADS and so many of them
abbrev pub load_section : Place → Result (List Line × Place) Fault
load_section p = section_of_up_to most_loads read_load (codes "LOADS") p

-- CARD 1 and the card's record
abbrev pub card_section : Place → Result (Card × Place) Fault
card_section p = next (count_line 1 1 (codes "CARD") p) (λ n q. record_line read_card q)

-- the four sections in their order
abbrev pub sections : Place → Result (Filed × Place) Fault
sections o =
    next (kit_section o) (λ kit p.
    next (level_section kit p) (λ levels q.
    next (load_section q) (λ loads r.
    next (card_section r) (λ card s.
    Ok (record { kit = kit; levels = levels; loads = loads; card = card }, s)))))

-- nothing stands after the card's record
abbrev pub and_no_more : Filed → Place → Result Filed Fault
and_no_more f ([], n) = Ok f
and_no_more f (b ∷ bs, n) = Err (Surplus n)

-- the records of a file, or the fault of its first faulty line
abbrev pub order_file_of : List ℕ → Result Filed Fault
order_file_of bs = next (sections (bs, 1)) and_no_more

-- what was read is what the definition says; nothing is said where there was no memory
abbrev pub ReadAs : Result OrderFile (Failure Fault) → Result Filed Fault → Type 0
ReadAs (Ok f) want = want ≡ Ok (filed f)
ReadAs (Err (Denied e)) want = want ≡ Err e
ReadAs (Err NoMemory) want = Unit {0}
