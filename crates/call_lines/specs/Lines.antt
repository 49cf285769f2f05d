-- What one line comes to, under the card in force.
use Rattle.std.specs.Prelude.{ℕ, zero, suc, List, [], ◌∷◌, map, pos, replicate, Some, None, Option}
use Rattle.records.specs.declared.card.Card.{Card}
use Rattle.seismic.specs.declared.axis.Axis.{Axis}
use Rattle.seismic.specs.declared.row.Row.{Row}
use Rattle.records.specs.Limits.{level_limit}
use Rattle.tokens.specs.Fields.{as_number}
use Rattle.tokens.specs.TextLines.{Left, then}
use Rattle.order_file.specs.Records.{reading, read_load, read_card}
use Rattle.order_file.specs.Sections.{to_the_end}
use Rattle.call_lines.specs.declared.word.Word.{Word}
use Rattle.call_lines.specs.declared.word.Word.TheVariants.{Load, Strike, Standing, Trial, Keep, Abandon, Issue, Reopen, Release, Sheet, Axes, Card as NewCard}
use Rattle.call_lines.specs.Asked.{Asked, load, strike, standing, trial, keep, abandon, issue, reopen, release, sheet, axes, Entry, call, card}
use Rattle.call_lines.specs.Words.{as_word}

-- a record comes next in the line, and then the others
abbrev pub with_record : {X A : Type 0} → (Left → Option (X × Left)) → (X → Left → Option (A × Left)) → Left → Option (A × Left)
with_record f others ws = then (f ws) (λ p. others p.0 p.1)

-- the line asks this
abbrev pub asks : Asked → Left → Option (Entry × Left)
asks a ws = Some (call a, ws)

-- a row of zeros
abbrev pub blank_row : Row
blank_row = record { level = 0; weight = 0; height = record { 0 = 0 }; force = 0; shear = 0; drift = 0; displacement = 0; ma = 0; mb = pos 0; separation = 0 }

-- a row for each level that a frame may have
abbrev pub blank_rows : List Row
blank_rows = replicate level_limit blank_row

-- an axis that takes nothing yet
abbrev pub axis_of : ℕ → Axis
axis_of k = record { stiffness = k; direct_shear = 0 }

-- stiffnesses in one line
abbrev pub most_stiffnesses : ℕ
most_stiffnesses = 32

-- the numbers up to the line's end, but no more than n of them
abbrev pub numbers : ℕ → Left → Option (List ℕ × Left)
numbers n None = Some ([], None)
numbers zero (Some bs) = Some ([], Some bs)
numbers (suc n) (Some bs) = reading as_number (λ k. with_record (numbers n) (λ ks ws. Some (k ∷ ks, ws))) (Some bs)

-- one axis a stiffness, up to n
abbrev pub axes_of : ℕ → Left → Option (List Axis × Left)
axes_of n = with_record (numbers n) (λ ks ws. Some (map axis_of ks, ws))

-- a storey and the stiffnesses of its axes
abbrev pub axes_call : Card → Left → Option (Asked × Left)
axes_call k = reading as_number (λ storey. with_record (axes_of most_stiffnesses) (λ lent ws. Some (axes k storey lent, ws)))

-- what follows each word; k is the card in force
abbrev pub following : Card → Word → Left → Option (Entry × Left)
following k Load = with_record read_load (λ x. asks (load x))
following k Strike = asks strike
following k Standing = reading as_number (λ level. asks (standing level))
following k Trial = asks trial
following k Keep = asks keep
following k Abandon = asks abandon
following k Issue = asks issue
following k Reopen = asks reopen
following k Release = asks release
following k Sheet = asks (sheet k blank_rows)
following k Axes = with_record (axes_call k) asks
following k NewCard = with_record read_card (λ x ws. Some (card x, ws))

-- a line is a word, what follows it, and no more
abbrev pub entry_of : Card → Left → Option Entry
entry_of k ws = to_the_end (reading as_word (following k) ws)
