-- What a word says as a field of a record; nothing where it is no such field.
use Rattle.std.specs.Prelude.{ℕ, List, [], ◌∷◌, ℤ, pos, Some, None, Option}
use Rattle.std.specs.Option.{option_map}
use Rattle.records.specs.declared.height.StoreyHeight.{StoreyHeight}
use Rattle.tokens.specs.Numbers.{number_of, negated}
use Rattle.tokens.specs.Said.{Said, section, numeral, minus, mark}

abbrev pub as_number : Said → Option ℕ
as_number (section w) = None
as_number (numeral w) = number_of w
as_number (minus w) = None
as_number (mark w) = None

-- a storey height of so many decimetres
abbrev pub storey : ℕ → StoreyHeight
storey n = record { 0 = n }

-- a storey height is a number
abbrev pub as_height : Said → Option StoreyHeight
as_height s = option_map storey (as_number s)

-- a load is a number, or a minus before a digit 1 to 9
abbrev pub as_load : Said → Option ℤ
as_load (section w) = None
as_load (numeral w) = option_map pos (number_of w)
as_load (minus w) = negated w
as_load (mark w) = None

-- a period is a number, or a lone minus where it is unknown
abbrev pub as_period : Said → Option (Option ℕ)
as_period (section w) = None
as_period (numeral w) = option_map Some (number_of w)
as_period (minus []) = Some None
as_period (minus (b ∷ bs)) = None
as_period (mark w) = None

-- a mark is one of a few
abbrev pub as_mark : {X : Type 0} → (List ℕ → Option X) → Said → Option X
as_mark named (section w) = None
as_mark named (numeral w) = None
as_mark named (minus w) = None
as_mark named (mark w) = named w
