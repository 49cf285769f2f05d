-- What a word of a line is.
use Rattle.std.specs.Prelude.{ℕ, Bool, false, cond, ◌||◌, List, [], ◌∷◌, codes, ◌==◌}
use Rattle.std.specs.Char.{is_ascii_digit}
use Rattle.std.specs.Str.{bytes_eq}
use Rattle.tokens.specs.declared.token.Token.{Token}
use Rattle.tokens.specs.declared.token.Token.TheVariants.{Section, Number, Minus, Mark}

-- a token, with the bytes that it borrows
pub data Said : Type 0 where
  section : List ℕ → Said
  numeral : List ℕ → Said
  -- what follows a minus sign
  minus : List ℕ → Said
  mark : List ℕ → Said

abbrev pub meant : Token → Said
meant (Section b) = section b.now
meant (Number b) = numeral b.now
meant (Minus b) = minus b.now
meant (Mark b) = mark b.now

-- one of the four section words
abbrev pub is_section : List ℕ → Bool
is_section w = ((bytes_eq w (codes "KIT") || bytes_eq w (codes "LEVELS")) || bytes_eq w (codes "LOADS")) || bytes_eq w (codes "CARD")

-- what a word is
abbrev pub told : List ℕ → Said
told [] = mark []
told (b ∷ bs) =
    cond (b == 45) (minus bs)
    (cond (is_ascii_digit b) (numeral (b ∷ bs))
    (cond (is_section (b ∷ bs)) (section (b ∷ bs)) (mark (b ∷ bs))))

-- it opens the section of this name
abbrev pub as_section : List ℕ → Said → Bool
as_section name (section w) = bytes_eq w name
as_section name (numeral w) = false
as_section name (minus w) = false
as_section name (mark w) = false
