-- What the bytes of a table stand for.
use Rattle.std.specs.Prelude.{ℕ, ◌==◌, if◌then◌else◌, List, [], ◌∷◌, ◌++◌, codes}
use Rattle.std.specs.Str.{byte}

-- sections KIT and LEVELS of the sample order
abbrev pub frame : List ℕ
frame = codes "KIT 0\nLEVELS 2\n100 30 2000 50 52 100\n50 30 1000 50 52 100\n"

-- its section LOADS
abbrev pub no_loads : List ℕ
no_loads = codes "LOADS 0\n"

-- its section CARD
abbrev pub card : List ℕ
card = codes "CARD 1\nII B 360 100 20 60 - 20 100 W 110 60\n"

-- the one byte that a byte of a table stands for
abbrev pub meant : ℕ → ℕ
meant b =
    if b == byte "|" then byte "\n"
    else if b == byte "~" then byte "\r"
    else if b == byte "^" then byte "\t"
    else if b == byte "@" then 0
    else if b == byte "%" then 255
    else b

-- the bytes that it stands for: whole sections, or one byte
abbrev pub spelled : ℕ → List ℕ
spelled b =
    if b == byte "#" then frame
    else if b == byte "$" then no_loads ++ card
    else if b == byte "&" then card
    else meant b ∷ []
