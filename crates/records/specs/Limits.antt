-- How many levels a frame may have, and how high it may stand.
use Rattle.std.specs.Prelude.{ℕ}

abbrev pub level_limit : ℕ
level_limit = 24

-- of a topping's own
abbrev pub storey_limit : ℕ
storey_limit = 8

-- dm
abbrev pub height_limit : ℕ
height_limit = 500
