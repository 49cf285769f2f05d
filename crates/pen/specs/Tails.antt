-- What is put before what is written of a line.
use Rattle.std.specs.Prelude.{◌≡◌, ℕ, ◌+◌, ◌<◌, ◌≤◌, List, ◌++◌, length, drop, Some, None, Option}

-- how many bytes a line has room for
abbrev pub line_size : ℕ
line_size = 160

-- a text is put before, where there is room for `most` bytes, which it may need; else nothing is
abbrev pub Before : List ℕ → ℕ → List ℕ → Option (Unit {0}) → List ℕ → Type 0
Before text most before (Some _) after = (length before + most ≤ line_size) × (after ≡ text ++ before)
Before text most before None after = (line_size < length before + most) × (after ≡ before)

-- a text stands at the front of a buffer that holds it, and further bytes are as they were; else all are
abbrev pub CopiedTo : List ℕ → List ℕ → Option ℕ → List ℕ → Type 0
CopiedTo text before (Some n) after =
    (length text ≤ length before) × (n ≡ length text) × (after ≡ text ++ drop (length text) before)
CopiedTo text before None after = (length before < length text) × (after ≡ before)
