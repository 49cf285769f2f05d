-- Files that begin with the same lines.
use Rattle.std.specs.Prelude.{◌≡◌, ℕ, zero, suc, List, Some}
use Rattle.tokens.specs.Cuts.{cut_at}

-- two files have the same first n lines
abbrev pub Shares : ℕ → List ℕ → List ℕ → Type 0
Shares zero a b = Unit {0}
Shares (suc n) a b = (l : List ℕ) × (r : List ℕ) × (s : List ℕ) × (cut_at 10 a ≡ Some (l, r)) × (cut_at 10 b ≡ Some (l, s)) × Shares n r s
