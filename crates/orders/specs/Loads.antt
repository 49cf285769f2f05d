-- What lines put on levels. Loads are in tenths of a tonne; below 0 where weight is taken off.
use Rattle.std.specs.Prelude.{ℕ, ◌+◌, Bool, true, cond, not, ◌&&◌, List, [], ◌∷◌, ℤ, pos, negsuc, ◌+ℤ◌, fold, int_le, ◌==◌}
use Rattle.records.specs.declared.level.Level.{Level}
use Rattle.records.specs.declared.line.Line.{Line}

-- a load is at most 5,000 either way, and not 0
abbrev pub load_fits : ℤ → Bool
load_fits (pos n) = not (n == 0) && int_le (pos n) (pos 5000)
load_fits (negsuc n) = int_le (negsuc 4999) (negsuc n)

-- so are those of all lines
abbrev pub loads_fit : List Line → Bool
loads_fit [] = true
loads_fit (x ∷ lines) = load_fits x.load && loads_fit lines

-- what a line puts on level k
abbrev pub load_on : ℕ → Line → ℤ
load_on k x = cond (x.level == k) x.load (pos 0)

-- the sum of the loads that stand on level k
abbrev pub standing : ℕ → List Line → ℤ
standing k lines = fold (λ (sum : ℤ) (x : Line). sum +ℤ load_on k x) (pos 0) lines

-- a whole number as a natural one, 0 for one below 0; the law over runs says that no weight is ever cut by it
abbrev pub natural : ℤ → ℕ
natural (pos n) = n
natural (negsuc n) = 0

-- a level with a load on it
abbrev pub loaded : ℤ → Level → Level
loaded z l = record l { weight = natural (pos l.weight +ℤ z) }

-- the levels over k others, each with the loads that stand on it
abbrev pub raised_over : ℕ → List Line → List Level → List Level
raised_over k lines [] = []
raised_over k lines (l ∷ ls) = loaded (standing (k + 1) lines) l ∷ raised_over (k + 1) lines ls

-- the levels of a frame, each with the loads that stand on it
abbrev pub raised : List Line → List Level → List Level
raised lines ls = raised_over 0 lines ls
