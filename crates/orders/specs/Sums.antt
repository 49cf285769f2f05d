-- The sums that a table keeps beside its lines, one a level.
use Rattle.std.specs.Prelude.{ℕ, ◌-◌, Bool, List, ℤ, pos, ◌+ℤ◌, ◌-ℤ◌, map, slice_index_or, slice_set}
use Rattle.std.specs.List.{list_all, range_with_len}
use Rattle.records.specs.declared.line.Line.{Line}
use Rattle.records.specs.Limits.{level_limit}
use Rattle.records.specs.Ranges.{from_to}
use Rattle.orders.specs.Loads.{standing}

-- a level that a frame may have
unfoldable pub level_kept : ℕ → Bool
level_kept k = from_to 1 level_limit k

-- each line names such a level
unfoldable pub levels_kept : List Line → Bool
levels_kept lines = list_all (λ x. level_kept x.level) lines

-- the sum of the loads that stand on each such level, from level 1 up
unfoldable pub sums_of : List Line → List ℤ
sums_of lines = map (λ k. standing k lines) (range_with_len 1 level_limit)

-- what the sums say of level k
unfoldable pub sum_at : ℕ → List ℤ → ℤ
sum_at k sums = slice_index_or sums (k - 1) (pos 0)

-- the sums with a line put on
unfoldable pub put_on : Line → List ℤ → List ℤ
put_on x sums = slice_set sums (x.level - 1) (sum_at x.level sums +ℤ x.load)

-- the sums with a line taken off
unfoldable pub taken_off : Line → List ℤ → List ℤ
taken_off x sums = slice_set sums (x.level - 1) (sum_at x.level sums -ℤ x.load)
