use Rattle.std.proofs.Common.{◌≡◌, ◌++◌, flat_map}
use Rattle.std.specs.Str.Iter.{bytes_rest}
use Rattle.case_table.specs.Spelling.{spelled}
use Rattle.case_table.proofs.spelled_out.Given as goal

-- what is spelled out, and what is left to be
abbrev pub invariant-loop-b : goal.invariant-loop-b
invariant-loop-b l = l.bytes.items ++ flat_map spelled (bytes_rest l.b-iterator) ≡ flat_map spelled l.text
