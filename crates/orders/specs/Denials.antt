-- The number and the place of each denial.
use Rattle.std.specs.Prelude.{ℕ}
use Rattle.orders.specs.declared.denial.OrderDenial.{OrderDenial}
use Rattle.orders.specs.declared.denial.OrderDenial.TheVariants.{NoSuchLevel, LoadOutOfRange, WeightOutOfRange, NoRoom, NothingToStrike}

abbrev pub denial_number : OrderDenial → ℕ
denial_number (NoSuchLevel k) = 21
denial_number (LoadOutOfRange k) = 22
denial_number (WeightOutOfRange k) = 23
denial_number (NoRoom k) = 24
denial_number NothingToStrike = 25

-- the level that the call names; 0 of a strike, which names none
abbrev pub denial_place : OrderDenial → ℕ
denial_place (NoSuchLevel k) = k
denial_place (LoadOutOfRange k) = k
denial_place (WeightOutOfRange k) = k
denial_place (NoRoom k) = k
denial_place NothingToStrike = 0
