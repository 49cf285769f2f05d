-- The number and the place of each denial.
use Rattle.std.specs.Prelude.{ℕ}
use Rattle.frames.specs.declared.denial.FrameDenial.{FrameDenial}
use Rattle.frames.specs.declared.denial.FrameDenial.TheVariants.{TooManyLevels, OutOfRange, TooHigh, KitOutOfRange, KitTooHigh}

abbrev pub denial_number : FrameDenial → ℕ
denial_number (TooManyLevels k) = 11
denial_number (OutOfRange k) = 12
denial_number KitOutOfRange = 12
denial_number (TooHigh k) = 13
denial_number KitTooHigh = 13

-- the level; 0 where it is a kit's numbers
abbrev pub denial_place : FrameDenial → ℕ
denial_place (TooManyLevels k) = k
denial_place (OutOfRange k) = k
denial_place (TooHigh k) = k
denial_place KitOutOfRange = 0
denial_place KitTooHigh = 0
