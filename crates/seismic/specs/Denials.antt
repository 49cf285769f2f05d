-- The number and the place of each denial.
use Rattle.std.specs.Prelude.{ℕ}
use Rattle.cards.specs.Denials.{denial_number, denial_place}
use Rattle.seismic.specs.declared.denial.ShearDenial.{ShearDenial}
use Rattle.seismic.specs.declared.denial.ShearDenial.TheVariants.{NoLevels, BadCard}
use Rattle.seismic.specs.declared.denial.SheetDenial.{SheetDenial}
use Rattle.seismic.specs.declared.denial.SheetDenial.TheVariants.{NoShears as NoSheet, TooFewRows}
use Rattle.seismic.specs.declared.denial.AxesDenial.{AxesDenial}
use Rattle.seismic.specs.declared.denial.AxesDenial.TheVariants.{NoShears as NoneOnAxes, NoSuchStorey, WrongCount, OutOfRange}

abbrev pub shear_number : ShearDenial → ℕ
shear_number NoLevels = 31
shear_number (BadCard d) = denial_number d

abbrev pub shear_place : ShearDenial → ℕ
shear_place NoLevels = 0
shear_place (BadCard d) = denial_place d

abbrev pub sheet_number : SheetDenial → ℕ
sheet_number (NoSheet d) = shear_number d
sheet_number (TooFewRows needed) = 34

-- of too few rows, how many are needed
abbrev pub sheet_place : SheetDenial → ℕ
sheet_place (NoSheet d) = shear_place d
sheet_place (TooFewRows needed) = needed

abbrev pub axes_number : AxesDenial → ℕ
axes_number (NoneOnAxes d) = shear_number d
axes_number (NoSuchStorey storey) = 35
axes_number WrongCount = 36
axes_number (OutOfRange axis) = 36

-- the storey as given, or the axis; 0 where it is their count
abbrev pub axes_place : AxesDenial → ℕ
axes_place (NoneOnAxes d) = shear_place d
axes_place (NoSuchStorey storey) = storey
axes_place WrongCount = 0
axes_place (OutOfRange axis) = axis
