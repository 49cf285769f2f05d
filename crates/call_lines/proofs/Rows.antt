-- A row of zeros is the blank row.
use Rattle.std.proofs.Common.{◌≡◌, pos, refl}
use Rattle.seismic.specs.declared.row.Row.{Row}
use Rattle.call_lines.specs.Lines.{blank_row}

-- a row is all its fields
whole : (r : Row) → record { level = r.level; weight = r.weight; height = record { 0 = r.height.0 }; force = r.force; shear = r.shear; drift = r.drift; displacement = r.displacement; ma = r.ma; mb = r.mb; separation = r.separation } ≡ r
whole r = refl

-- with the fields in their order, as a derived `default` gives them
pub zeros : (r : Row) → (r.level ≡ 0) × ((r.weight ≡ 0) × ((r.height.0 ≡ 0) × ((r.force ≡ 0) × ((r.shear ≡ 0) × ((r.drift ≡ 0) × ((r.displacement ≡ 0) × ((r.ma ≡ 0) × ((r.mb ≡ pos 0) × (r.separation ≡ 0))))))))) → r ≡ blank_row
zeros r h = cc (whole r)
