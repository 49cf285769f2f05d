-- How large the numbers of a sheet can get: 24 levels of 5,000 tenths of a tonne, up to 500 dm, 1,000 dm wide.
use Rattle.std.specs.Prelude.{◌≡◌, ◌≤◌, true, List, length}
use Rattle.std.specs.List.{AllByRecursion}
use Rattle.records.specs.Ranges.{level_fits}
use Rattle.seismic.specs.declared.storey.Storey.{Storey}
use Rattle.seismic.specs.declared.response.Response.{Response}

-- no shear is greater than the greatest weight, in kgf
pub record IsBounded (s : Storey) : Type 0 where
  pub fits : level_fits s.level ≡ true
  pub low : s.height.0 ≤ 500
  pub shear : s.shear ≤ 12000000
  pub force : s.force ≤ 12000000

-- u at Q = 4 and K = 1, 24 times that, and 24 times the greatest force 1,000 dm away
pub record IsResponseBounded (l : Response) : Type 0 where
  pub storey : IsBounded l.storey
  pub drift : l.drift ≤ 4800000000
  pub displacement : l.displacement ≤ 115200000000
  pub twist : l.twist ≤ 288000000000
  pub weight : l.weight ≤ 120000

-- no more than 24 storeys, each within these bounds
pub record AreBounded (storeys : List Storey) : Type 0 where
  pub few : length storeys ≤ 24
  pub each : AllByRecursion IsBounded storeys
