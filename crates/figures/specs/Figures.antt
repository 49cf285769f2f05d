-- Worked figures: the sample order, changed only as each line says.
use Rattle.std.specs.Prelude.{◌≡◌, ℕ, ℤ, List, [], ◌∷◌, map, negsuc, pos, replicate, Some, None, Option}
use Rattle.records.specs.declared.card.Card.{Card}
use Rattle.records.specs.declared.card.Soil.TheVariants.{I, II, III}
use Rattle.records.specs.declared.card.Group.{Group}
use Rattle.records.specs.declared.card.Group.TheVariants.{B, A, AA}
use Rattle.records.specs.declared.card.Walls.TheVariants.{Tied, Detached}
use Rattle.records.specs.declared.level.Level.{Level}
use Rattle.records.specs.declared.line.Line.{Line}
use Rattle.cards.specs.declared.denial.CardDenial.TheVariants.{PeriodAboveTb}
use Rattle.cards.specs.Denials.{card_denial}
use Rattle.spreading.specs.Spreads.{spread_over}
use Rattle.seismic.specs.declared.axis.Axis.{Axis}
use Rattle.seismic.specs.declared.row.Row.{Row}
use Rattle.seismic.specs.declared.verdict.Limit.TheVariants.{Drift, Eccentricity, SecondOrder, Gap}
use Rattle.seismic.specs.declared.verdict.Verdict.TheVariants.{Pass, Fail}
use Rattle.seismic.specs.Axes.{with_part}
use Rattle.seismic.specs.Sheets.{sheet_of, sheet_rows}
use Rattle.seismic.specs.Storeys.{base_of}
use Rattle.orders.specs.declared.denial.OrderDenial.TheVariants.{WeightOutOfRange, NoRoom}
use Rattle.orders.specs.Calls.{load_denial}
use Rattle.orders.specs.Loads.{raised}
use Rattle.runs.specs.declared.call.Call.{Call}
use Rattle.runs.specs.declared.call.Call.TheVariants.{Load, Strike, Trial, Abandon}
use Rattle.runs.specs.Tally.{tally}

-- weight, h, K, mass centre, torsion centre, width
abbrev pub level : ℕ → ℕ → ℕ → ℕ → ℕ → ℕ → Level
level w h k m t b = record { weight = w; height = record { 0 = h }; stiffness = k; mass_centre = m; torsion_centre = t; width = b }

abbrev pub lower : Level
lower = level 100 30 2000 50 52 100

abbrev pub two_levels : List Level
two_levels = lower ∷ level 50 30 1000 50 52 100 ∷ []

-- the sample's level 1 alone, with a stiffness and a torsion centre
abbrev pub one_level : ℕ → ℕ → List Level
one_level k t = level 100 30 k 50 t 100 ∷ []

-- the sample's card, with a group, a period, Q and a correction
abbrev pub card_with : Group → Option ℕ → ℕ → ℕ → Card
card_with g t q n = record {
  soil = II;
  group = g;
  c = 360;
  a0 = 100;
  ta = 20;
  tb = 60;
  period = t;
  q = q;
  correction = n;
  walls = Tied;
  load_factor = 110;
  gap = 60;
}

abbrev pub sample : Card
sample = card_with B None 20 100

-- level, weight, H, F, V, u, x, Ma, Mb, s
abbrev pub row : ℕ → ℕ → ℕ → ℕ → ℕ → ℕ → ℕ → ℕ → ℤ → ℕ → Row
row k w h f v u x ma mb s = record {
  level = k;
  weight = w;
  height = record { 0 = h };
  force = f;
  shear = v;
  drift = u;
  displacement = x;
  ma = ma;
  mb = mb;
  separation = s;
}

abbrev pub shears : Card → List Level → List ℕ
shears card ls = map (λ (r : Row). r.shear) (sheet_rows card ls)

abbrev pub drifts : Card → List Level → List ℕ
drifts card ls = map (λ (r : Row). r.drift) (sheet_rows card ls)

-- an amount spread over axes, by part
abbrev pub parts : ℕ → List Axis → List ℕ
parts amount axes = map (λ (a : Axis). a.direct_shear) (spread_over (λ (a : Axis). a.stiffness) with_part amount axes)

abbrev pub axis : ℕ → Axis
axis k = record { stiffness = k; direct_shear = 0 }

abbrev pub line : ℕ → ℤ → Line
line k z = record { level = k; load = z }

-- the sample's levels as an order has them after some calls
abbrev pub after_calls : List Call → List Level
after_calls calls = raised (tally two_levels calls).lines two_levels

-- load 5 on level 2
abbrev pub loaded : List Level
loaded = after_calls (Load (line 2 (pos 5)) ∷ [])

pub record Figures : Type 0 where
  pub sample_sheet : sheet_of sample two_levels ≡ record { levels = 2; weight = 150; base_shear = 2700; verdict = Pass }
  pub sample_rows :
      sheet_rows sample two_levels
      ≡ row 1 100 30 1282 2700 270 270 351000 (negsuc 215999) 5000 ∷ row 2 50 60 1418 1418 284 554 184340 (negsuc 113439) 5000 ∷ []
  pub loaded_base : base_of sample loaded ≡ 2790
  pub loaded_shears : shears sample loaded ≡ 2790 ∷ 1528 ∷ []
  pub group_aa : base_of (card_with AA None 20 100) two_levels ≡ 9450
  pub period_10 : base_of (card_with B (Some 10) 20 100) two_levels ≡ 2300
  pub correction_80 : base_of (card_with B None 20 80) two_levels ≡ 3375
  pub q_15_correction_50 : base_of (card_with B None 15 50) two_levels ≡ 5400
  pub three_equal_shares : parts 100 (axis 1 ∷ axis 1 ∷ axis 1 ∷ []) ≡ 33 ∷ 33 ∷ 34 ∷ []
  pub stiffness_200 : (drifts sample (one_level 200 52) ≡ 1800 ∷ []) × ((sheet_of sample (one_level 200 52)).verdict ≡ Pass)
  pub stiffness_199 : (drifts sample (one_level 199 52) ≡ 1810 ∷ []) × ((sheet_of sample (one_level 199 52)).verdict ≡ Fail 1 Drift)
  pub torsion_centre_70 : (sheet_of (card_with B None 30 100) (one_level 2000 70)).verdict ≡ Pass
  pub torsion_centre_71 : (sheet_of (card_with B None 30 100) (one_level 2000 71)).verdict ≡ Fail 1 Eccentricity

abbrev pub separations : Card → List Level → List ℕ
separations card ls = map (λ (r : Row). r.separation) (sheet_rows card ls)

-- the sample's level 1, so many times, with storeys of 60 dm
abbrev pub alike : ℕ → List Level
alike n = replicate n (level 100 60 2000 50 52 100)

-- a card on which a storey may move far and resists little
abbrev pub slack : Card
slack = record (card_with B None 40 100) { walls = Detached; c = 4; a0 = 4; load_factor = 100; gap = 10000 }

-- of what the figures above leave out: the other soils, group A, detached walls, the third and the fourth limit, a limit that
-- is broken above storey 1, T at and above Tb, unequal axes, and lines that are denied, struck or abandoned
pub record FurtherFigures : Type 0 where
  pub soil_i : separations (record sample { soil = I }) (alike 8) ≡ 5000 ∷ 5000 ∷ 5968 ∷ 7780 ∷ 9440 ∷ 10910 ∷ 12152 ∷ 13128 ∷ []
  pub soil_ii : (separations sample (alike 3) ≡ 5000 ∷ 5000 ∷ 6679 ∷ []) × ((sheet_of sample (alike 3)).verdict ≡ Fail 3 Gap)
  pub soil_iii :
      (separations (record sample { soil = III }) (alike 3) ≡ 5000 ∷ 8195 ∷ 12079 ∷ [])
      × ((sheet_of (record sample { soil = III }) (alike 3)).verdict ≡ Fail 2 Gap)
  pub detached_100 : (sheet_of (record sample { walls = Detached }) (one_level 100 52)).verdict ≡ Pass
  pub detached_99 : (sheet_of (record sample { walls = Detached }) (one_level 99 52)).verdict ≡ Fail 1 Drift
  pub group_a : base_of (card_with A None 20 100) two_levels ≡ 4050
  pub group_a_early : base_of (card_with A (Some 10) 20 100) two_levels ≡ 3450
  pub gap_50 : (sheet_of (record sample { gap = 50 }) two_levels).verdict ≡ Pass
  pub gap_49 : (sheet_of (record sample { gap = 49 }) two_levels).verdict ≡ Fail 1 Gap
  pub second_order_167 : (sheet_of slack (one_level 167 50)).verdict ≡ Pass
  pub second_order_166 : (sheet_of slack (one_level 166 50)).verdict ≡ Fail 1 SecondOrder
  pub period_60 : card_denial (card_with B (Some 60) 20 100) ≡ None
  pub period_61 : card_denial (card_with B (Some 61) 20 100) ≡ Some PeriodAboveTb
  pub unequal_axes : parts 2700 (axis 10 ∷ axis 25 ∷ axis 7 ∷ []) ≡ 642 ∷ 1608 ∷ 450 ∷ []
  -- a level of 5,000 tenths of a tonne bears no more, one of 1 no less
  pub heaviest : load_denial (level 5000 30 2000 50 52 100 ∷ []) [] (line 1 (pos 1)) ≡ Some (WeightOutOfRange 1)
  pub lightest : load_denial (level 1 30 2000 50 52 100 ∷ []) [] (line 1 (negsuc 0)) ≡ Some (WeightOutOfRange 1)
  -- 64 lines are kept, and with one of them struck another is booked
  pub full : load_denial two_levels (replicate 64 (line 1 (pos 1))) (line 1 (pos 1)) ≡ Some (NoRoom 1)
  pub freed : load_denial two_levels (replicate 63 (line 1 (pos 1))) (line 1 (pos 1)) ≡ None
  -- what was tried and abandoned weighs nothing
  pub tried : after_calls (Load (line 2 (pos 5)) ∷ Trial ∷ Load (line 1 (pos 9)) ∷ Load (line 2 (pos 9)) ∷ Strike ∷ Abandon ∷ []) ≡ loaded
