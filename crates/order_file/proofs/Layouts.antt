-- Each record is read from the words that write it, and from no others.
use Rattle.std.proofs.Common.{◌≡◌, refl}
use Rattle.records.specs.declared.card.Card.{Card}
use Rattle.records.specs.declared.kit_numbers.KitNumbers.{KitNumbers}
use Rattle.records.specs.declared.level.Level.{Level}
use Rattle.records.specs.declared.line.Line.{Line}
use Rattle.tokens.proofs.Laws.{number_laws, height_laws, load_laws, period_laws, soil_laws, group_laws, walls_laws}
use Rattle.tokens.proofs.Lays.{Lays, complete, field, fits_so}
use Rattle.order_file.specs.Limits.{KitShort, LevelShort, LoadShort, CardShort}
use Rattle.order_file.specs.Records.{read_kit, read_level, read_load, read_card}
use Rattle.order_file.specs.Render.{kit_words, level_words, load_words, card_words}

-- a record is all its fields
whole_kit : (x : KitNumbers) → record { levels = x.levels; floor_weight = x.floor_weight; roof_weight = x.roof_weight; height = x.height; stiffness = x.stiffness; mass_centre = x.mass_centre; torsion_centre = x.torsion_centre; width = x.width } ≡ x
whole_kit x = refl

pub kit_lays : Lays read_kit kit_words KitShort
kit_lays =
    field number_laws (λ x. x.levels) (λ levels.
    field number_laws (λ x. x.floor_weight) (λ floor_weight.
    field number_laws (λ x. x.roof_weight) (λ roof_weight.
    field height_laws (λ x. x.height) (λ height.
    field number_laws (λ x. x.stiffness) (λ stiffness.
    field number_laws (λ x. x.mass_centre) (λ mass_centre.
    field number_laws (λ x. x.torsion_centre) (λ torsion_centre.
    field number_laws (λ x. x.width) (λ width.
    complete ((((((((tt, refl), refl), refl), refl), refl), refl), refl), refl) (λ x h. cc (whole_kit x))))))))))

whole_level : (x : Level) → record { weight = x.weight; height = x.height; stiffness = x.stiffness; mass_centre = x.mass_centre; torsion_centre = x.torsion_centre; width = x.width } ≡ x
whole_level x = refl

pub level_lays : Lays read_level level_words LevelShort
level_lays =
    field number_laws (λ x. x.weight) (λ weight.
    field height_laws (λ x. x.height) (λ height.
    field number_laws (λ x. x.stiffness) (λ stiffness.
    field number_laws (λ x. x.mass_centre) (λ mass_centre.
    field number_laws (λ x. x.torsion_centre) (λ torsion_centre.
    field number_laws (λ x. x.width) (λ width.
    complete ((((((tt, refl), refl), refl), refl), refl), refl) (λ x h. cc (whole_level x))))))))

whole_load : (x : Line) → record { level = x.level; load = x.load } ≡ x
whole_load x = refl

pub load_lays : Lays read_load load_words LoadShort
load_lays =
    field number_laws (λ x. x.level) (λ level.
    field load_laws (λ x. x.load) (λ load.
    complete ((tt, refl), refl) (λ x h. cc (whole_load x))))

whole_card : (x : Card) → record { soil = x.soil; group = x.group; c = x.c; a0 = x.a0; ta = x.ta; tb = x.tb; period = x.period; q = x.q; correction = x.correction; walls = x.walls; load_factor = x.load_factor; gap = x.gap } ≡ x
whole_card x = refl

pub card_lays : Lays read_card card_words CardShort
card_lays = fits_so
    (λ x h. let n = h.1.1 in (n.0, (n.1.0, (n.1.1.0, (n.1.1.1.0, (n.1.1.1.1.1.0, (n.1.1.1.1.1.1.0, (n.1.1.1.1.1.1.1.1.0, (n.1.1.1.1.1.1.1.1.1.0, n.1.1.1.1.0)))))))))
    (λ x h. (tt, (tt, (h.0, (h.1.0, (h.1.1.0, (h.1.1.1.0, (h.1.1.1.1.1.1.1.1, (h.1.1.1.1.0, (h.1.1.1.1.1.0, (tt, (h.1.1.1.1.1.1.0, (h.1.1.1.1.1.1.1.0, tt)))))))))))))
    (field soil_laws (λ x. x.soil) (λ soil.
    field group_laws (λ x. x.group) (λ group.
    field number_laws (λ x. x.c) (λ c.
    field number_laws (λ x. x.a0) (λ a0.
    field number_laws (λ x. x.ta) (λ ta.
    field number_laws (λ x. x.tb) (λ tb.
    field period_laws (λ x. x.period) (λ period.
    field number_laws (λ x. x.q) (λ q.
    field number_laws (λ x. x.correction) (λ correction.
    field walls_laws (λ x. x.walls) (λ walls.
    field number_laws (λ x. x.load_factor) (λ load_factor.
    field number_laws (λ x. x.gap) (λ gap.
    complete ((((((((((((tt, refl), refl), refl), refl), refl), refl), refl), refl), refl), refl), refl), refl) (λ x h. cc (whole_card x)))))))))))))))
