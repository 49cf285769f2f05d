-- A whole file is read from the text that its records make, and from no other.
use Rattle.std.proofs.Common.{◌≡◌, ℕ, zero, suc, ◌≤◌, cond, eqb, List, [], ◌∷◌, length, Some, None, Ok, codes, Option, Result, refl, ap, ◌∙◌, subst, arith}
use Rattle.std.specs.Option.{option_to_list}
use Rattle.std.specs.List.{AllByRecursion}
use Rattle.records.specs.declared.kit_numbers.KitNumbers.{KitNumbers}
use Rattle.tokens.specs.declared.fault.Fault.{Fault}
use Rattle.tokens.proofs.Lays.{Names}
use Rattle.order_file.specs.File.{Filed, kit_section, card_section, most_levels, sections, and_no_more, order_file_of}
use Rattle.order_file.specs.Limits.{KitShort, LevelShort, LoadShort, CardShort, Fits}
use Rattle.order_file.specs.Records.{read_kit}
use Rattle.order_file.specs.Render.{kit_words, level_words, load_words, card_words, lines_of, section_text, render}
use Rattle.order_file.specs.Sections.{Place, next, record_line}
use Rattle.order_file.proofs.Layouts.{kit_lays, level_lays, load_lays, card_lays}
use Rattle.order_file.proofs.Parses.{Parses, ParsesPicked, done, part, picked_so, line_parses, count_parses, section_parses}
use Rattle.order_file.proofs.Steps.{err_ok, ok_same, go_on, and_next}

pub kit_name : Names (codes "KIT")
kit_name = record { is = refl; plain = record { no_space = refl; no_end = refl; short = omega arith } }

pub levels_name : Names (codes "LEVELS")
levels_name = record { is = refl; plain = record { no_space = refl; no_end = refl; short = omega arith } }

pub loads_name : Names (codes "LOADS")
loads_name = record { is = refl; plain = record { no_space = refl; no_end = refl; short = omega arith } }

pub card_name : Names (codes "CARD")
card_name = record { is = refl; plain = record { no_space = refl; no_end = refl; short = omega arith } }

-- the kit's record after its count
abbrev kit_or_none : ℕ → Place → Result (Option KitNumbers × Place) Fault
kit_or_none n q = cond (eqb n 0) (Ok (None, q)) (next (record_line read_kit q) (λ k r. Ok (Some k, r)))

kit_counted : (n : ℕ) → n ≤ 1 → ParsesPicked (λ k. Unit {0} × (length (option_to_list k) ≡ n)) (kit_or_none n) (λ k. lines_of kit_words (option_to_list k)) (λ k. AllByRecursion KitShort (option_to_list k))
kit_counted zero h = record {
  back = λ p k q e. subst (λ (t : Option KitNumbers × Place). (Unit {0} × (length (option_to_list t.0) ≡ 0)) × (p.0 ≡ lines_of kit_words (option_to_list t.0) t.1.0) × AllByRecursion KitShort (option_to_list t.0)) (ok_same e) ((tt, refl), refl, tt);
  forth = none;
}
  where
    none : (k : Option KitNumbers) (after : List ℕ) (n : ℕ) → Unit {0} × (length (option_to_list k) ≡ 0) → AllByRecursion KitShort (option_to_list k) → (m : ℕ) × (kit_or_none 0 (lines_of kit_words (option_to_list k) after, n) ≡ Ok (k, (after, m)))
    none None after n p f = (n, refl)
    none (Some k) after n p f = absurd (omega (arith, p.1))
kit_counted (suc zero) h = record {
  back = λ p k q e.
      and_next (record_line read_kit p) _ _ e (λ x r d i.
      let o = kit_line.back p x r d in
      subst (λ (t : Option KitNumbers × Place). (Unit {0} × (length (option_to_list t.0) ≡ 1)) × (p.0 ≡ lines_of kit_words (option_to_list t.0) t.1.0) × AllByRecursion KitShort (option_to_list t.0)) (ok_same i) ((tt, refl), o.1, (o.2, tt)));
  forth = some;
}
  where
    kit_line : Parses (record_line read_kit) (λ x after. lines_of kit_words (x ∷ []) after) KitShort
    kit_line = line_parses kit_lays (λ x. omega arith)

    some : (k : Option KitNumbers) (after : List ℕ) (n : ℕ) → Unit {0} × (length (option_to_list k) ≡ 1) → AllByRecursion KitShort (option_to_list k) → (m : ℕ) × (kit_or_none 1 (lines_of kit_words (option_to_list k) after, n) ≡ Ok (k, (after, m)))
    some None after n p f = absurd (omega (arith, p.1))
    some (Some k) after n p f = let o = kit_line.forth k after n tt f.0 in (o.0, go_on _ o.1)
kit_counted (suc (suc n)) h = absurd (omega arith)

pub kit_parses : Parses kit_section (λ k. section_text (codes "KIT") kit_words (option_to_list k)) (λ k. ((0 ≤ length (option_to_list k)) × (length (option_to_list k) ≤ 1)) × AllByRecursion KitShort (option_to_list k))
kit_parses = part (count_parses kit_name 0 1 (omega arith)) (λ k. length (option_to_list k)) (λ n h. kit_counted n h.1)

pub card_parses : Parses card_section (λ x. section_text (codes "CARD") card_words (x ∷ [])) (λ x. ((1 ≤ 1) × (1 ≤ 1)) × CardShort x)
card_parses = part (count_parses card_name 1 1 (omega arith)) (λ x. 1) (λ n h. picked_so (λ x f. (tt, omega (arith, h.0, h.1))) (line_parses card_lays (λ x. omega arith)))

pub most_few : (o : Option KitNumbers) → most_levels o ≤ 24
most_few None = omega arith
most_few (Some k) = omega arith

-- a file is all its parts
whole_file : (f : Filed) → record { kit = f.kit; levels = f.levels; loads = f.loads; card = f.card } ≡ f
whole_file f = refl

-- the sections, before what follows them
abbrev pub text : Filed → List ℕ → List ℕ
text f after =
    section_text (codes "KIT") kit_words (option_to_list f.kit)
    (section_text (codes "LEVELS") level_words f.levels
    (section_text (codes "LOADS") load_words f.loads
    (section_text (codes "CARD") card_words (f.card ∷ []) after)))

-- what the parts ask of a file
abbrev PartsFit : Filed → Type 0
PartsFit f = (((0 ≤ length (option_to_list f.kit)) × (length (option_to_list f.kit) ≤ 1)) × AllByRecursion KitShort (option_to_list f.kit)) × ((((0 ≤ length f.levels) × (length f.levels ≤ most_levels f.kit)) × AllByRecursion LevelShort f.levels) × ((((0 ≤ length f.loads) × (length f.loads ≤ 64)) × AllByRecursion LoadShort f.loads) × ((((1 ≤ 1) × (1 ≤ 1)) × CardShort f.card) × Unit {0})))

pub sections_parse : Parses sections text PartsFit
sections_parse =
    part kit_parses (λ f. f.kit) (λ kit a.
    part (section_parses level_lays (λ x. omega arith) levels_name (most_levels kit) (omega (arith, most_few kit))) (λ f. f.levels) (λ levels b.
    part (section_parses load_lays (λ x. omega arith) loads_name 64 (omega arith)) (λ f. f.loads) (λ loads c.
    part card_parses (λ f. f.card) (λ card d.
    done ((((tt, refl), refl), refl), refl) (λ f h. cc (whole_file f))))))

pub to_fits : (f : Filed) → PartsFit f → Fits f
to_fits f h = record { kit = h.0.1; levels = h.1.0.1; level_count = h.1.0.0.1; loads = h.1.1.0.1; load_count = h.1.1.0.0.1; card = h.1.1.1.0.1 }

pub one_kit : (o : Option KitNumbers) → length (option_to_list o) ≤ 1
one_kit None = omega arith
one_kit (Some k) = omega arith

from_fits : (f : Filed) → Fits f → PartsFit f
from_fits f h = (((omega arith, one_kit f.kit), h.kit), (((omega arith, h.level_count), h.levels), (((omega arith, h.load_count), h.loads), (((omega arith, omega arith), h.card), tt))))

no_more_back : (f g : Filed) (p : Place) → and_no_more f p ≡ Ok g → (p.0 ≡ []) × (f ≡ g)
no_more_back f g ([], n) h = (refl, ok_same h)
no_more_back f g (b ∷ bs, n) h = err_ok h

pub file_back : (bs : List ℕ) (f : Filed) → order_file_of bs ≡ Ok f → (bs ≡ render f) × Fits f
file_back bs f h =
    and_next (sections (bs, 1)) _ _ h (λ g p e k.
    let a = sections_parse.back (bs, 1) g p e in
    let z = no_more_back g f p k in
    subst (λ x. (bs ≡ render x) × Fits x) z.1 (a.1 ∙ ap (text g) z.0, to_fits g a.2))

-- the sections are read whatever follows them
pub sections_forth : (f : Filed) (after : List ℕ) → Fits f → (m : ℕ) × (sections (text f after, 1) ≡ Ok (f, (after, m)))
sections_forth f after h = sections_parse.forth f after 1 tt (from_fits f h)

pub file_forth : (f : Filed) → Fits f → order_file_of (render f) ≡ Ok f
file_forth f h = go_on _ (sections_forth f [] h).1
