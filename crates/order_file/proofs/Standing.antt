-- On which line of the file each record stands.
use Rattle.std.proofs.Common.{◌≡◌, ℕ, zero, suc, ◌+◌, ◌-◌, ◌<◌, ◌≤◌, true, List, [], ◌∷◌, length, get_or, Some, codes, Option, sym, ap, ◌∙◌, subst, suc-add, zero-add, arith}
use Rattle.std.specs.Option.{option_map, option_to_list}
use Rattle.std.specs.List.{AllByRecursion}
use Rattle.tokens.specs.Text.{joined, line_of}
use Rattle.tokens.specs.TextLines.{Left, then}
use Rattle.tokens.proofs.Cutting.{lacks, cut_here}
use Rattle.tokens.proofs.Lays.{Lays, Names}
use Rattle.order_file.specs.File.{Filed}
use Rattle.order_file.specs.Limits.{Fits}
use Rattle.order_file.specs.Lines.{line_after, line_at, kits, level_line, load_line, card_line, LinedUp}
use Rattle.order_file.specs.Render.{count_words, lines_of, section_text, kit_words, level_words, load_words, card_words}
use Rattle.order_file.proofs.Layouts.{kit_lays, level_lays, load_lays, card_lays}
use Rattle.order_file.proofs.Parses.{ends, count_ends}
use Rattle.order_file.proofs.Whole.{kit_name, levels_name, loads_name, card_name, one_kit, most_few, text}

here : (ws : List (List ℕ)) (after : List ℕ) → lacks 10 (joined ws) ≡ true → line_after 0 (line_of ws after) ≡ Some (joined ws)
here ws after h = ap (option_map (λ p. p.0)) (cut_here 10 (joined ws) after h)

past : (ws : List (List ℕ)) (after : List ℕ) (n : ℕ) → lacks 10 (joined ws) ≡ true → line_after (suc n) (line_of ws after) ≡ line_after n after
past ws after n h = ap (λ o. then o (λ p. line_after n p.1)) (cut_here 10 (joined ws) after h)

-- a section's lines, and the lines after it
module _ {A : Type 0} {f : Left → Option (A × Left)} {words : A → List (List ℕ)} {fits : A → Type 0} (lays : Lays f words fits) {name : List ℕ} (names : Names name) where
  past_all : (xs : List A) (after : List ℕ) (n : ℕ) → AllByRecursion fits xs → line_after (length xs + n) (lines_of words xs after) ≡ line_after n after
  past_all [] after n h = ap (λ k. line_after k after) (zero-add n)
  past_all (x ∷ xs) after n h =
      ap (λ k. line_after k (lines_of words (x ∷ xs) after)) (suc-add (length xs) n)
      ∙ past (words x) (lines_of words xs after) (length xs + n) (ends lays x h.0)
      ∙ past_all xs after n h.1

  among : (xs : List A) (after : List ℕ) (i : ℕ) (d : A) → i < length xs → AllByRecursion fits xs → line_after i (lines_of words xs after) ≡ Some (joined (words (get_or xs i d)))
  among [] after i d less h = absurd (omega arith)
  among (x ∷ xs) after zero d less h = here (words x) (lines_of words xs after) (ends lays x h.0)
  among (x ∷ xs) after (suc i) d less h = past (words x) (lines_of words xs after) i (ends lays x h.0) ∙ among xs after i d (omega arith) h.1

  past_section : (xs : List A) (after : List ℕ) (n : ℕ) → length xs ≤ 64 → AllByRecursion fits xs → line_after (suc (length xs + n)) (section_text name words xs after) ≡ line_after n after
  past_section xs after n few h =
      past (count_words name (length xs)) (lines_of words xs after) (length xs + n) (count_ends names (length xs) few) ∙ past_all xs after n h

  in_section : (xs : List A) (after : List ℕ) (i : ℕ) (d : A) → length xs ≤ 64 → AllByRecursion fits xs → i < length xs → line_after (suc i) (section_text name words xs after) ≡ Some (joined (words (get_or xs i d)))
  in_section xs after i d few h less =
      past (count_words name (length xs)) (lines_of words xs after) i (count_ends names (length xs) few) ∙ among xs after i d less h

module _ (f : Filed) (h : Fits f) (after : List ℕ) where
  abbrev card_text : List ℕ
  card_text = section_text (codes "CARD") card_words (f.card ∷ []) after

  abbrev load_text : List ℕ
  load_text = section_text (codes "LOADS") load_words f.loads card_text

  abbrev level_text : List ℕ
  level_text = section_text (codes "LEVELS") level_words f.levels load_text

  few_kits : length (option_to_list f.kit) ≤ 64
  few_kits = omega (arith, one_kit f.kit)

  few_levels : length f.levels ≤ 64
  few_levels = omega (arith, h.level_count, most_few f.kit)

  past_kit : (n : ℕ) → line_after (suc (kits f + n)) (text f after) ≡ line_after n level_text
  past_kit n = past_section kit_lays kit_name (option_to_list f.kit) level_text n few_kits h.kit

  past_levels : (n : ℕ) → line_after (suc (length f.levels + n)) level_text ≡ line_after n load_text
  past_levels n = past_section level_lays levels_name f.levels load_text n few_levels h.levels

  past_loads : (n : ℕ) → line_after (suc (length f.loads + n)) load_text ≡ line_after n card_text
  past_loads n = past_section load_lays loads_name f.loads card_text n h.load_count h.loads

  pub lined_up : LinedUp f (text f after)
  lined_up = record {
    kit = λ k e.
        in_section kit_lays kit_name (option_to_list f.kit) level_text 0 k few_kits h.kit (subst (λ o. 0 < length (option_to_list o)) (sym e) (omega arith))
        ∙ ap (λ o. Some (joined (kit_words (get_or (option_to_list o) 0 k)))) e;
    level = λ k d low high.
        ap (λ n. line_at n (text f after)) (let e : level_line f k ≡ suc (suc (kits f + suc (k - 1))) = omega arith in e)
        ∙ past_kit (suc (k - 1))
        ∙ in_section level_lays levels_name f.levels load_text (k - 1) d few_levels h.levels (omega arith);
    load = λ k d low high.
        ap (λ n. line_at n (text f after)) (let e : load_line f k ≡ suc (suc (kits f + suc (length f.levels + suc (k - 1)))) = omega arith in e)
        ∙ past_kit (suc (length f.levels + suc (k - 1)))
        ∙ past_levels (suc (k - 1))
        ∙ in_section load_lays loads_name f.loads card_text (k - 1) d h.load_count h.loads (omega arith);
    card =
        ap (λ n. line_at n (text f after)) (let e : card_line f ≡ suc (suc (kits f + suc (length f.levels + suc (length f.loads + 1)))) = omega arith in e)
        ∙ past_kit (suc (length f.levels + suc (length f.loads + 1)))
        ∙ past_levels (suc (length f.loads + 1))
        ∙ past_loads 1
        ∙ in_section card_lays card_name (f.card ∷ []) after 0 f.card (omega arith) (h.card, tt) (omega arith);
  }
