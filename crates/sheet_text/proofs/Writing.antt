-- The text of a sheet, line by line.
use Rattle.std.proofs.Common.{◌≡◌, ℕ, ◌+◌, ◌-◌, ◌<◌, ◌≤◌, List, [], ◌∷◌, ◌++◌, length, get_or, take, drop, flat_map, Some, sym, ap, ap₂, ◌∙◌, append_assoc, append-nil, arith, length-drop}
use Rattle.std.proofs.lemmas.List.{take_more, take_at, drop_at, drop_all, take_all, drop-drop}
use Rattle.std.proofs.lemmas.Grind.{flat_map-append}
use Rattle.tokens.specs.Text.{line_of}
use Rattle.pen.specs.Tails.{CopiedTo}
use Rattle.seismic.specs.declared.row.Row.{Row}
use Rattle.seismic.specs.declared.sheet.Sheet.{Sheet}
use Rattle.sheet_text.specs.Sheets.{row_line, sheet_words, text_of}

-- the text of one row more
pub next_line :
    (s : Sheet) (rows : List Row) (k : ℕ) (d : Row) (line : List ℕ) → k < length rows → line ≡ row_line (get_or rows k d)
    → text_of s (take k rows) ++ line ≡ text_of s (take (k + 1) rows)
next_line s rows k d line within written =
    let heading = line_of (sheet_words s) [] in
    let row = get_or rows k d in
    let lines : flat_map row_line (take (k + 1) rows) ≡ flat_map row_line (take k rows) ++ line =
    ap (flat_map row_line) (take_more rows k d within)
    ∙ flat_map-append row_line (take k rows) (row ∷ [])
    ∙ ap (λ (l : List ℕ). flat_map row_line (take k rows) ++ l) (append-nil (row_line row) ∙ sym written) in
    append_assoc heading (flat_map row_line (take k rows)) line ∙ ap (λ (l : List ℕ). heading ++ l) (sym lines)

-- a line is put behind a text that stands at the front of a buffer
pub behind :
    (text line out before new : List ℕ) (at n : ℕ) → out ≡ text ++ drop at before → at ≡ length text → length out ≡ length before
    → at ≤ length before → CopiedTo line (take (length out - at) (drop at out)) (Some n) new
    → take at out ++ (new ++ drop (length out - at) (drop at out)) ≡ (text ++ line) ++ drop (at + n) before
behind text line out before new at n is count same within copied =
    let front : take at out ≡ text = ap (take at) is ∙ take_at text (drop at before) at (sym count) in
    let rest : drop at out ≡ drop at before = ap (drop at) is ∙ drop_at text (drop at before) at (sym count) in
    let long : length (drop at out) ≤ length out - at = omega (arith, length-drop at out) in
    let none : drop (length out - at) (drop at out) ≡ [] = drop_all (length out - at) (drop at out) long in
    let whole : new ≡ line ++ drop (at + n) before =
    copied.2
    ∙ ap (λ (part : List ℕ). line ++ drop (length line) part) (take_all (length out - at) (drop at out) long ∙ rest)
    ∙ ap (λ (part : List ℕ). line ++ part) (drop-drop (length line) at before ∙ ap (λ (m : ℕ). drop (at + m) before) (sym copied.1)) in
    ap₂ (λ (xs ys : List ℕ). xs ++ (new ++ ys)) front none
    ∙ ap (λ (part : List ℕ). text ++ part) (append-nil new ∙ whole)
    ∙ sym (append_assoc text line (drop (at + n) before))
