-- One level's line more.
use Rattle.std.proofs.Common.{◌≡◌, ℕ, ◌+◌, List, [], ◌++◌, Some, sym, ap, ◌∙◌, append_assoc, add-one}
use Rattle.records.specs.declared.level.Level.{Level}
use Rattle.tokens.specs.Text.{line_of}
use Rattle.frames.specs.Levels.{level_at, level_height}
use Rattle.listing.specs.Listings.{row_words, row_line, lines_to}

pub line_more : (ls : List Level) (n below counted : ℕ) (l : Level) (height : ℕ) (start : List ℕ) → below ≡ n → counted ≡ n + 1 → level_at ls (n + 1) ≡ Some l → height ≡ level_height ls (n + 1) → (start ++ lines_to ls n) ++ line_of (row_words (below + 1) l height) [] ≡ start ++ lines_to ls counted
line_more ls n below counted l height start is more at high =
    let text : ℕ → ℕ → List ℕ = λ k h. line_of (row_words (k + 1) l h) [] in
    let line : text below height ≡ row_line (n + 1) (level_height ls (n + 1)) (level_at ls (n + 1)) =
    ap (λ (k : ℕ). text k height) is ∙ ap (text n) high ∙ ap (row_line (n + 1) (level_height ls (n + 1))) (sym at) in
    append_assoc start (lines_to ls n) _
    ∙ ap (λ (bs : List ℕ). start ++ (lines_to ls n ++ bs)) line
    ∙ ap (λ (k : ℕ). start ++ (lines_to ls n ++ row_line k (level_height ls k) (level_at ls k))) (add-one n)
    ∙ ap (λ (k : ℕ). start ++ lines_to ls k) (sym (add-one n) ∙ sym more)
