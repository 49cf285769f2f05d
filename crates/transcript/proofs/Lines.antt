-- Lines of an input that is not too long.
use Rattle.std.proofs.Common.{◌≡◌, ℕ, ◌≤◌, min, List, length, take, ap, ◌∙◌, take_all}
use Rattle.std.proofs.lemmas.List.{take_min}
use Rattle.call_lines.specs.Entries.{counted}
use Rattle.transcript.specs.Transcripts.{input_limit}

-- all its bytes count
pub all_count : (bytes : List ℕ) → length bytes ≤ input_limit → counted bytes ≡ bytes
unfolding counted
all_count bytes short = take_all input_limit bytes short

-- so many of its first bytes are those that count
pub front_counts : (n : ℕ) (bytes : List ℕ) → n ≡ min input_limit (length bytes) → take n bytes ≡ take input_limit bytes
front_counts n bytes e = ap (λ (k : ℕ). take k bytes) e ∙ take_min input_limit bytes
