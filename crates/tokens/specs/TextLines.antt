-- How the words of a line are taken, one after the other.
use Rattle.std.specs.Prelude.{◌≡◌, ℕ, Bool, true, false, cond, List, Some, None, Ok, Err, Option, Result}
use Rattle.std.specs.Option.{option_map}
use Rattle.tokens.specs.declared.fault.Fault.{Fault}
use Rattle.tokens.specs.declared.fault.Fault.TheVariants.{Layout}
use Rattle.tokens.specs.declared.text_line.TextLine.{TextLine}
use Rattle.tokens.specs.declared.token.Word.{Word}
use Rattle.tokens.specs.Cuts.{cut_at, first_word, later_words}
use Rattle.tokens.specs.Fields.{as_number}
use Rattle.tokens.specs.Said.{Said, told, meant, as_section}

-- what is left of a line: None past its last word
abbrev pub Left : Type 0
Left = Option (List ℕ)

-- one after the other
abbrev pub then : {A B : Type 0} → Option A → (A → Option B) → Option B
then None k = None
then (Some x) k = k x

-- the next word
abbrev pub next_word : Left → Option (Said × Left)
next_word None = None
next_word (Some bs) = Some (told (first_word (cut_at 32 bs) bs), later_words (cut_at 32 bs))

-- what the next word leaves of the line, whatever it says
abbrev pub after_word : Left → Left
after_word None = None
after_word (Some bs) = later_words (cut_at 32 bs)

-- the next word, read as a field
abbrev pub next_field : {A : Type 0} → (Said → Option A) → Left → Option (A × Left)
next_field m ws = then (next_word ws) (λ w. then (m w.0) (λ x. Some (x, w.1)))

-- a section word and its count
abbrev pub heading_of : List ℕ → Left → Option (ℕ × Left)
heading_of name ws = then (next_word ws) (λ w. cond (as_section name w.0) (next_field as_number w.1) None)

-- what a heading leaves of the line: its second word is taken only after the section word
abbrev pub after_heading : List ℕ → Left → Left
after_heading name None = None
after_heading name (Some bs) = cond (as_section name (told (first_word (cut_at 32 bs) bs))) (after_word (later_words (cut_at 32 bs))) (later_words (cut_at 32 bs))

-- a part of line n was read, with what is left of the line, or the line is not laid out so
abbrev pub Took : {V A : Type 0} → (V → A) → Result V Fault → Left → ℕ → Option (A × Left) → Type 0
Took f (Ok x) left n want = want ≡ Some (f x, left)
Took f (Err e) left n want = (want ≡ None) × (e ≡ Layout n)

abbrev pub said : Word → Said
said w = meant w.token

-- what is left of a line, and its number
abbrev pub left : TextLine → Left
left l = option_map (λ x. x.now) l.rest

abbrev pub numbered : TextLine → ℕ
numbered l = l.line

-- the first line of a text, all of it left, and what stands after its byte 10
abbrev pub first_line : List ℕ → Option (Left × List ℕ)
first_line bs = option_map (λ p. (Some p.0, p.1)) (cut_at 10 bs)

abbrev pub none_left : Left → Bool
none_left None = true
none_left (Some bs) = false
