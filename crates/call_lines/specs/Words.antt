-- The word that a call line begins with, exact and in upper case.
use Rattle.std.specs.Prelude.{ℕ, cond, List, Some, None, codes, Option}
use Rattle.std.specs.Str.{bytes_eq}
use Rattle.tokens.specs.Said.{Said, section, numeral, minus, mark}
use Rattle.call_lines.specs.declared.word.Word.{Word}
use Rattle.call_lines.specs.declared.word.Word.TheVariants.{Load, Strike, Standing, Trial, Keep, Abandon, Issue, Reopen, Release, Sheet, Axes, Card}

-- the words of the calls
abbrev pub word_named : List ℕ → Option Word
word_named w =
    cond (bytes_eq w (codes "LOAD")) (Some Load)
    (cond (bytes_eq w (codes "STRIKE")) (Some Strike)
    (cond (bytes_eq w (codes "STANDING")) (Some Standing)
    (cond (bytes_eq w (codes "TRIAL")) (Some Trial)
    (cond (bytes_eq w (codes "KEEP")) (Some Keep)
    (cond (bytes_eq w (codes "ABANDON")) (Some Abandon)
    (cond (bytes_eq w (codes "ISSUE")) (Some Issue)
    (cond (bytes_eq w (codes "REOPEN")) (Some Reopen)
    (cond (bytes_eq w (codes "RELEASE")) (Some Release)
    (cond (bytes_eq w (codes "SHEET")) (Some Sheet)
    (cond (bytes_eq w (codes "AXES")) (Some Axes) None))))))))))

-- CARD is a section word of the order file, and so is told as one
abbrev pub as_word : Said → Option Word
as_word (section w) = cond (bytes_eq w (codes "CARD")) (Some Card) None
as_word (numeral w) = None
as_word (minus w) = None
as_word (mark w) = word_named w
