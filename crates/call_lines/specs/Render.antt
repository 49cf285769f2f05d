-- The text that the entries of some lines make.
use Rattle.std.specs.Prelude.{ℕ, List, [], ◌∷◌, map, codes, decimal}
use Rattle.seismic.specs.declared.axis.Axis.{Axis}
use Rattle.order_file.specs.Render.{load_words, card_words, lines_of}
use Rattle.call_lines.specs.declared.word.Word.{Word}
use Rattle.call_lines.specs.declared.word.Word.TheVariants.{Load, Strike, Standing, Trial, Keep, Abandon, Issue, Reopen, Release, Sheet, Axes, Card as NewCard}
use Rattle.call_lines.specs.Asked.{Asked, load, strike, standing, trial, keep, abandon, issue, reopen, release, sheet, axes, Entry, call, card}

-- how each word is written
abbrev pub word_text : Word → List ℕ
word_text Load = codes "LOAD"
word_text Strike = codes "STRIKE"
word_text Standing = codes "STANDING"
word_text Trial = codes "TRIAL"
word_text Keep = codes "KEEP"
word_text Abandon = codes "ABANDON"
word_text Issue = codes "ISSUE"
word_text Reopen = codes "REOPEN"
word_text Release = codes "RELEASE"
word_text Sheet = codes "SHEET"
word_text Axes = codes "AXES"
word_text NewCard = codes "CARD"

-- the word of a call
abbrev pub asked_word : Asked → Word
asked_word (load x) = Load
asked_word strike = Strike
asked_word (standing n) = Standing
asked_word trial = Trial
asked_word keep = Keep
asked_word abandon = Abandon
asked_word issue = Issue
asked_word reopen = Reopen
asked_word release = Release
asked_word (sheet k rows) = Sheet
asked_word (axes k storey lent) = Axes

-- the words after it; the card in force and what is lent are not written, but for the axes' stiffnesses
abbrev pub asked_more : Asked → List (List ℕ)
asked_more (load x) = load_words x
asked_more strike = []
asked_more (standing n) = decimal n ∷ []
asked_more trial = []
asked_more keep = []
asked_more abandon = []
asked_more issue = []
asked_more reopen = []
asked_more release = []
asked_more (sheet k rows) = []
asked_more (axes k storey lent) = decimal storey ∷ map (λ (a : Axis). decimal a.stiffness) lent

-- the word of a line
abbrev pub entry_word : Entry → Word
entry_word (call a) = asked_word a
entry_word (card k) = NewCard

-- the words after it
abbrev pub entry_more : Entry → List (List ℕ)
entry_more (call a) = asked_more a
entry_more (card k) = card_words k

-- all words of a line
abbrev pub entry_words : Entry → List (List ℕ)
entry_words e = word_text (entry_word e) ∷ entry_more e

-- one line an entry
abbrev pub written : List Entry → List ℕ
written es = lines_of entry_words es []
