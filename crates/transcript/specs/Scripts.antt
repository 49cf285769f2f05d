-- The calls of a day, and the turns in which their answers are told.
use Rattle.std.specs.Prelude.{◌≡◌, ℕ, List, [], ◌∷◌, ◌++◌, map, flat_map, codes, vec_items}
use Rattle.tokens.specs.Text.{line_of}
use Rattle.runs.specs.declared.answer.Answer.{Answer}
use Rattle.answer_text.specs.Answers.{answer_text}
use Rattle.call_lines.specs.Asked.{Asked, Entry, call, card, asked}
use Rattle.transcript.specs.declared.script.Script.{Script}
use Rattle.transcript.specs.declared.script.Turn.{Turn}
use Rattle.transcript.specs.declared.script.Turn.TheVariants.{Call, Card}

-- what a line asks of the order
abbrev pub asked_by : Entry → List Asked
asked_by (call a) = a ∷ []
asked_by (card k) = []

-- what is told of a line
abbrev pub turn_of : Entry → Turn
turn_of (call a) = Call
turn_of (card k) = Card

-- what all lines ask
abbrev pub asked_calls : List Entry → List Asked
asked_calls es = flat_map asked_by es

-- the turns of all lines
abbrev pub turns : List Entry → List Turn
turns es = map turn_of es

-- the calls and turns of these lines
pub record Says (s : Script) (es : List Entry) : Type 0 where
  pub calls : map asked (vec_items s.calls) ≡ asked_calls es
  pub turns : vec_items s.turns ≡ turns es

-- those of these lines are put down after those that were there
pub record Adds (before after : Script) (es : List Entry) : Type 0 where
  pub calls : map asked (vec_items after.calls) ≡ map asked (vec_items before.calls) ++ asked_calls es
  pub turns : vec_items after.turns ≡ vec_items before.turns ++ turns es

-- the line that tells of a card
abbrev pub card_told : List ℕ
card_told = line_of (codes "CARD" ∷ []) []

-- the answers as text, with a line for each card between them
abbrev pub told : List Turn → List Answer → List ℕ
told [] answers = []
told (Card ∷ ts) answers = card_told ++ told ts answers
told (Call ∷ ts) [] = told ts []
told (Call ∷ ts) (a ∷ answers) = answer_text a ++ told ts answers
