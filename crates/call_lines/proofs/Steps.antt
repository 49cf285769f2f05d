-- Lines read one after another: what holds while some are read and some are not.
use Rattle.std.proofs.Common.{◌≡◌, ℕ, ◌+◌, ◌<◌, cond, eqb, List, [], ◌∷◌, ◌++◌, length, map, Some, None, Ok, Err, Option, Result, sym, refl, ap, ◌∙◌, append_assoc, append-nil, arith}
use Rattle.std.specs.Option.{option_map}
use Rattle.std.proofs.lemmas.Bool.Decides.{nat_tests}
use Rattle.records.specs.declared.card.Card.{Card}
use Rattle.tokens.specs.Cuts.{cut_at}
use Rattle.tokens.specs.TextLines.{Left, then}
use Rattle.tokens.proofs.Options.{none_some, mapped_back}
use Rattle.call_lines.specs.declared.call_line.CallLine.{CallLine}
use Rattle.call_lines.specs.Asked.{Entry, entry}
use Rattle.call_lines.specs.Entries.{in_force, first_then, before, entries, entries_of}
use Rattle.call_lines.specs.Lines.{entry_of}
use Rattle.call_lines.specs.Steps.{Place, step}
use Rattle.call_lines.proofs.Splits.{parts, some_parts, cut_parts, uncut_parts}

-- what the lines from a place on come to
abbrev pub entries_at : Place → Result (List Entry) ℕ
entries_at p = entries_of p.card p.line p.rest

-- a line that others follow
abbrev pub first_of : Card → ℕ → Option Entry → List (List ℕ) → Result (List Entry) ℕ
first_of k n o others = first_then n o (λ e. before e (entries (in_force k e) (n + 1) others))

-- a line is judged before those that follow it
line_first : (k : Card) (n : ℕ) (line : List ℕ) (others : List (List ℕ)) → 0 < length others → entries k n (line ∷ others) ≡ first_of k n (entry_of k (Some line)) others
line_first k n line [] h = absurd (omega arith)
line_first k n line (next ∷ later) h = refl

-- the line that is cut off first
pub cut_first : (p : Place) (c : List ℕ × List ℕ) → cut_at 10 p.rest ≡ Some c → entries_at p ≡ first_of p.card p.line (entry_of p.card (Some c.0)) (parts c.1)
cut_first p c h = ap (entries p.card p.line) (cut_parts p.rest c h) ∙ line_first p.card p.line c.0 (parts c.1) (some_parts c.1)

-- the place after a line that comes to an entry, where some bytes follow it
abbrev after_line : Place → List ℕ → Entry → Entry × Place
after_line p rest e = (e, record p { rest = rest; line = p.line + 1; card = in_force p.card e })

-- a step, from the cut
abbrev cut_step : Place → Option (List ℕ × List ℕ) → Option (Entry × Place)
cut_step p o =
    then {A = Left × Place}
    (option_map (λ (c : Left × List ℕ). (c.0, record p { rest = c.1; line = p.line + 1 })) (option_map (λ (c : List ℕ × List ℕ). (Some c.0, c.1)) o))
    (λ c. option_map (λ (e : Entry). (e, record c.1 { card = in_force p.card e })) (entry_of p.card c.0))

-- a line is read
stepped : (p q : Place) (e : Entry) → step p ≡ Some (e, q) → entries_at p ≡ before e (entries_at q)
stepped p q e h = cases (cut_at 10 p.rest) refl h
  where
    cases : (o : Option (List ℕ × List ℕ)) → cut_at 10 p.rest ≡ o → cut_step p o ≡ Some (e, q) → entries_at p ≡ before e (entries_at q)
    cases None cut k = none_some k
    cases (Some c) cut k =
        let m = mapped_back (after_line p c.1) (entry_of p.card (Some c.0)) (e, q) k in
        cut_first p c cut
        ∙ ap (λ o. first_of p.card p.line o (parts c.1)) m.1
        ∙ ap (λ (d : Entry × Place). before d.0 (entries_at d.1)) (sym m.2)

-- the last part is unreadable where it holds something
pub unread_last : (n : ℕ) (bs : List ℕ) → 0 < length bs → cond {A = Result (List Entry) ℕ} (eqb (length bs) 0) (Ok []) (Err n) ≡ Err n
unread_last n [] h = absurd (omega arith)
unread_last n (b ∷ bs) h = grind (arith, nat_tests)

-- a line is unreadable
faulty_step : (p : Place) → 0 < length p.rest → step p ≡ None → entries_at p ≡ Err p.line
faulty_step p some h = cases (cut_at 10 p.rest) refl h
  where
    line : (c : List ℕ × List ℕ) (o : Option Entry) → option_map (after_line p c.1) o ≡ None → first_of p.card p.line o (parts c.1) ≡ Err p.line
    line c None k = refl
    line c (Some d) k = none_some (sym k)

    cases : (o : Option (List ℕ × List ℕ)) → cut_at 10 p.rest ≡ o → cut_step p o ≡ None → entries_at p ≡ Err p.line
    cases None cut k = ap (entries p.card p.line) (uncut_parts p.rest cut) ∙ unread_last p.line p.rest some
    cases (Some c) cut k = cut_first p c cut ∙ line c (entry_of p.card (Some c.0)) k

-- nothing is left
at_end : (k : Card) (n : ℕ) (bs : List ℕ) → length bs ≡ 0 → entries_of k n bs ≡ Ok []
at_end k n [] h = refl
at_end k n (b ∷ bs) h = absurd (omega arith)

-- some entries stand before what is read further
abbrev pub after_entries : List Entry → Result (List Entry) ℕ → Result (List Entry) ℕ
after_entries es (Ok fs) = Ok (es ++ fs)
after_entries es (Err n) = Err n

-- nothing read so far
after_none : (o : Result (List Entry) ℕ) → o ≡ after_entries [] o
after_none (Ok fs) = refl
after_none (Err n) = refl

-- one entry more
after_one : (es : List Entry) (e : Entry) (o : Result (List Entry) ℕ) → after_entries es (before e o) ≡ after_entries (es ++ (e ∷ [])) o
after_one es e (Ok fs) = ap (λ (l : List Entry). Ok l) (sym (append_assoc es (e ∷ []) fs))
after_one es e (Err n) = refl

-- of one line more
map_more : (xs : List CallLine) (x : CallLine) → map entry xs ++ (entry x ∷ []) ≡ map entry (xs ++ (x ∷ []))
map_more [] x = refl
map_more (y ∷ xs) x = ap (λ (l : List Entry). entry y ∷ l) (map_more xs x)

-- these lines of a text are read, and the reader stands at p
pub record Going (from : Place) (read : List CallLine) (p : Place) : Type 0 where
  pub left : entries_at from ≡ after_entries (map entry read) (entries_at p)

-- none is read yet
pub at_start : (from : Place) → Going from [] from
at_start from = record { left = after_none (entries_at from) }

module _ {from : Place} {read : List CallLine} {p : Place} (h : Going from read p) where
  pub ended : length p.rest ≡ 0 → entries_at from ≡ Ok (map entry read)
  ended e = h.left ∙ ap (after_entries (map entry read)) (at_end p.card p.line p.rest e) ∙ ap (λ (l : List Entry). Ok l) (append-nil (map entry read))

  pub faulty : 0 < length p.rest → step p ≡ None → entries_at from ≡ Err p.line
  faulty some bad = h.left ∙ ap (after_entries (map entry read)) (faulty_step p some bad)

  pub one_more : (x : CallLine) (q : Place) → step p ≡ Some (entry x, q) → Going from (read ++ (x ∷ [])) q
  one_more x q good = record {
    left =
        h.left
        ∙ ap (after_entries (map entry read)) (stepped p q (entry x) good)
        ∙ after_one (map entry read) (entry x) (entries_at q)
        ∙ ap (λ l. after_entries l (entries_at q)) (map_more read x);
  }
