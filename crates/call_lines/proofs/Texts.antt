-- A text is read where it is what writing its lines makes; the unreadable line of any other is the first that no such text has.
use Rattle.std.proofs.Common.{◌≡◌, ℕ, zero, suc, ◌+◌, ◌-◌, ◌≤◌, List, [], ◌∷◌, ◌++◌, Some, None, Ok, Err, Option, Result, Vec, Global, sym, refl, ap, ◌∙◌, subst, arith}
use Rattle.std.specs.List.{join_with_byte}
use Rattle.std.proofs.lemmas.List.Splits.{join_with_byte-slice_split}
use Rattle.std.proofs.lemmas.Option.{same_Some}
use Rattle.records.specs.declared.card.Card.{Card}
use Rattle.tokens.specs.Cuts.{cut_at}
use Rattle.tokens.specs.Text.{joined}
use Rattle.tokens.proofs.Cutting.{cut_here}
use Rattle.tokens.proofs.Options.{none_some}
use Rattle.order_file.specs.First.{Shares}
use Rattle.order_file.proofs.Steps.{err_ok, ok_same, err_same}
use Rattle.call_lines.specs.declared.call_line.CallLine.{CallLine}
use Rattle.call_lines.specs.declared.unread.Unread.{Unread}
use Rattle.call_lines.specs.declared.unread.Unread.TheVariants.{Unreadable, NoMemory}
use Rattle.call_lines.specs.Asked.{Entry}
use Rattle.call_lines.specs.Entries.{in_force, first_then, before, entries, entries_of, ReadAs}
use Rattle.call_lines.specs.Exact.{CanStand, CanFollow, Exactly}
use Rattle.call_lines.specs.Lines.{entry_of}
use Rattle.call_lines.specs.Render.{entry_words, written}
use Rattle.call_lines.specs.Steps.{Place}
use Rattle.call_lines.proofs.Laid.{ends, line_back, line_forth}
use Rattle.call_lines.proofs.Splits.{parts, uncut_parts}
use Rattle.call_lines.proofs.Steps.{first_of, cut_first, unread_last}

-- what a line and the others came to

-- a readable line
ok_back : (n : ℕ) (o : Option Entry) (others : Entry → Result (List Entry) ℕ) (es : List Entry) → first_then n o others ≡ Ok es → (e : Entry) × (o ≡ Some e) × (others e ≡ Ok es)
ok_back n None others es h = err_ok h
ok_back n (Some e) others es h = (e, refl, h)

-- and readable others
before_ok : (e : Entry) (r : Result (List Entry) ℕ) (es : List Entry) → before e r ≡ Ok es → (fs : List Entry) × (r ≡ Ok fs) × (e ∷ fs ≡ es)
before_ok e (Ok fs) es h = (fs, refl, ok_same h)
before_ok e (Err n) es h = err_ok h

-- an unreadable one among the others
before_err : (e : Entry) (r : Result (List Entry) ℕ) (m : ℕ) → before e r ≡ Err m → r ≡ Err m
before_err e (Ok fs) m h = err_ok (sym h)
before_err e (Err n) m h = ap Err (err_same h)

-- what is read is written so, told of the parts
parts_back : (k : Card) (n : ℕ) (ps : List (List ℕ)) (es : List Entry) → entries k n ps ≡ Ok es → (join_with_byte 10 ps ≡ written es) × CanFollow k es
parts_back k n [] es h = subst (λ es. ([] ≡ written es) × CanFollow k es) (ok_same h) (refl, tt)
parts_back k n ([] ∷ []) es h = subst (λ es. ([] ≡ written es) × CanFollow k es) (ok_same h) (refl, tt)
parts_back k n ((b ∷ bs) ∷ []) es h = err_ok (sym (unread_last n (b ∷ bs) (omega arith)) ∙ h)
parts_back k n (line ∷ next ∷ later) es h =
    let q = ok_back n (entry_of k (Some line)) (λ e. before e (entries (in_force k e) (n + 1) (next ∷ later))) es h in
    let r = before_ok q.0 (entries (in_force k q.0) (n + 1) (next ∷ later)) es q.2 in
    let l = line_back k line q.0 q.1 in
    let i = parts_back (in_force k q.0) (n + 1) (next ∷ later) r.0 r.1 in
    subst (λ es. (line ++ (10 ∷ join_with_byte 10 (next ∷ later)) ≡ written es) × CanFollow k es) r.2
    (ap (λ (t : List ℕ). t ++ (10 ∷ join_with_byte 10 (next ∷ later))) l.0 ∙ ap (λ (t : List ℕ). joined (entry_words q.0) ++ (10 ∷ t)) i.0, (l.1, i.1))

-- and of the text
text_back : (k : Card) (n : ℕ) (bs : List ℕ) (es : List Entry) → entries_of k n bs ≡ Ok es → (bs ≡ written es) × CanFollow k es
text_back k n bs es h = let q = parts_back k n (parts bs) es h in (sym (join_with_byte-slice_split 10 bs) ∙ q.0, q.1)

-- a written text is cut after its first line
cut_written : (k : Card) (e : Entry) (es : List Entry) → CanStand k e → cut_at 10 (written (e ∷ es)) ≡ Some (joined (entry_words e), written es)
cut_written k e es h = cut_here 10 (joined (entry_words e)) (written es) (ends k e h)

-- a text that begins with the line of an entry
line_read : (k : Card) (n : ℕ) (e : Entry) (bs rest : List ℕ) → CanStand k e → cut_at 10 bs ≡ Some (joined (entry_words e), rest) → entries_of k n bs ≡ before e (entries_of (in_force k e) (n + 1) rest)
line_read k n e bs rest h cut =
    let p : Place = record { rest = bs; line = n; card = k } in
    cut_first p (joined (entry_words e), rest) cut ∙ ap (λ o. first_of k n o (parts rest)) (line_forth k e h)

-- what is written is read so
text_forth : (k : Card) (n : ℕ) (es : List Entry) → CanFollow k es → entries_of k n (written es) ≡ Ok es
text_forth k n [] h = refl
text_forth k n (e ∷ es) h = line_read k n e (written (e ∷ es)) (written es) h.0 (cut_written k e es h.0) ∙ ap (before e) (text_forth (in_force k e) (n + 1) es h.1)

-- an unreadable line is not before the first
err_above : (k : Card) (n : ℕ) (ps : List (List ℕ)) (m : ℕ) → entries k n ps ≡ Err m → n ≤ m
err_above k n [] m h = err_ok (sym h)
err_above k n ([] ∷ []) m h = err_ok (sym h)
err_above k n ((b ∷ bs) ∷ []) m h = let e : n ≡ m = err_same (sym (unread_last n (b ∷ bs) (omega arith)) ∙ h) in omega arith
err_above k n (line ∷ next ∷ later) m h = cases (entry_of k (Some line)) h (λ e. err_above (in_force k e) (n + 1) (next ∷ later) m)
  where
    cases : (o : Option Entry) → first_of k n o (next ∷ later) ≡ Err m → ((e : Entry) → entries (in_force k e) (n + 1) (next ∷ later) ≡ Err m → n + 1 ≤ m) → n ≤ m
    cases None j above = let e : n ≡ m = err_same j in omega arith
    cases (Some e) j above = let a = above e (before_err e _ m j) in omega arith

-- a line that is shared with what is written is read, and the fault is further on
past_line : (d : ℕ) (k : Card) (n m : ℕ) (bs : List ℕ) (e : Entry) (es : List Entry) → CanStand k e → Shares (suc d) bs (written (e ∷ es)) → entries_of k n bs ≡ Err m → (rest : List ℕ) × Shares d rest (written es) × (entries_of (in_force k e) (n + 1) rest ≡ Err m)
past_line d k n m bs e es f s h =
    let same = same_Some _ _ (sym s.4 ∙ cut_written k e es f) in
    let cut : cut_at 10 bs ≡ Some (joined (entry_words e), s.1) = s.3 ∙ ap (λ (t : List ℕ × List ℕ). Some (t.0, s.1)) same in (
      s.1,
      subst (λ (t : List ℕ × List ℕ). Shares d s.1 t.1) same s.5,
      before_err e _ m (sym (line_read k n e bs s.1 f cut) ∙ h),
    )

-- no text has it, after the lines before it
shared_read : (d : ℕ) (k : Card) (n m : ℕ) (bs : List ℕ) (es : List Entry) → m ≡ n + d → CanFollow k es → Shares (suc d) bs (written es) → entries_of k n bs ≡ Err m → ⊥
shared_read d k n m bs [] is f s h = none_some s.4
shared_read zero k n m bs (e ∷ es) is f s h =
    let q = past_line zero k n m bs e es f.0 s h in
    let a = err_above (in_force k e) (n + 1) (parts q.0) m q.2 in
    absurd (omega arith)
shared_read (suc d) k n m bs (e ∷ es) is f s h =
    let q = past_line (suc d) k n m bs e es f.0 s h in
    shared_read d (in_force k e) (n + 1) m q.0 es (omega arith) f.1 q.1 q.2

-- what was read before it is written so
abbrev Begun : Card → ℕ → List ℕ → Type 0
Begun k d bs = (es : List Entry) × CanFollow k es × Shares d bs (written es)

begun : (d : ℕ) (k : Card) (n m : ℕ) (bs : List ℕ) → m ≡ n + d → entries_of k n bs ≡ Err m → Begun k d bs
begun zero k n m bs is h = ([], tt, tt)
begun (suc d) k n m bs is h = cases (cut_at 10 bs) refl (begun d)
  where
    line : (c : List ℕ × List ℕ) (o : Option Entry) → cut_at 10 bs ≡ Some c → entry_of k (Some c.0) ≡ o → first_of k n o (parts c.1) ≡ Err m → ((k : Card) (n m : ℕ) (bs : List ℕ) → m ≡ n + d → entries_of k n bs ≡ Err m → Begun k d bs) → Begun k (suc d) bs
    line c None cut at j later = let e : n ≡ m = err_same j in absurd (omega arith)
    line c (Some e) cut at j later =
        let l = line_back k c.0 e at in
        let q = later (in_force k e) (n + 1) m c.1 (omega arith) (before_err e _ m j) in
        (e ∷ q.0, (l.1, q.1), (c.0, c.1, written q.0, cut, cut_written k e q.0 l.1 ∙ ap (λ (t : List ℕ). Some (t, written q.0)) (sym l.0), q.2))

    none : (t : List ℕ) → entries k n (t ∷ []) ≡ Err m → Begun k (suc d) bs
    none [] j = err_ok (sym j)
    none (b ∷ t) j = let e : n ≡ m = err_same (sym (unread_last n (b ∷ t) (omega arith)) ∙ j) in absurd (omega arith)

    cases : (o : Option (List ℕ × List ℕ)) → cut_at 10 bs ≡ o → ((k : Card) (n m : ℕ) (bs : List ℕ) → m ≡ n + d → entries_of k n bs ≡ Err m → Begun k d bs) → Begun k (suc d) bs
    cases None cut later = none bs (sym (ap (entries k n) (uncut_parts bs cut)) ∙ h)
    cases (Some c) cut later =
        let p : Place = record { rest = bs; line = n; card = k } in
        line c (entry_of k (Some c.0)) cut refl (sym (cut_first p c cut) ∙ h) later

-- all together
pub exactly : (k : Card) (n : ℕ) (r : Result (Vec CallLine Global) Unread) (bs : List ℕ) → ReadAs r (entries_of k n bs) → Exactly k n r bs
exactly k n (Ok lines) bs h = let q = text_back k n bs _ h in record { written = q.0; can = q.1 }
exactly k n (Err (Unreadable m)) bs h =
    let above = err_above k n (parts bs) m h in
    let is : m ≡ n + (m - n) = omega arith in (
      m - n,
      is,
      record {
        unwritten = λ es f e. err_ok (sym h ∙ ap (entries_of k n) e ∙ text_forth k n es f);
        faulty = λ es f s. shared_read (m - n) k n m bs es is f s h;
        first = begun (m - n) k n m bs is h;
      },
    )
exactly k n (Err NoMemory) bs h = tt
