-- A report tells what every run of its calls answers.
use Rattle.std.proofs.Common.{◌≡◌, ℕ, suc, ◌+◌, ◌≤◌, List, [], ◌∷◌, ◌++◌, length, take, map, slice_get, fold, Some, None, Ok, Err, Option, Result, sym, refl, ap, ◌∙◌, subst, arith, append_assoc, append-nil}
use Rattle.std.specs.Prelude.{vec_items, Vec}
use Rattle.std.specs.Global.{Global}
use Rattle.std.proofs.lemmas.List.{length_push}
use Rattle.records.specs.declared.level.Level.{Level}
use Rattle.records.specs.declared.line.Line.{Line}
use Rattle.tokens.specs.Text.{line_of}
use Rattle.order_file.specs.File.{Filed}
use Rattle.order_file.specs.Lines.{load_line}
use Rattle.seismic.specs.declared.denial.SheetDenial.{SheetDenial}
use Rattle.seismic.specs.declared.denial.SheetDenial.TheVariants.{NoShears, TooFewRows}
use Rattle.seismic.specs.declared.denial.ShearDenial.{ShearDenial}
use Rattle.seismic.specs.declared.row.Row.{Row}
use Rattle.seismic.specs.declared.sheet.Sheet.{Sheet as TheSheet}
use Rattle.seismic.specs.Refusals.{shear_denial}
use Rattle.seismic.specs.Sheets.{Sheeted}
use Rattle.orders.specs.declared.denial.OrderDenial.{OrderDenial}
use Rattle.orders.specs.Calls.{load_denial}
use Rattle.orders.proofs.Judging.{load_judged}
use Rattle.orders.proofs.Raising.{raised_length}
use Rattle.runs.specs.declared.answer.Answer.{Answer}
use Rattle.runs.specs.declared.answer.Answer.TheVariants.{Loaded, Sheet as Sheets, Denied}
use Rattle.runs.specs.declared.call.Call.{Call}
use Rattle.runs.specs.declared.call.Call.TheVariants.{Load, Sheet}
use Rattle.runs.specs.Answers.{AnswerOf, LoadAnswer, SheetAnswer}
use Rattle.runs.specs.Runs.{Answered}
use Rattle.runs.specs.Tally.{Tally, after, opened}
use Rattle.runs.proofs.Tallies.{after_load}
use Rattle.report.specs.declared.refusal.Refusal.TheVariants.{NoSheet}
use Rattle.report.specs.Laws.{Stands}
use Rattle.report.specs.Refusals.{refused_words}
use Rattle.report.specs.Reports.{after_frame, frame_of, levels_of, load_refusal, on_card, on_line, or_else, report_text, shear_line, sheeted, text_of}
use Rattle.report.specs.Runs.{Asks, told_of}
use Rattle.report.proofs.Sheets.{against, made}
use Rattle.report.proofs.Taken.{taken}

-- each of some calls is answered as the tally of the calls before it says, where these go on from the tally t
record Follows (ls : List Level) (t : Tally) (calls : List Call) (answers : List Answer) : Type 0 where
  one_a_call : length answers ≡ length calls
  each :
      (n : ℕ) (c : Call) (a : Answer) → slice_get calls n ≡ Some c → slice_get answers n ≡ Some a
      → AnswerOf ls (fold (after ls) t (take n calls)) c a

-- the first of them is answered as t says
first :
    {ls : List Level} {t : Tally} {c : Call} {calls : List Call} {a : Answer} {answers : List Answer}
    → Follows ls t (c ∷ calls) (a ∷ answers) → AnswerOf ls t c a
first {c = c} {a = a} h = h.each 0 c a refl refl

-- and the others go on from what it leaves
others :
    {ls : List Level} {t : Tally} {c : Call} {calls : List Call} {a : Answer} {answers : List Answer}
    → Follows ls t (c ∷ calls) (a ∷ answers) → Follows ls (after ls t c) calls answers
others h = record {
  one_a_call = omega (arith, h.one_a_call);
  each = λ n d b call answer. h.each (suc n) d b call answer;
}

-- an order that is open with these lines
abbrev stood : List Line → Tally
stood lines = record { lines = lines; bound = 0; stage = opened }

-- a sheet's answer tells the sheet of the file's levels, or why they have no shears
sheet_told :
    (f : Filed) (before : List Row) (o : Option ShearDenial) (r : Result TheSheet SheetDenial) (n : ℕ)
    (rows : Vec Row Global) (later : List Answer)
    → length (levels_of f) ≤ length before → shear_denial (length (levels_of f)) f.card ≡ o
    → Sheeted f.card (levels_of f) before r (vec_items rows)
    → told_of f n (Sheets r rows ∷ later) ≡ text_of (sheeted f (on_card f o))
sheet_told f before None (Ok sheet) n rows later enough e h = made f before (vec_items rows) sheet h
sheet_told f before None (Err d) n rows later enough e h =
    let no = against f.card _ _ None (Some d) enough e h.0 in cc
sheet_told f before (Some d) (Ok sheet) n rows later enough e h =
    let no = against f.card _ _ (Some d) None enough e h.0 in cc
sheet_told f before (Some d) (Err (NoShears c)) n rows later enough e h =
    let is = against f.card _ _ (Some d) (Some (NoShears c)) enough e h.0 in
    let same : c ≡ d = cc in
    ap (λ (x : ShearDenial). line_of (refused_words (NoSheet x (shear_line f x))) []) same
sheet_told f before (Some d) (Err (TooFewRows needed)) n rows later enough e h =
    let no = against f.card _ _ (Some d) (Some (TooFewRows needed)) enough e h.0 in cc

-- the answer to the sheet's call, where all loads of the file stand
sheet_answered :
    (f : Filed) (before : List Row) (o : Option ShearDenial) (a : Answer) (n : ℕ) (later : List Answer)
    → length (frame_of f) ≤ length before → shear_denial (length (levels_of f)) f.card ≡ o
    → SheetAnswer (frame_of f) f.loads f.card before a → told_of f n (a ∷ later) ≡ text_of (sheeted f (on_card f o))
sheet_answered f before o (Sheets r rows) n later enough e h =
    sheet_told f before o r n rows later (omega (arith, enough, raised_length f.loads (frame_of f))) e h.0
sheet_answered f before o _ n later enough e h = absurd h

-- what there is to tell of loads to come and the sheet after them, where some lines stand
abbrev left_to_tell : Filed → Option ShearDenial → List Line → List Line → List ℕ
left_to_tell f o lines left = text_of (sheeted f (or_else (load_refusal f lines left) (on_card f o)))

-- the same of a load and the others, where this stands against it
abbrev judged_so : Filed → Option ShearDenial → List Line → List Line → Line → Option OrderDenial → List ℕ
judged_so f o lines left x denial =
    let here = on_line (load_line f (length lines + 1)) denial in
    text_of (sheeted f (or_else (or_else here (load_refusal f (lines ++ x ∷ []) left)) (on_card f o)))

-- a load's answer tells its denial, or the load stands and leaves the others to tell
load_told :
    (f : Filed) (o : Option ShearDenial) (lines left : List Line) (x : Line) (a : Answer) (later : List Answer)
    → LoadAnswer (frame_of f) lines x a
    → (load_denial (frame_of f) lines x ≡ None
    → told_of f (length lines + 1) later ≡ left_to_tell f o (lines ++ x ∷ []) left)
    → told_of f (length lines) (a ∷ later) ≡ left_to_tell f o lines (x ∷ left)
load_told f o lines left x (Loaded y) later h go_on =
    let none = load_judged (frame_of f) lines x (Ok tt) h.1 in
    go_on none ∙ ap (judged_so f o lines left x) (sym none)
load_told f o lines left x (Denied d) later h go_on =
    ap (judged_so f o lines left x) (sym (load_judged (frame_of f) lines x (Err d) h))
load_told f o lines left x _ later h go_on = absurd h

-- so what is told of the answers is what there was to tell
told :
    (f : Filed) (o : Option ShearDenial) (rows : Vec Row Global) (lines left : List Line) (answers : List Answer)
    → length (frame_of f) ≤ length (vec_items rows) → shear_denial (length (levels_of f)) f.card ≡ o
    → lines ++ left ≡ f.loads
    → Follows (frame_of f) (stood lines) (map Load left ++ Sheet f.card rows ∷ []) answers
    → told_of f (length lines) answers ≡ left_to_tell f o lines left
told f o rows lines [] [] enough e all h = absurd (omega (arith, h.one_a_call))
told f o rows lines [] (a ∷ later) enough e all h =
    let answers_so : List Line → Type 0 = λ (xs : List Line). SheetAnswer (frame_of f) xs f.card (vec_items rows) a in
    let answer : answers_so f.loads = subst answers_so (sym (append-nil lines) ∙ all) (first h) in
    sheet_answered f (vec_items rows) o a (length lines) later enough e answer
told f o rows lines (x ∷ left) [] enough e all h = absurd (omega (arith, h.one_a_call))
told f o rows lines (x ∷ left) (a ∷ later) enough e all h =
    load_told f o lines left x a later (first h) (λ none.
    let left_so = after_load (frame_of f) (stood lines) x refl none in
    let calls = map Load left ++ Sheet f.card rows ∷ [] in
    let next = subst (λ (t : Tally). Follows (frame_of f) t calls later) left_so (others h) in
    ap (λ (n : ℕ). told_of f n later) (sym (length_push lines x))
    ∙ told f o rows (lines ++ x ∷ []) left later enough e (append_assoc lines (x ∷ []) left ∙ all) next)

-- a report tells what every run of its calls answers
pub as_run :
    (bytes : List ℕ) (f : Filed) (calls : List Call) (answers : List Answer) → Stands f bytes → Asks f calls
    → Answered (frame_of f) calls answers → report_text bytes ≡ told_of f 0 answers
as_run bytes f calls answers stands asks answered =
    let law = subst (λ (cs : List Call). Answered (frame_of f) cs answers) asks.made answered in
    let calls_made = map Load f.loads ++ Sheet f.card asks.rows ∷ [] in
    let run : Follows (frame_of f) (stood []) calls_made answers = record { one_a_call = law.one_a_call; each = law.each } in
    ap text_of (ap after_frame (taken bytes f stands))
    ∙ sym (told f (shear_denial (length (levels_of f)) f.card) asks.rows [] f.loads answers asks.enough refl refl run)
