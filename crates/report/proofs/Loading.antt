-- What the booking of a file's loads says of them.
use Rattle.std.proofs.Common.{◌≡◌, ℕ, ◌+◌, ◌-◌, List, [], ◌∷◌, ◌++◌, length, take, get_or, slice_get, Some, None, Ok, Err, Option, sym, refl, ap, ◌∙◌, subst, inl, inr, append_assoc, append-nil, arith, length-append}
use lib.Seq.{take-append_seam}
use Rattle.std.proofs.lemmas.Bool.{cases_lt}
use Rattle.std.proofs.lemmas.Option.{none-some, same_Some, slice_get_within, get_or_from_slice_get}
use Rattle.records.specs.declared.line.Line.{Line}
use Rattle.tokens.specs.Text.{joined}
use Rattle.frames.specs.Levels.{Sound}
use Rattle.order_file.specs.File.{Filed}
use Rattle.order_file.specs.Lines.{LinedUp, load_line}
use Rattle.order_file.specs.Render.{load_words}
use Rattle.orders.specs.declared.denial.OrderDenial.{OrderDenial}
use Rattle.orders.specs.Calls.{LoadsWhen, LoadDeniedWhen, load_denial}
use Rattle.orders.proofs.Bearing.{Bearing, all_borne, bears_more, bears_none}
use Rattle.orders.proofs.Judging.{load_judged, loads_when}
use Rattle.report.specs.declared.refusal.Refusal.{Refusal}
use Rattle.report.specs.declared.refusal.Refusal.TheVariants.{NoLoad}
use Rattle.report.specs.Laws.{LoadBlamed, Takes}
use Rattle.report.specs.Reports.{frame_of, levels_of, load_refusal, on_line, or_else}

-- an element in the middle of a list
at_seam : {X : Type 0} (xs ys : List X) (x : X) → slice_get (xs ++ x ∷ ys) (length xs) ≡ Some x
at_seam [] ys x = refl
at_seam (z ∷ xs) ys x = at_seam xs ys x

-- the next of a file's loads, where those of `lines` are before it
module _ (f : Filed) (lines later : List Line) (x : Line) (is : lines ++ x ∷ later ≡ f.loads) where
  -- it is the file's load over those
  next_listed : slice_get f.loads (length lines) ≡ Some x
  next_listed = ap (λ (xs : List Line). slice_get xs (length lines)) (sym is) ∙ at_seam lines later x

  -- which are the file's first
  before_next : take (length lines) f.loads ≡ lines
  before_next = ap (take (length lines)) (sym is) ∙ take-append_seam lines (x ∷ later)

  -- and with it they go before the others
  pub with_next : (lines ++ x ∷ []) ++ later ≡ f.loads
  with_next = append_assoc lines (x ∷ []) later ∙ is

  -- where it is taken, so is one load more than before
  takes_next : Takes f (length lines) → LoadsWhen (frame_of f) lines x (Ok tt) → Takes f (length (lines ++ x ∷ []))
  takes_next taken here k y less at =
      elim (cases_lt k (length lines)) [
        | inl earlier ↦ taken k y earlier at
        | inr others ↦
            let same : k ≡ length lines = omega (arith, length-append lines (x ∷ [])) in
            let it : x ≡ y = same_Some x y (sym next_listed ∙ ap (slice_get f.loads) (sym same) ∙ at) in
            let before : take k f.loads ≡ lines = ap (λ (n : ℕ). take n f.loads) same ∙ before_next in
            subst (λ (z : Line). LoadsWhen (frame_of f) (take k f.loads) z (Ok tt)) it
            (subst (λ (ls : List Line). LoadsWhen (frame_of f) ls x (Ok tt)) (sym before) here)
      ]

  -- where it is denied, it is to blame, on its line
  next_blamed :
      (bytes : List ℕ) (d : OrderDenial) → LinedUp f bytes → Takes f (length lines) → LoadDeniedWhen (frame_of f) lines x d
      → LoadBlamed d (load_line f (length lines + 1)) f bytes
  next_blamed bytes d lined taken denied =
      let within = slice_get_within f.loads (length lines) x next_listed in
      let place : length lines + 1 - 1 ≡ length lines = omega arith in
      let read : get_or f.loads (length lines + 1 - 1) x ≡ x =
      ap (λ (n : ℕ). get_or f.loads n x) place ∙ get_or_from_slice_get f.loads (length lines) x x next_listed in
      record {
        before = length lines;
        load = x;
        listed = next_listed;
        line_is = refl;
        held =
            lined.load (length lines + 1) x (omega arith) (omega arith)
            ∙ ap (λ (y : Line). Some (joined (load_words y))) read;
        taken = taken;
        denied = subst (λ (ls : List Line). LoadDeniedWhen (frame_of f) ls x d) (sym before_next) denied;
      }

-- what the booking of the loads says: all are taken, or one is refused, and to blame
abbrev pub LoadsSay : Filed → List ℕ → Option Refusal → Type 0
LoadsSay f bytes None = Takes f (length f.loads)
LoadsSay f bytes (Some r) = (d : OrderDenial) × (line : ℕ) × (r ≡ NoLoad d line) × LoadBlamed d line f bytes

-- by cases on the denial of the next load
say_next :
    (f : Filed) (bytes : List ℕ) (line : ℕ) (o : Option OrderDenial) (later : Option Refusal)
    → (o ≡ None → LoadsSay f bytes later) → ((d : OrderDenial) → o ≡ Some d → LoadBlamed d line f bytes)
    → LoadsSay f bytes (or_else (on_line line o) later)
say_next f bytes line None later taken denied = taken refl
say_next f bytes line (Some d) later taken denied = (d, line, refl, denied d refl)

-- what the booking of those that are left says, where all before them are taken
left_say :
    (f : Filed) (bytes : List ℕ) → LinedUp f bytes → (lines left : List Line) → lines ++ left ≡ f.loads
    → Takes f (length lines) → LoadsSay f bytes (load_refusal f lines left)
left_say f bytes lined lines [] is taken =
    subst (λ (xs : List Line). Takes f (length xs)) (sym (append-nil lines) ∙ is) taken
left_say f bytes lined lines (x ∷ left) is taken =
    let more = lines ++ x ∷ [] in
    say_next f bytes (load_line f (length lines + 1)) (load_denial (frame_of f) lines x) (load_refusal f more left)
    (λ e.
    let taken_too = takes_next f lines left x is taken (loads_when (frame_of f) lines x (Ok tt) e) in
    left_say f bytes lined more left (with_next f lines left x is) taken_too)
    (λ d e. next_blamed f lines left x is bytes d lined taken (loads_when (frame_of f) lines x (Err d) e))

-- of all of them: before the first, none is left to take
pub loads_say : (f : Filed) (bytes : List ℕ) → LinedUp f bytes → LoadsSay f bytes (load_refusal f [] f.loads)
loads_say f bytes lined = left_say f bytes lined [] f.loads refl (λ k x less at. absurd (omega (arith, less)))

-- no load that is taken is to blame
not_blamed :
    (f : Filed) (bytes : List ℕ) (d : OrderDenial) (line : ℕ) → Takes f (length f.loads) → ¬ LoadBlamed d line f bytes
not_blamed f bytes d line taken b =
    let within = slice_get_within f.loads b.before b.load b.listed in
    let lines = take b.before f.loads in
    let none = load_judged (frame_of f) lines b.load (Ok tt) (taken b.before b.load within b.listed) in
    let some = load_judged (frame_of f) lines b.load (Err d) b.denied in
    none-some d (sym none ∙ some)

-- so nothing is refused where all loads are taken
none_refused : (f : Filed) (bytes : List ℕ) (o : Option Refusal) → Takes f (length f.loads) → LoadsSay f bytes o → o ≡ None
none_refused f bytes None taken says = refl
none_refused f bytes (Some r) taken (d, line, is, blamed) = absurd (not_blamed f bytes d line taken blamed)

-- and the booking goes through
pub loads_stand :
    (f : Filed) (bytes : List ℕ) → LinedUp f bytes → Takes f (length f.loads) → load_refusal f [] f.loads ≡ None
loads_stand f bytes lined taken = none_refused f bytes (load_refusal f [] f.loads) taken (loads_say f bytes lined)

-- neither part refuses where the whole does not
none_of :
    (line : ℕ) (o : Option OrderDenial) (later : Option Refusal) → or_else (on_line line o) later ≡ None
    → (o ≡ None) × (later ≡ None)
none_of line None later e = (refl, e)
none_of line (Some d) later e = cc

-- the levels bear loads that are not refused
loads_borne :
    (f : Filed) (lines left : List Line) → lines ++ left ≡ f.loads → Bearing lines (frame_of f)
    → load_refusal f lines left ≡ None → Bearing f.loads (frame_of f)
loads_borne f lines [] is bearing e =
    subst (λ (xs : List Line). Bearing xs (frame_of f)) (sym (append-nil lines) ∙ is) bearing
loads_borne f lines (x ∷ left) is bearing e =
    let more = lines ++ x ∷ [] in
    let p = none_of (load_line f (length lines + 1)) (load_denial (frame_of f) lines x) (load_refusal f more left) e in
    loads_borne f more left (with_next f lines left x is) (bears_more (frame_of f) lines more x bearing p.0 refl) p.1

-- so the levels with the loads on them keep a frame's limits
pub levels_sound : (f : Filed) → Sound (frame_of f) → load_refusal f [] f.loads ≡ None → Sound (levels_of f)
levels_sound f sound e =
    all_borne (frame_of f) f.loads (loads_borne f [] f.loads refl (bears_none (frame_of f) [] sound refl) e)
