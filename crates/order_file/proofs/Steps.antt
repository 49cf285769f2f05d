-- One part of a file after another.
use Rattle.std.proofs.Common.{◌≡◌, ℕ, Bool, true, false, cond, List, Some, Ok, Err, Option, Result, refl, ap}
use Rattle.std.specs.Option.{option_map}
use Rattle.tokens.specs.TextLines.{Left}
use Rattle.tokens.specs.declared.fault.Fault.{Fault}
use Rattle.order_file.specs.Sections.{Place, next, numbered_line, to_the_end, laid_out}

pub err_ok : {A E P : Type 0} {x : A} {e : E} → ◌≡◌ {A = Result A E} (Err e) (Ok x) → P
err_ok {x = x} {e = e} h = cc

pub ok_same : {A E : Type 0} {x y : A} → ◌≡◌ {A = Result A E} (Ok x) (Ok y) → x ≡ y
ok_same {x = x} {y = y} h = cc

pub err_same : {A E : Type 0} {x y : E} → ◌≡◌ {A = Result A E} (Err x) (Err y) → x ≡ y
err_same {x = x} {y = y} h = cc

-- a test that was passed
pub cond_ok : {A : Type 0} (b : Bool) (o : Result A Fault) (e : Fault) (x : A) → cond b o (Err e) ≡ Ok x → (b ≡ true) × (o ≡ Ok x)
cond_ok true o e x h = (refl, h)
cond_ok false o e x h = err_ok h

-- the first part is read
pub go_on : {A B : Type 0} {o : Result (A × Place) Fault} (k : A → Place → Result B Fault) {x : A} {q : Place} → o ≡ Ok (x, q) → next o k ≡ k x q
go_on k e = ap (λ t. next t k) e

-- both parts are read
pub and_next : {A B P : Type 0} (o : Result (A × Place) Fault) (k : A → Place → Result B Fault) (y : B) → next o k ≡ Ok y → ((x : A) (q : Place) → o ≡ Ok (x, q) → k x q ≡ Ok y → P) → P
and_next (Ok p) k y h go = go p.0 p.1 refl h
and_next (Err e) k y h go = err_ok h

-- the first part is faulty, or the second
pub or_next : {A B P : Type 0} (o : Result (A × Place) Fault) (k : A → Place → Result B Fault) (e : Fault) → next o k ≡ Err e → (o ≡ Err e → P) → ((x : A) (q : Place) → o ≡ Ok (x, q) → k x q ≡ Err e → P) → P
or_next (Ok p) k e h first second = second p.0 p.1 refl h
or_next (Err d) k e h first second = first (ap Err (err_same h))

-- a line is cut there, and judged
abbrev pub by_line : {A : Type 0} → (Left → Place → Result (A × Place) Fault) → ℕ → Option (List ℕ × List ℕ) → Result (A × Place) Fault
by_line k n o = next (numbered_line n (option_map (λ c. (Some c.0, c.1)) o)) k

-- it is a record
abbrev pub cut_line : {A : Type 0} → (Left → Option (A × Left)) → ℕ → Option (List ℕ × List ℕ) → Result (A × Place) Fault
cut_line f n o = by_line (λ ws q. laid_out n q (to_the_end (f ws))) n o
