-- Records read one after another: what holds while some are read and some are not.
use Rattle.std.proofs.Common.{◌≡◌, ℕ, suc, ◌+◌, ◌-◌, ◌<◌, List, [], ◌∷◌, ◌++◌, Ok, Err, Option, Result, sym, refl, ap, ◌∙◌, append_assoc, arith}
use Rattle.tokens.specs.TextLines.{Left}
use Rattle.tokens.specs.declared.fault.Fault.{Fault}
use Rattle.order_file.specs.Sections.{Place, next, record_line, record_lines}

-- xs stand before what is read further
abbrev pub after : {A : Type 0} → List A → Result (List A × Place) Fault → Result (List A × Place) Fault
after xs (Err e) = Err e
after xs (Ok p) = Ok (xs ++ p.0, p.1)

-- i records of n are read, they are xs, and the reader stands at p
pub record Going {A : Type 0} (f : Left → Option (A × Left)) (n : ℕ) (from : Place) (i : ℕ) (xs : List A) (p : Place) : Type 0 where
  pub left : record_lines f n from ≡ after xs (record_lines f (n - i) p)

after_one : {A : Type 0} (xs : List A) (x : A) (o : Result (List A × Place) Fault) → after xs (next o (λ ys r. Ok (x ∷ ys, r))) ≡ after (xs ++ (x ∷ [])) o
after_one xs x (Err e) = refl
after_one xs x (Ok p) = ap (λ l. Ok (l, p.1)) (sym (append_assoc xs (x ∷ []) p.0))

module _ {A : Type 0} {f : Left → Option (A × Left)} {n : ℕ} {from : Place} {i : ℕ} {xs : List A} {p : Place} (h : Going f n from i xs p) where
  at : (k : ℕ) → n - i ≡ k → record_lines f n from ≡ after xs (record_lines f k p)
  at k e = h.left ∙ ap (λ m. after xs (record_lines f m p)) e

  pub faulty : (e : Fault) → i < n → record_line f p ≡ Err e → record_lines f n from ≡ Err e
  faulty e less bad = at (suc (n - (i + 1))) (omega arith) ∙ ap (λ o. after xs (next o (λ x q. next (record_lines f (n - (i + 1)) q) (λ ys r. Ok (x ∷ ys, r))))) bad

  pub one_more : (x : A) (q : Place) → i < n → record_line f p ≡ Ok (x, q) → Going f n from (i + 1) (xs ++ (x ∷ [])) q
  one_more x q less good = record {
    left =
        at (suc (n - (i + 1))) (omega arith)
        ∙ ap (λ o. after xs (next o (λ y s. next (record_lines f (n - (i + 1)) s) (λ ys r. Ok (y ∷ ys, r))))) good
        ∙ after_one xs x (record_lines f (n - (i + 1)) q);
  }
