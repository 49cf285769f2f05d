-- Stiffnesses read one after another: what holds while some are read and some are not.
use Rattle.std.proofs.Common.{◌≡◌, ℕ, suc, ◌+◌, ◌-◌, ◌<◌, ◌≤◌, true, false, List, [], ◌∷◌, ◌++◌, map, Some, None, Option, refl, sym, ap, ◌∙◌, append_assoc, append-nil, arith}
use Rattle.seismic.specs.declared.axis.Axis.{Axis}
use Rattle.tokens.specs.Fields.{as_number}
use Rattle.tokens.specs.TextLines.{Left, then, next_field, none_left}
use Rattle.call_lines.specs.Lines.{axis_of, axes_of, numbers}

-- an axis each
abbrev made_axes : Option (List ℕ × Left) → Option (List Axis × Left)
made_axes o = then o (λ p. Some (map axis_of p.0, p.1))

-- one stiffness stands before the others
abbrev with_first : ℕ → Option (List ℕ × Left) → Option (List ℕ × Left)
with_first k o = then o (λ q. Some (k ∷ q.0, q.1))

-- a stiffness, and up to n others
abbrev and_more : ℕ → Option (ℕ × Left) → Option (List ℕ × Left)
and_more n o = then o (λ p. with_first p.0 (numbers n p.1))

-- these axes stand before what is read further
abbrev pub after_axes : List Axis → Option (List Axis × Left) → Option (List Axis × Left)
after_axes made None = None
after_axes made (Some p) = Some (made ++ p.0, p.1)

-- i stiffnesses of up to n are read, they made these axes, and ws is left
pub record Going (n : ℕ) (from : Left) (i : ℕ) (made : List Axis) (ws : Left) : Type 0 where
  pub left : axes_of n from ≡ after_axes made (axes_of (n - i) ws)

-- none is read yet
pub at_start : (n : ℕ) (from : Left) → Going n from 0 [] from
at_start n from = record { left = none (axes_of n from) ∙ ap (λ m. after_axes [] (axes_of m from)) (let e : n ≡ n - 0 = omega arith in e) }
  where
    none : (o : Option (List Axis × Left)) → o ≡ after_axes [] o
    none None = refl
    none (Some p) = refl

-- nothing further is read
no_more : (made : List Axis) (ws : Left) → after_axes made (Some ([], ws)) ≡ Some (made, ws)
no_more made ws = ap (λ (l : List Axis). Some (l, ws)) (append-nil made)

-- where the line is over
over : (n : ℕ) (made : List Axis) (ws : Left) → none_left ws ≡ true → after_axes made (axes_of n ws) ≡ Some (made, ws)
over n made None h = no_more made None
over n made (Some bs) h = cc

-- where no more may follow
full : (made : List Axis) (ws : Left) → after_axes made (axes_of 0 ws) ≡ Some (made, ws)
full made None = no_more made None
full made (Some bs) = no_more made (Some bs)

-- where the next word is no number
no_number : (n : ℕ) (ws : Left) → none_left ws ≡ false → next_field as_number ws ≡ None → axes_of (suc n) ws ≡ None
no_number n None h e = cc
no_number n (Some bs) h e = ap (λ o. made_axes (and_more n o)) e

-- where it is one
number : (n : ℕ) (made : List Axis) (ws : Left) (k : ℕ) (vs : Left) → none_left ws ≡ false → next_field as_number ws ≡ Some (k, vs) → after_axes made (axes_of (suc n) ws) ≡ after_axes (made ++ (axis_of k ∷ [])) (axes_of n vs)
number n made None k vs h e = cc
number n made (Some bs) k vs h e =
    ap (λ o. after_axes made (made_axes (and_more n o))) e
    ∙ one (numbers n vs)
  where
    one : (o : Option (List ℕ × Left)) → after_axes made (made_axes (with_first k o)) ≡ after_axes (made ++ (axis_of k ∷ [])) (made_axes o)
    one None = refl
    one (Some q) = ap (λ (l : List Axis). Some (l, q.1)) (sym (append_assoc made (axis_of k ∷ []) (map axis_of q.0)))

module _ {n : ℕ} {from : Left} {i : ℕ} {made : List Axis} {ws : Left} (h : Going n from i made ws) where
  at : (m : ℕ) → n - i ≡ m → axes_of n from ≡ after_axes made (axes_of m ws)
  at m e = h.left ∙ ap (λ l. after_axes made (axes_of l ws)) e

  pub ended : none_left ws ≡ true → axes_of n from ≡ Some (made, ws)
  ended e = h.left ∙ over (n - i) made ws e

  pub filled : n ≤ i → axes_of n from ≡ Some (made, ws)
  filled e = at 0 (omega arith) ∙ full made ws

  pub faulty : i < n → none_left ws ≡ false → next_field as_number ws ≡ None → axes_of n from ≡ None
  faulty less some bad = at (suc (n - (i + 1))) (omega arith) ∙ ap (after_axes made) (no_number (n - (i + 1)) ws some bad)

  pub one_more : (k : ℕ) (vs : Left) → i < n → none_left ws ≡ false → next_field as_number ws ≡ Some (k, vs) → Going n from (i + 1) (made ++ (axis_of k ∷ [])) vs
  one_more k vs less some good = record { left = at (suc (n - (i + 1))) (omega arith) ∙ number (n - (i + 1)) made ws k vs some good }
