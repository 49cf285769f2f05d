-- How far down a file its faulty line can be.
use Rattle.std.proofs.Common.{◌≡◌, ℕ, zero, suc, ◌≤◌, List, ◌∷◌, length, take, Err, sym, ap, ◌∙◌, arith, length-append, length-take}
use Rattle.tokens.specs.Faults.{fault_line}
use Rattle.tokens.specs.declared.fault.Fault.{Fault}
use Rattle.tokens.proofs.Cutting.{cut_back}
use Rattle.order_file.specs.File.{Filed, order_file_of}
use Rattle.order_file.specs.First.{Shares}
use Rattle.order_file.specs.Limits.{Fits}
use Rattle.order_file.specs.Render.{render}
use Rattle.order_file.proofs.Begun.{file_begun}
use Rattle.order_file.proofs.FirstBytes.{file_front}
use Rattle.order_file.proofs.Whole.{file_back, file_forth}

-- a file has at least as many bytes as lines that it shares
shared_few : (n : ℕ) (a b : List ℕ) → Shares n a b → n ≤ length b
shared_few zero a b h = omega arith
shared_few (suc n) a b (l, r, s, ea, eb, h) =
    omega (arith, shared_few n r s h, ap length (cut_back 10 b (l, s) eb), length-append l (10 ∷ s))

-- an accepted file is no longer than the first bytes that it is read from
render_short : (f : Filed) → Fits f → length (render f) ≤ 8192
render_short f fits =
    let whole = file_back (take 8192 (render f)) f (sym (file_front (render f)) ∙ file_forth f fits) in
    omega (arith, ap length whole.0, length-take 8192 (render f))

-- the faulty line comes after lines of an accepted file
pub faulty_line_most : (bs : List ℕ) (e : Fault) → order_file_of bs ≡ Err e → fault_line e ≤ 8193
faulty_line_most bs e bad =
    let begun = file_begun bs e bad in
    omega (arith, shared_few _ bs (render begun.0) begun.2, render_short begun.0 begun.1)
