use Rattle.std.proofs.Common.{◌≡◌, None, Some, arith}
use Rattle.std.proofs.lemmas.Grind.{common_steps}
use Rattle.std.proofs.lemmas.Result.{err_from_is_err_and}
use Rattle.frames.specs.Tables.{lay_denial}
use Rattle.frames.proofs.Tables.{laid_sound, denied_when}
use Rattle.frames.proofs.typed.check.Goals as goal

pub returns-in_err-stack-clause-law : goal.returns-in_err-stack-clause-law
returns-in_err-stack-clause-law c =
    let ls = c.args.table.now in
    let p = err_from_is_err_and c.from_residual.result c.from_residual.ensures.1 in
    let d = c.in_err-stack.field-0.0 in
    let e : lay_denial ls ≡ Some d = grind (arith, common_steps) in
    rw (p.1, p.2) (denied_when ls d e)

pub returns-clause-law : goal.returns-clause-law
returns-clause-law c =
    let e : lay_denial c.args.table.now ≡ None = grind (arith, common_steps) in
    laid_sound c.args.table.now e
