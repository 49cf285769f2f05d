use Rattle.std.proofs.Common.{◌≤◌, length, arith}
use Rattle.order_file.specs.File.{filed}
use Rattle.order_frame.proofs.Blame.{blamed_on}
use Rattle.order_frame.proofs.frame_of.Goals as goal

pub returns-clause-blame : goal.returns-clause-blame
returns-clause-blame c =
    let few : length c.args.file.now.levels.items ≤ 24 = omega (arith, c.args.file.now.few_levels, c.args.file.now.levels.ok.0) in
    λ bytes lines. blamed_on (filed c.args.file.now) bytes c.frame_or_refusal.result lines few c.frame_or_refusal.ensures
