use Rattle.std.proofs.Common.{◌≤◌, length, arith, rules}
use Rattle.order_file.specs.File.{filed}
use Rattle.order_frame.proofs.Blame.{located, found}
use Rattle.order_frame.proofs.refusal_of.Goals as goal

pub unwrap-line-requires : goal.unwrap-line-requires
unwrap-line-requires c =
    let f = filed c.args.file.now in
    let few : length c.args.file.now.levels.items ≤ 24 = omega (arith, c.args.file.now.few_levels, c.args.file.now.levels.ok.0) in
    search (rules, c.record_line.ensures, found f c.args.denial (located f c.args.denial few c.requires))
