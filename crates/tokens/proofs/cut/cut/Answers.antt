use Rattle.std.proofs.Common.{◌≡◌, ◌+◌, eqb, take, Some, ap, sym, ◌∙◌, rules, tests}
use Rattle.std.specs.List.{position}
use Rattle.std.specs.Option.{option_map}
use Rattle.std.proofs.lemmas.Iterator.{YieldsList-from_slice}
use Rattle.std.proofs.lemmas.Iterator.Search.{position_from_yields_List}
use Rattle.std.proofs.lemmas.List.{take_rest}
use Rattle.tokens.proofs.Cutting.{cut_at-position}
use Rattle.tokens.proofs.cut.cut.Goals.{After-position}
use Rattle.tokens.proofs.cut.cut.Goals as goal

found : (c : After-position) → c.position.result ≡ position (λ b. eqb b c.args.stop) c.args.bytes.now
found c = position_from_yields_List (λ b. eqb b c.args.stop) _ _ c.position.result c.position.ensures.ran (YieldsList-from_slice c.args.bytes.now cc) (λ x b q k. search (rules, tests))

pub returns-in_err-n : goal.returns-in_err-n
returns-in_err-n c =
    let at = (goal.at.returns-in_err-n c).After-position in
    ap (option_map _) c.from_residual.ensures ∙ sym (cut_at-position c.args.stop c.args.bytes.now _ (sym c.in_err-n.was ∙ found at))

pub returns : goal.returns
returns c =
    let at = (goal.at.returns c).After-position in
    let n = c.in_ok-n.n in
    let bs = c.args.bytes.now in
    ap (λ t. Some (take n bs, t)) (take_rest bs (n + 1)) ∙ sym (cut_at-position c.args.stop bs _ (sym c.in_ok-n.was ∙ found at))
