use Rattle.std.proofs.Common.{ap, take, ◌∙◌}
use Rattle.std.proofs.lemmas.List.{take_min}
use Rattle.order_file.specs.File.{byte_limit}
use Rattle.order_file.proofs.reader.first_bytes.Goals as goal

pub returns-clause-bytes : goal.returns-clause-bytes
returns-clause-bytes c = ap (λ n. take n c.args.text.now) c.min.ensures ∙ take_min byte_limit c.args.text.now
