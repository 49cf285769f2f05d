use Rattle.std.proofs.Common.{take, sym, ap, ◌∙◌}
use Rattle.order_file.specs.File.{byte_limit, sections, filed}
use Rattle.order_file.specs.Reading.{place}
use Rattle.order_file.proofs.AtFront.{left_shorter}
use Rattle.order_file.proofs.reader.front_of.Goals as goal

pub rest_after-rest-requires : goal.rest_after-rest-requires
rest_after-rest-requires c =
    left_shorter (take byte_limit c.args.text.now) (filed c.in_ok-file.file) (place c.sections.new.self)
    (ap sections (sym c.new-reader.ensures) ∙ c.in_ok-file.ensures)
