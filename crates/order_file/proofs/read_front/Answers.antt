use Rattle.order_file.specs.File.{sections}
use Rattle.order_file.specs.Front.{FrontAs}
use Rattle.order_file.proofs.AtFront.{front_told, front_exact, front_lines}
use Rattle.order_file.proofs.read_front.Goals as goal

pub returns : goal.returns
returns c =
    let told : FrontAs c.front_of.result (sections (c.args.text.now, 1)) = front_told c.front_of.result c.args.text.now c.front_of.ensures in record {
      told = told;
      exact = front_exact c.front_of.result c.args.text.now told;
      front = c.front_of.ensures;
      lines = front_lines c.front_of.result c.args.text.now told;
    }
