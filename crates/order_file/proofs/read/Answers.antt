use Rattle.std.proofs.Common.{refl, subst}
use Rattle.order_file.specs.File.{ReadAs}
use Rattle.order_file.proofs.FirstBytes.{file_front}
use Rattle.order_file.proofs.Laws.{exactly, standing}
use Rattle.order_file.proofs.read.Goals as goal

pub returns : goal.returns
returns c = record {
  told = c.read_file.ensures;
  exact = exactly c.read_file.result c.args.file.now c.read_file.ensures;
  front = subst (ReadAs c.read_file.result) (file_front c.args.file.now) c.read_file.ensures;
  size = refl;
  lines = standing c.read_file.result c.args.file.now c.read_file.ensures;
}
