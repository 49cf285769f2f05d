use Rattle.std.proofs.Common.{ap, sym, codes, arith}
use Rattle.call_lines.specs.Words.{word_named}
use Rattle.call_lines.proofs.Words.{spelt}
use Rattle.call_lines.proofs.word.named.Goals as goal

pub returns-in-STRIKE : goal.returns-in-STRIKE
returns-in-STRIKE c = ap word_named (sym (spelt c.args.mark.now (codes "STRIKE") (omega arith) (omega arith, (omega arith, (omega arith, (omega arith, (omega arith, (omega arith, tt))))))))

pub returns-in-REOPEN : goal.returns-in-REOPEN
returns-in-REOPEN c = ap word_named (sym (spelt c.args.mark.now (codes "REOPEN") (omega arith) (omega arith, (omega arith, (omega arith, (omega arith, (omega arith, (omega arith, tt))))))))

pub returns-in-ABANDON : goal.returns-in-ABANDON
returns-in-ABANDON c = ap word_named (sym (spelt c.args.mark.now (codes "ABANDON") (omega arith) (omega arith, (omega arith, (omega arith, (omega arith, (omega arith, (omega arith, (omega arith, tt)))))))))

pub returns-in-RELEASE : goal.returns-in-RELEASE
returns-in-RELEASE c = ap word_named (sym (spelt c.args.mark.now (codes "RELEASE") (omega arith) (omega arith, (omega arith, (omega arith, (omega arith, (omega arith, (omega arith, (omega arith, tt)))))))))

pub returns-in-STANDING : goal.returns-in-STANDING
returns-in-STANDING c = ap word_named (sym (spelt c.args.mark.now (codes "STANDING") (omega arith) (omega arith, (omega arith, (omega arith, (omega arith, (omega arith, (omega arith, (omega arith, (omega arith, tt))))))))))
