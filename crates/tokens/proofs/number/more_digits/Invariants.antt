use Rattle.std.proofs.Common.{◌≡◌, ◌+◌, ◌^◌, ◌<◌, drop}
use Rattle.tokens.specs.Numbers.{onward}
use Rattle.tokens.proofs.number.more_digits.Given as goal

abbrev pub invariant-loop-digit : goal.invariant-loop-digit
invariant-loop-digit l = (l.value < 10 ^ (l.digit-index + 1)) × (onward l.value (drop l.digit-index l.digits) ≡ onward l.start l.digits)
