-- exact/proofs/divide/lowest/Answers.antt
-- Where none is known, the divisor is that of 0/1.
use Rattle.std.proofs.Common.{rules}
use Rattle.exact.proofs.Divisor.{none_divides}
use Rattle.exact.proofs.divide.lowest.Goals as goal

pub divisor-requires : goal.divisor-requires
divisor-requires c = (search rules, rw c.no_divisor.ensures none_divides)
