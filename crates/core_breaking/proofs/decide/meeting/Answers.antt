-- Every part is small enough for 64 bits, so it is read back as it was written.
use Rattle.std.proofs.Common.{arith}
use Rattle.core_elimination.proofs.Ranges.{fit, word}
use Rattle.core_breaking.proofs.DecideLaws.{second, ahead, third, gap, met}
use Rattle.core_breaking.proofs.decide.meeting.Goals as goal

pub overflow_mul-result-2 : goal.overflow_mul-result-2
overflow_mul-result-2 c = fit (second c.args.h c.args.one c.args.two c.requires.0 c.requires.1 c.requires.2) (omega arith)

pub overflow_add-result : goal.overflow_add-result
overflow_add-result c = fit (ahead c.args.h c.args.one c.args.two c.requires.0 c.requires.1 c.requires.2) (omega arith)

pub overflow_mul-result-3 : goal.overflow_mul-result-3
overflow_mul-result-3 c = fit (third c.args.h c.args.one c.args.two c.requires.0 c.requires.1 c.requires.2) (omega arith)

pub overflow_sub-result : goal.overflow_sub-result
overflow_sub-result c = fit (gap c.args.h c.args.one c.args.two c.requires.0 c.requires.1 c.requires.2) (omega arith)

pub overflow_mul-result-4 : goal.overflow_mul-result-4
overflow_mul-result-4 c = fit (met c.args.h c.args.one c.args.two c.requires.0 c.requires.1 c.requires.2) (omega arith)

pub returns : goal.returns
returns c = (word (met c.args.h c.args.one c.args.two c.requires.0 c.requires.1 c.requires.2) (omega arith)).is
