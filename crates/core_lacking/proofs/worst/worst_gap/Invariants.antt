-- What is kept is a gap of the arrays.
use Rattle.std.proofs.Common.{◌<◌}
use Rattle.ground.specs.Limits.{gaps_most}
use Rattle.core_lacking.proofs.worst.worst_gap.Given as goal

abbrev pub invariant-loop-e : goal.invariant-loop-e
invariant-loop-e l = l.worst < gaps_most
