-- Each sum is that over the labels passed.
use Rattle.std.proofs.Common.{◌≡◌}
use Rattle.core_elimination.specs.Block.{weight_sum, wanted_sum}
use Rattle.core_elimination.proofs.block.sums.Given as goal

abbrev pub invariant-loop-k : goal.invariant-loop-k
invariant-loop-k l = (l.total ≡ weight_sum l.k l.w.queue l.p.weight) × (l.moment ≡ wanted_sum l.k l.w.queue l.w.off l.p.wanted l.p.weight)
