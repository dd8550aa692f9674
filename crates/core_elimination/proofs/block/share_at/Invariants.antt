-- The labels passed hold the share or nothing.
use Rattle.core_elimination.specs.Block.{only_at}
use Rattle.core_elimination.proofs.Loops.{Filled}
use Rattle.core_elimination.proofs.block.share_at.Given as goal

abbrev pub invariant-loop-k : goal.invariant-loop-k
invariant-loop-k l = Filled l.w.count l.w.queue (only_at l.v.0 l.share) l.initial.held l.k l.held
