-- The labels passed hold their weight.
use Rattle.ground.specs.Entries.{int}
use Rattle.core_elimination.proofs.Loops.{Filled}
use Rattle.core_elimination.proofs.block.shares.Given as goal

abbrev pub invariant-loop-k : goal.invariant-loop-k
invariant-loop-k l = Filled l.w.count l.w.queue (int l.p.weight) l.initial.held l.k l.held
