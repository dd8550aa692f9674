-- The labels passed hold what they lack of their balance, times the sign.
use Rattle.std.proofs.Common.{◌*ℤ◌}
use Rattle.core_elimination.specs.Block.{surplus_at}
use Rattle.core_elimination.proofs.Loops.{Filled}
use Rattle.core_elimination.proofs.block.surplus.Given as goal

abbrev pub invariant-loop-k : goal.invariant-loop-k
invariant-loop-k l = Filled l.w.count l.w.queue (λ x. l.sign *ℤ surplus_at l.s l.w.off l.p.wanted l.p.weight x) l.initial.held l.k l.held
