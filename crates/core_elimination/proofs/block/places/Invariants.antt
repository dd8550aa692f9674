-- The labels passed have their numerator and denominator.
use Rattle.core_elimination.specs.Block.{numerator}
use Rattle.core_elimination.proofs.Loops.{Filled}
use Rattle.core_elimination.proofs.block.places.Given as goal

abbrev pub invariant-loop-k : goal.invariant-loop-k
invariant-loop-k l =
    Filled l.w.count l.w.queue (numerator l.s l.w.off) l.initial.num l.k l.num × Filled l.w.count l.w.queue (λ x. l.s.weight) l.initial.den l.k l.den
