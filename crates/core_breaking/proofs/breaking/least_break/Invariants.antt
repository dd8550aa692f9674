-- The best so far is the first of those at positions below k, and can be compared.
use Rattle.core_breaking.specs.Breaking.{candidate_of}
use Rattle.core_breaking.proofs.BreakingPoints.{Best}
use Rattle.core_breaking.proofs.breaking.least_break.Given as goal

abbrev pub invariant-loop-k : goal.invariant-loop-k
invariant-loop-k l = Best l.w.count (candidate_of l.p l.sign l.w l.held l.share) l.best l.k
