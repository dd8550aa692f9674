-- The marks left are still a forest that the push holds (`Raising`), and in the chains, and what changed since the start is said.
-- The measure is the count of marked gaps, one less at each turn.
use Rattle.core_forest.specs.Chain.{ChainsOf}
use Rattle.core_settle.specs.Raise.{MarksChanged}
use Rattle.core_settle.proofs.Raising.{Raising, ones}
use Rattle.core_settle.proofs.raise.raise.Given as goal

abbrev pub invariant-loop-e : goal.invariant-loop-e
invariant-loop-e l = Raising l.p l.push l.initial.s.mark l.s.mark × ChainsOf l.p l.s.mark l.chains × MarksChanged l.p l.initial.s l.s

abbrev pub decreases-loop-e : goal.decreases-loop-e
decreases-loop-e l = ones l.p.gaps l.s.mark
