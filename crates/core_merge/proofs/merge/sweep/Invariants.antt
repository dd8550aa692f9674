-- Gaps were wished alone.
use Rattle.core_guess.specs.Guess.{Wished}
use Rattle.core_merge.proofs.merge.sweep.Given as goal

abbrev pub invariant-loop-i : goal.invariant-loop-i
invariant-loop-i l = Wished l.p.gaps l.initial.wish l.wish
