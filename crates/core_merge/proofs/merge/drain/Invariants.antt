-- Gaps were wished alone.
use Rattle.core_guess.specs.Guess.{Wished}
use Rattle.core_merge.proofs.merge.drain.Given as goal

abbrev pub invariant-loop : goal.invariant-loop
invariant-loop l = Wished l.p.gaps l.initial.wish l.wish
