-- Each turn wishes one gap more, or none.
use Rattle.core_guess.specs.Guess.{Wished}
use Rattle.core_dual.proofs.dual.wish_all.Given as goal

abbrev pub invariant-loop-i : goal.invariant-loop-i
invariant-loop-i l = Wished l.gaps l.initial.wish l.wish
