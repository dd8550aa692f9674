-- The loop's invariant: what is said is right of the gaps passed.
use Rattle.std.proofs.Common.{◌≡◌}
use Rattle.core_guess.specs.Guess.{any_marked}
use Rattle.core_guess.proofs.marks.any_marked.Given as goal

abbrev pub invariant-loop-e : goal.invariant-loop-e
invariant-loop-e l = l.some ≡ any_marked l.e l.carried
