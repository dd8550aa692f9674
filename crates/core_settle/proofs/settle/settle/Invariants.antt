-- The marks are a forest in balance, and the labels stand where it puts them, with its multipliers. The measure falls as the cost grows.
use Rattle.std.proofs.Common.{◌≡◌}
use Rattle.core_standing.specs.Standing.{StandingState}
use Rattle.core_settle.specs.Settle.{Outlying}
use Rattle.least_move.specs.States.{measure}
use Rattle.ground.specs.Entries.{int}
use Rattle.core_forest.specs.Problem.{numbers_of}
use Rattle.core_settle.proofs.settle.settle.Given as goal

abbrev pub invariant-loop-found : goal.invariant-loop-found
invariant-loop-found l = StandingState l.p l.s × Outlying l.p l.initial.s l.s × (l.ring ≡ l.initial.ring)

abbrev pub decreases-loop-found : goal.decreases-loop-found
decreases-loop-found l = measure (numbers_of l.p) (int l.s.num) (int l.s.den)
