-- The greatest common divisor of what is left is that of the two numbers given. The measure is the second number left.
use Rattle.std.proofs.Common.{ℕ}
use Rattle.exact.specs.Divide.{GreatestCommonDivisor}
use Rattle.exact.proofs.divide.gcd.Given as goal

abbrev pub invariant-loop-y : goal.invariant-loop-y
invariant-loop-y l = (g : ℕ) → GreatestCommonDivisor l.x l.y g → GreatestCommonDivisor l.a l.b g

abbrev pub decreases-loop-y : goal.decreases-loop-y
decreases-loop-y l = l.y
