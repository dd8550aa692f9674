-- The first k fractions are written in lowest terms, the other entries stay, and the divisor known is one.
use Rattle.core_project.specs.Project.{FractionsWritten}
use Rattle.exact.specs.Divide.{IsDivisor}
use Rattle.core_project.proofs.write.fractions_out.Given as goal

abbrev pub invariant-loop-k : goal.invariant-loop-k
invariant-loop-k l = FractionsWritten l.k l.num l.den l.initial.upper l.initial.lower l.upper l.lower × IsDivisor l.known
