-- The lead is the worst of the gaps passed.
use Rattle.core_worst_gap.specs.WorstGap.{WorstOf, lead_of}
use Rattle.core_worst_gap.proofs.worst_gap.Given as goal

abbrev pub invariant-loop-k : goal.invariant-loop-k
invariant-loop-k l = WorstOf l.p l.num l.den l.k (lead_of l.lead)
