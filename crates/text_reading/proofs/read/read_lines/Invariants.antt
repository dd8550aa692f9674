-- `text_reading::read::read_lines` meets its contract. The loop's invariant: the rest of the text decides the outcome
-- (`Reached`). The measure is that rest.
use Rattle.std.proofs.Common.{length, ◌-◌}
use Rattle.text_reading.specs.Works.{lists_in}
use Rattle.text_reading.proofs.ReadLaws.{Reached}
use Rattle.text_reading.proofs.read.read_lines.Given as goal

abbrev pub invariant-loop-from : goal.invariant-loop-from
invariant-loop-from l = Reached l.text l.from l.counts (lists_in l.work)

abbrev pub decreases-loop-from : goal.decreases-loop-from
decreases-loop-from l = length l.text - l.from.at
