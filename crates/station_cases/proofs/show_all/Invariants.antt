-- The measure is how many bytes are left.
use Rattle.std.proofs.Common.{length}
use Rattle.station_cases.proofs.show_all.Given as goal

abbrev pub decreases-loop-entry : goal.decreases-loop-entry
decreases-loop-entry g l = length l.rest
