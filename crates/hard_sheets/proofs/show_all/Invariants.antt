-- No more calls are counted than three for each byte passed. The measure is how many bytes are left.
use Rattle.std.proofs.Common.{length, ◌+◌, ◌*◌, ◌≤◌}
use Rattle.hard_sheets.proofs.show_all.Given as goal

abbrev pub invariant-loop-entry : goal.invariant-loop-entry
invariant-loop-entry g l = l.ran + 3 * length l.rest ≤ 3 * length l.sheets

abbrev pub decreases-loop-entry : goal.decreases-loop-entry
decreases-loop-entry g l = length l.rest
