-- The walk stays in the arrays.
use Rattle.std.proofs.Common.{◌<◌}
use Rattle.core_links.specs.Room.{room}
use Rattle.core_joining.proofs.joining.move_labels.Given as goal

abbrev pub invariant-loop : goal.invariant-loop
invariant-loop l = l.i < room
