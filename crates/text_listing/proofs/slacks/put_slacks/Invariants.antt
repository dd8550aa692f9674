-- `text_listing::slacks::put_slacks` meets its contract. The loop's invariant: the records of the first gaps are put, each within its room.
use Rattle.std.proofs.Common.{length, take, ◌+◌, ◌*◌, ◌≤◌}
use Rattle.text_listing.specs.Appended.{Appended}
use Rattle.text_listing.specs.Listing.{listable_of, slack_room, slack_records}
use Rattle.text_listing.proofs.slacks.put_slacks.Given as goal

abbrev pub invariant-loop-e : goal.invariant-loop-e
invariant-loop-e l =
    Appended (take l.initial.text.end l.initial.text.bytes) (slack_records l.e (listable_of l.lent)) (take l.text.end l.text.bytes)
    × (length (take l.text.end l.text.bytes) ≤ length (take l.initial.text.end l.initial.text.bytes) + slack_room * l.e)
