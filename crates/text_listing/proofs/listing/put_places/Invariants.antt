-- `text_listing::listing::put_places` meets its contract. The loop's invariant: the records of the first labels are put, each within its room.
use Rattle.std.proofs.Common.{length, take, ◌≡◌, ◌*◌, ◌≤◌}
use Rattle.text_listing.specs.Listing.{place_room, place_records, unit_at}
use Rattle.text_listing.proofs.listing.put_places.Given as goal

abbrev pub invariant-loop-label : goal.invariant-loop-label
invariant-loop-label l =
    (take l.text.end l.text.bytes ≡ place_records l.label l.place_num l.place_den (unit_at l.place_num l.place_den))
    × (length (take l.text.end l.text.bytes) ≤ place_room * l.label)
