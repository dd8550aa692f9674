-- The promise is about the buffers that were lent, of which the room is made.
use Rattle.std.proofs.Common.{arith, rules, w64}
use mir.ValLaws.{to_z-of_z}
use Rattle.rooms.proofs.AsLeft.{fronted}
use Rattle.rooms.proofs.lay_out_room.Goals as goal

pub returns : goal.returns
returns c =
    let told = c.lay_out_array-answer in
    let left = fronted c.args.count told.new.carried c.args.carried (search rules) (omega arith) in
    rw (c.from.ensures, left.front) (rw (c.filled-room.ensures, to_z-of_z w64 c.args.fill c.ranges.fill, c.from.ensures) at told.ensures, left.beyond)
