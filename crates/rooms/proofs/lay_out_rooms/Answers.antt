-- The promises are about the buffers that were lent, of which the rooms are made.
use Rattle.std.proofs.Common.{arith, rules, w64}
use mir.ValLaws.{to_z-of_z}
use Rattle.rooms.proofs.AsLeft.{fronted}
use Rattle.rooms.proofs.lay_out_rooms.Goals as goal

pub returns : goal.returns
returns c =
    let told = c.lay_out_both_array-answers in
    let lists = fronted c.args.count told.new.carried c.args.carried (search rules) (omega arith) in
    let records = fronted c.args.count told.new.second_carried c.args.carried2 (search rules) (omega arith) in
    rw (c.from.ensures, c.from-2.ensures, lists.front, records.front) (rw (c.filled-first.ensures, c.filled-second.ensures, to_z-of_z w64 c.args.fill c.ranges.fill, c.from.ensures, c.from-2.ensures) at told.ensures, lists.beyond, records.beyond)
