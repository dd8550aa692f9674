-- The work arrays hold the lent lists (`Held`), so what `solve` says of them holds of the lent lists (`Agreeing`), and what is written
-- is what it says.
use Rattle.std.proofs.Common.{arith}
use Rattle.core_project.proofs.Agreeing.{ring_fits, solved, ring_given}
use Rattle.core_project.proofs.project.project.Goals as goal

pub copy_front-requires-in-Err : goal.copy_front-requires-in-Err
copy_front-requires-in-Err c =
    let most = ring_fits c.requires c.take.ensures c.in-Err.ensures in
    (c.in-Err.ensures.gaps_room, omega (arith, most, c.requires.ring_room.0))

pub copy_front-requires-in-Err-2 : goal.copy_front-requires-in-Err-2
copy_front-requires-in-Err-2 c =
    let most = ring_fits c.requires c.take.ensures c.in-Err.ensures in
    (c.in-Err.ensures.back_room, omega (arith, most, c.requires.ring_room.1))

pub returns-in-Err : goal.returns-in-Err
returns-in-Err c = ring_given c.requires c.take.ensures c.in-Err.ensures c.copy_front-in-Err.ensures c.copy_front-in-Err-2.ensures

pub returns : goal.returns
returns c =
    solved c.requires c.take.ensures c.in_default.ensures c.fractions_out.ensures c.fractions_out-2.ensures c.copy_front-2.ensures
    (omega (arith, c.requires.listed.limits.gaps_bound, c.take.ensures.gaps))
