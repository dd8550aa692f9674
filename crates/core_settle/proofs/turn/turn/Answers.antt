-- What the calls of a turn say, put together.
use Rattle.ground.proofs.Copying.{filled_start}
use Rattle.core_balance.proofs.Placing.{limits_kind}
use Rattle.core_standing.proofs.Standing.{comparable}
use Rattle.std.proofs.Common.{[]}
use Rattle.core_settle.proofs.Turning.{pushing, turn_waits, turn_again, turn_climbs, turn_ring}
use Rattle.core_settle.proofs.Outlying.{outlying_then, outlying_raised, outlying_balanced}
use Rattle.core_settle.proofs.turn.turn.Goals as goal

pub worst_gap-requires : goal.worst_gap-requires
worst_gap-requires c = let s = c.args.s.now in comparable c.requires.0 s.mark s.num s.den c.requires.1.found

pub raise-requires : goal.raise-requires
raise-requires c =
    let q = pushing c.requires.0 c.requires.1 c.in-Some.ensures c.push_of-push.ensures in
    (c.requires.0, q.gap_in, q.from_in, q.to_in, q.reach_most)

-- the gap is marked
pub rebalance-requires : goal.rebalance-requires
rebalance-requires c =
    let lim = c.requires.0 in
    let st = c.requires.1 in
    let q = pushing lim st c.in-Some.ensures c.push_of-push.ensures in
    let r = c.raise.ensures in
    let w = turn_waits lim st q c.raise.new.s r.0 c.if-raise.true r.1 in
    (limits_kind [] lim, w.0, w.1)

pub returns-then-raise : goal.returns-then-raise
returns-then-raise c =
    let lim = c.requires.0 in
    let st = c.requires.1 in
    let q = pushing lim st c.in-Some.ensures c.push_of-push.ensures in
    let r = c.raise.ensures in
    let b = c.rebalance.ensures in (
      turn_again lim st q c.raise.new.s r.0 c.if-raise.true c.rebalance.new.s b.3 b.0,
      outlying_then (outlying_raised lim r.1) (outlying_balanced b.3 b.2),
      (filled_start 0 _, filled_start 0 _),
    )

-- nothing gives way
pub way-requires : goal.way-requires
way-requires c =
    let lim = c.requires.0 in
    let st = c.requires.1 in
    let q = pushing lim st c.in-Some.ensures c.push_of-push.ensures in
    turn_climbs lim st q c.raise.new.s c.raise.ensures.0 c.if-raise.false

pub returns : goal.returns
returns c =
    let lim = c.requires.0 in
    let st = c.requires.1 in
    let q = pushing lim st c.in-Some.ensures c.push_of-push.ensures in
    let r = c.raise.ensures in (
      (turn_ring lim st q c.raise.new.s r.0 c.if-raise.false c.way.ensures.0, record { before = c.args.s.now; stood = st; changed = r.1 }),
      outlying_raised lim r.1,
      c.way.ensures.1,
    )
