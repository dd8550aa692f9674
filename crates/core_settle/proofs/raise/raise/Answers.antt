-- Each turn marks one gap less; what an advance gives says what the marks come to.
use Rattle.std.proofs.Common.{◌<◌, length, arith}
use Rattle.core_forest.proofs.Chains.{chained_drop}
use Rattle.core_settle.proofs.Raising.{changed_more, ones_drop, raised_reached, raised_ring, raising_drop}
use Rattle.core_settle.proofs.raise.raise.Goals as goal

pub loop-e-smaller : goal.loop-e-smaller
loop-e-smaller c =
    let d = c.in-Dropped.ensures.0 in
    let i = c.loop-e.invariant in
    let within : c.in-Dropped.e.0 < length c.loop-e.s.mark = omega (arith, d.gap_in, c.requires.0.gaps_bound, i.0.whole) in
    rw c.change_mark.ensures.changed.marks (ones_drop c.args.p.now.gaps c.loop-e.s.mark c.in-Dropped.e.0 d.gap_in within d.marked)

pub loop-e-preserved : goal.loop-e-preserved
loop-e-preserved c =
    let d = c.in-Dropped.ensures.0 in
    let i = c.loop-e.invariant in
    let ch = c.change_mark.ensures in
    let lim = c.requires.0 in
    let e = c.in-Dropped.e.0 in
    let within : e < length c.loop-e.s.mark = omega (arith, d.gap_in, lim.gaps_bound, i.0.whole) in (
      rw ch.changed.marks (raising_drop lim.gaps_bound i.0 d),
      rw ch.changed.marks (record { by_left = chained_drop e within i.1.by_left; by_right = chained_drop e within i.1.by_right }),
      changed_more lim d.gap_in i.2 ch,
    )

pub returns-in-Reached : goal.returns-in-Reached
returns-in-Reached c =
    let lim = c.requires.0 in
    let i = c.loop-e.invariant in
    let ch = c.change_mark-in-Reached.ensures in
    (rw ch.changed.marks (raised_reached c.args.gap.0 lim c.requires.1 i.0 c.in-Reached.ensures.0), changed_more lim c.requires.1 i.2 ch)

pub returns-in-Ring : goal.returns-in-Ring
returns-in-Ring c = let i = c.loop-e.invariant in (raised_ring c.args.gap.0 i.0 c.in-Ring.ensures.0, i.2)
