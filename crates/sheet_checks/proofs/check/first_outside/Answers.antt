-- The search goes on from number to number, and answers the first that is outside.
use Rattle.std.proofs.Common.{arith, rules, pos, to_z-of_z}
use borrow.Author.Count.{below_more}
use Rattle.sheet_checks.specs.Refusals.{outside}
use Rattle.sheet_checks.proofs.CheckLaws.{search_found, search_none}
use Rattle.sheet_checks.proofs.check.first_outside.Goals.{then-list-place-via-then-list-place, then-list-place-via-else-list-place+then-most-list}
use Rattle.sheet_checks.proofs.check.first_outside.Goals as goal

pub returns-then-list-place : goal.returns-then-list-place
returns-then-list-place c =
    let clear = rw (to_z-of_z c.ranges.least, to_z-of_z c.ranges.most) at c.loop-place.invariant in
    search_found (outside c.args.least c.args.most) c.args.list.now (pos 0) clear (omega arith)
    (elim c.then-list-place.branch [
      | then-list-place-via-then-list-place w ↦ search rules
      | then-list-place-via-else-list-place+then-most-list w ↦ search rules
    ])

pub loop-place-preserved : goal.loop-place-preserved
loop-place-preserved c = below_more _ _ c.loop-place.invariant (search rules)

pub returns : goal.returns
returns c =
    let clear = rw (to_z-of_z c.ranges.least, to_z-of_z c.ranges.most) at c.loop-place.invariant in
    search_none (outside c.args.least c.args.most) c.args.list.now (pos 0) clear (omega arith)
