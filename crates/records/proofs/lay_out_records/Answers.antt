-- A list that is too long is refused, and of any other the four lists hold all.
use Rattle.std.proofs.Common.{true, false, length, arith, rules}
use borrow.Author.Tests.{lt-ltb, le-ltb}
use Rattle.records.proofs.Apart.{promise_apart, promise_long}
use Rattle.records.proofs.lay_out_records.Goals as goal
use Rattle.records.proofs.lay_out_records.Goals.{then-crowded, else-crowded}

pub returns-then-count-gt-GAPS : goal.returns-then-count-gt-GAPS
returns-then-count-gt-GAPS c =
    elim c.if-crowded.branch [
      | then-crowded w ↦ promise_long c.args.wanted.now c.args.weight.now c.args.gaps.now _ _ true (omega arith) (lt-ltb 48 (length c.args.wanted.now) (omega arith)) (search rules)
      | else-crowded w ↦ promise_long c.args.wanted.now c.args.weight.now c.args.gaps.now _ _ false (omega arith) (le-ltb 48 (length c.args.wanted.now) (omega arith)) (search rules)
    ]

pub returns : goal.returns
returns c = promise_apart c.args.wanted.now c.args.weight.now c.args.gaps.now _ c.take_apart.ensures c.lay_out.ensures
