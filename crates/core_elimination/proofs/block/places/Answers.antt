-- Each label's numerator fits, and is read back as it was written.
use Rattle.std.proofs.Common.{arith}
use Rattle.ground.specs.Entries.{nat, int}
use Rattle.core_elimination.proofs.Ranges.{fit, word, same, times, total_word, numerator_word}
use Rattle.core_elimination.proofs.Loops.{fill_more}
use Rattle.core_elimination.proofs.block.places.Goals as goal

pub overflow_mul-num : goal.overflow_mul-num
overflow_mul-num c =
    let o = c.requires.2 c.loop-k.k c.loop-k-test.true in
    fit (times (word (same (int c.args.w.now.off (nat c.args.w.now.queue c.loop-k.k)) o) (omega arith)) (total_word c.requires.1)) (omega arith)

pub overflow_add-num : goal.overflow_add-num
overflow_add-num c = fit (numerator_word c.requires.1 (int c.args.w.now.off (nat c.args.w.now.queue c.loop-k.k)) (c.requires.2 c.loop-k.k c.loop-k-test.true)) (omega arith)

pub loop-k-preserved : goal.loop-k-preserved
loop-k-preserved c =
    let h = c.loop-k-test.true in
    let num = word (numerator_word c.requires.1 (int c.args.w.now.off (nat c.args.w.now.queue c.loop-k.k)) (c.requires.2 c.loop-k.k h)) (omega arith) in
    (fill_more _ c.requires.0 h num.is c.loop-k.invariant.0, fill_more _ c.requires.0 h (total_word c.requires.1).is c.loop-k.invariant.1)
