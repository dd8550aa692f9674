-- A label's parts of W and P fit, and so do the sums with them.
use Rattle.std.proofs.Common.{sym, arith}
use Rattle.algebra.proofs.Sum.{sum_none}
use Rattle.core_elimination.proofs.Loops.{sum_next}
use Rattle.core_elimination.proofs.Ranges.{fit, word, moment_word, weight_more, wanted_more}
use Rattle.core_elimination.proofs.block.sums.Goals as goal

pub loop-k-init : goal.loop-k-init
loop-k-init c = (sym (sum_none _), sym (sum_none _))

pub overflow_add-total : goal.overflow_add-total
overflow_add-total c = fit (weight_more c.requires.1 _ c.loop-k-test.true c.requires.0.count_most _ c.loop-k.invariant.0) (omega arith)

pub overflow_mul-moment : goal.overflow_mul-moment
overflow_mul-moment c = fit (moment_word c.requires.1 _ c.loop-k-test.true) (omega arith)

pub overflow_add-moment : goal.overflow_add-moment
overflow_add-moment c = fit (wanted_more c.requires.1 _ c.loop-k-test.true c.requires.0.count_most _ c.loop-k.invariant.1) (omega arith)

pub loop-k-preserved : goal.loop-k-preserved
loop-k-preserved c =
    let r = c.requires.1 in
    let h = c.loop-k-test.true in
    let most = c.requires.0.count_most in (
      sum_next _ _ (word (weight_more r _ h most _ c.loop-k.invariant.0) (omega arith)).is,
      sum_next _ _ (word (wanted_more r _ h most _ c.loop-k.invariant.1) (omega arith)).is,
    )
