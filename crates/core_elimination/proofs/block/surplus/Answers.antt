-- What a label lacks is small at each step, and is read back as it was written.
use Rattle.std.proofs.Common.{arith, ◌∙◌, ap, sym, ℤ, ◌*ℤ◌}
use Rattle.ground.specs.Entries.{nat, int}
use Rattle.core_elimination.specs.Block.{surplus_at}
use Rattle.core_elimination.proofs.Loops.{fill_more}
use Rattle.core_elimination.proofs.Ranges.{fit, word, times, off_word, total_word, numerator_word, wanted_times, lack_word, weighed_word, surplus_word, signed_word, sign_word}
use Rattle.core_elimination.proofs.block.surplus.Goals as goal

pub overflow_mul-lack : goal.overflow_mul-lack
overflow_mul-lack c = fit (times (off_word c.requires.1 c.loop-k.k c.loop-k-test.true) (total_word c.requires.2)) (omega arith)

pub overflow_add-lack : goal.overflow_add-lack
overflow_add-lack c = fit (numerator_word c.requires.2 (int c.args.w.now.off (nat c.args.w.now.queue c.loop-k.k)) (c.requires.1.off_most c.loop-k.k c.loop-k-test.true)) (omega arith)

pub overflow_mul-lack-in-loop-k : goal.overflow_mul-lack-in-loop-k
overflow_mul-lack-in-loop-k c = fit (wanted_times c.requires.1 c.requires.2 c.loop-k.k c.loop-k-test.true) (omega arith)

pub overflow_sub-lack : goal.overflow_sub-lack
overflow_sub-lack c = fit (lack_word c.requires.1 c.requires.2 c.loop-k.k c.loop-k-test.true) (omega arith)

pub overflow_mul-held : goal.overflow_mul-held
overflow_mul-held c = fit (weighed_word c.requires.1 c.requires.2 c.loop-k.k c.loop-k-test.true) (omega arith)

pub overflow_mul-held-in-loop-k : goal.overflow_mul-held-in-loop-k
overflow_mul-held-in-loop-k c = fit (surplus_word c.requires.1 c.requires.2 c.loop-k.k c.loop-k-test.true) (omega arith)

pub overflow_mul-held-in-loop-k-2 : goal.overflow_mul-held-in-loop-k-2
overflow_mul-held-in-loop-k-2 c = fit (signed_word c.requires.1 c.requires.2 c.loop-k.k c.loop-k-test.true c.requires.3) (omega arith)

pub loop-k-preserved : goal.loop-k-preserved
loop-k-preserved c =
    let a = c.args in
    let h = c.loop-k-test.true in
    let held = word (signed_word c.requires.1 c.requires.2 c.loop-k.k h c.requires.3) (omega arith) in
    let lack = surplus_at a.s a.w.now.off a.p.now.wanted a.p.now.weight (nat a.w.now.queue c.loop-k.k) in
    let e = held.is ∙ ap (λ (z : ℤ). z *ℤ lack) (sym (sign_word c.requires.3).is) in
    fill_more _ c.requires.0 h e c.loop-k.invariant
