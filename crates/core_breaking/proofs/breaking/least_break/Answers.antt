-- What is found at k can be compared, and the nearer of it and the best so far is the best below k + 1.
use Rattle.std.proofs.Common.{◌∙◌, ap, arith, ℤ, to_z-of_z}
use Rattle.algebra.proofs.Quotient.{kept}
use Rattle.core_breaking.specs.Breaking.{candidate_of, least_break}
use Rattle.core_breaking.proofs.BreakingPoints.{here_in_range, best_start, best_step, best_end}
use Rattle.core_breaking.proofs.breaking.least_break.Goals as goal

pub loop-k-init : goal.loop-k-init
loop-k-init c =
    let s = c.args in
    best_start s.w.now.count (candidate_of s.p.now (kept s.sign) s.w.now s.held.now s.share.now)

pub nearer-best-requires : goal.nearer-best-requires
nearer-best-requires c =
    let s = c.args in (
      c.loop-k.invariant.in_range,
      rw c.candidate.ensures (here_in_range s.p.now (kept s.sign) s.w.now s.held.now s.share.now c.loop-k.k c.requires.0 c.loop-k-test.true),
    )

pub loop-k-preserved : goal.loop-k-preserved
loop-k-preserved c =
    let s = c.args in
    let found = here_in_range s.p.now (kept s.sign) s.w.now s.held.now s.share.now c.loop-k.k c.requires.0 c.loop-k-test.true in
    best_step c.loop-k.invariant c.loop-k-test.true c.candidate.ensures (rw c.candidate.ensures found) c.nearer-best.ensures

pub returns : goal.returns
returns c =
    let s = c.args in
    best_end c.loop-k.invariant (omega (arith, c.loop-k-test.false))
    ∙ ap (λ (z : ℤ). least_break s.w.now.count (candidate_of s.p.now z s.w.now s.held.now s.share.now)) (to_z-of_z c.ranges.sign)
