-- Where none is known, the divisor is that of 0/1. A turn writes one fraction more (`reduced_turn`). Numbers are handed on as
-- bits, and read back as they were.
use Rattle.std.proofs.Common.{◌≡◌, arith, rules, w64, to_z, of_z}
use Rattle.exact.specs.Fraction.{Reduced, fraction_at}
use Rattle.exact.proofs.Divisor.{none_divides}
use Rattle.ground.specs.Entries.{int}
use Rattle.core_project.proofs.Passes.{reduced_turn}
use Rattle.core_project.proofs.write.fractions_out.Goals as goal

pub loop-k-init : goal.loop-k-init
loop-k-init c = (search rules, rw c.no_divisor-known.ensures none_divides)

pub loop-k-preserved : goal.loop-k-preserved
loop-k-preserved c =
    let k = c.loop-k.k in
    let q = c.reduced-q.result in
    let num : to_z w64 (of_z w64 (int c.args.num.now k)) ≡ int c.args.num.now k = search rules in
    let den : to_z w64 (of_z w64 (int c.args.den.now k)) ≡ int c.args.den.now k = search rules in
    let top : to_z w64 (of_z w64 q.num) ≡ q.num = search rules in
    let bottom : to_z w64 (of_z w64 q.den) ≡ q.den = search rules in
    let r : Reduced (fraction_at c.args.num.now c.args.den.now k) q = rw (num, den) at c.reduced-q.ensures.0 in
    (rw (top, bottom) (reduced_turn q c.loop-k.invariant.0 (omega arith) (omega arith) r), c.reduced-q.ensures.1)
