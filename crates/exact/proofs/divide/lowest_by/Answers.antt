-- Both numbers are divided by their greatest common divisor, or stay where that is 1.
-- What is read back from the bits of a number that fits is that number.
use Rattle.std.proofs.Common.{◌≡◌, subst, arith, ℤ, pos, ◌*ℤ◌, ◌<ℤ◌}
use Rattle.std.specs.Int.Signed.{rem_z}
use mir.ValLaws.{to_z-of_z}
use Rattle.exact.specs.Divide.{IsDivisor}
use Rattle.exact.specs.Fraction.{Reduced}
use Rattle.exact.specs.declared.Fraction.{Fraction}
use Rattle.exact.specs.declared.known.Divisor.{Divisor}
use Rattle.algebra.proofs.Whole.{one_*ℤ}
use Rattle.algebra.proofs.Quotient.{quot_exact}
use Rattle.exact.proofs.Divisor.{reduced_by, gcd_rem}
use Rattle.exact.proofs.divide.lowest_by.Goals as goal

module _ (num den : ℤ) (d : Divisor) (k : IsDivisor d) (e : d.den ≡ den) (same : d.rest ≡ rem_z num den) where
  reduced : (r : Fraction) → d.common *ℤ r.num ≡ num → d.common *ℤ r.den ≡ den → Reduced (record { num = num; den = den }) r
  reduced r =
      reduced_by (record { num = num; den = den }) r d.common k.positive (subst (λ (v : ℤ). pos 0 <ℤ v) e k.above)
      (gcd_rem num den (rw (e, same) at k.divides))

pub returns-then-g-eq1 : goal.returns-then-g-eq1
returns-then-g-eq1 c = reduced c.args.num c.args.den c.args.d c.requires.0 c.requires.1 c.requires.2 _ (grind (arith, to_z-of_z, one_*ℤ)) (grind (arith, to_z-of_z, one_*ℤ))

pub returns : goal.returns
returns c =
    let k : IsDivisor c.args.d = c.requires.0 in
    let both = gcd_rem c.args.num c.args.den (rw (c.requires.1, c.requires.2) at k.divides) in
    reduced c.args.num c.args.den c.args.d k c.requires.1 c.requires.2 _
    (grind (arith, to_z-of_z, quot_exact c.args.num c.args.d.common k.positive both.left))
    (grind (arith, to_z-of_z, quot_exact c.args.den c.args.d.common k.positive both.right))
