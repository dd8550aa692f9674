-- The divisor found is at most the denominator, so that it fits.
use Rattle.std.proofs.Common.{◌≡◌, arith, ◌<◌, pos, w64, to_z}
use mir.ValLaws.{to_z-of_z}
use Rattle.algebra.proofs.Quotient.{kept, rem_gives}
use Rattle.exact.proofs.Divisor.{gcd_bounds, is_divisor}
use Rattle.exact.proofs.divide.divisor.Goals as goal

pub overflow_cast-result : goal.overflow_cast-result
overflow_cast-result c =
    let above : 0 < c.unsigned_abs.result = grind (arith, to_z-of_z) in
    grind (arith, to_z-of_z, gcd_bounds above c.gcd.ensures)

pub returns : goal.returns
returns c =
    let above : 0 < c.unsigned_abs.result = grind (arith, to_z-of_z) in
    let den : kept c.args.den ≡ c.args.den = to_z-of_z w64 c.args.den c.ranges.den in
    let rest = rem_gives c.ranges.num c.ranges.den c.requires.0 in
    let common : to_z w64 c.gcd.result ≡ pos c.gcd.result = grind (arith, to_z-of_z, gcd_bounds above c.gcd.ensures) in (
      rw (rest, den, common) (is_divisor c.requires.0 (grind (arith, to_z-of_z)) (grind (arith, rest)) c.gcd.ensures),
      den,
      rest,
    )
