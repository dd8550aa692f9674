use Rattle.std.proofs.Common.{◌<◌, ◌%◌, arith}
use native.Mathlib.Nat.{mod-lt}
use Rattle.exact.proofs.Divisor.{gcd_nearer, gcd_end}
use Rattle.exact.proofs.divide.gcd.Goals as goal

pub loop-y-preserved : goal.loop-y-preserved
loop-y-preserved c =
    -- the remainder is below the divisor
    let below : c.loop-y.x % c.loop-y.y < c.loop-y.y = mod-lt c.loop-y.x (omega arith) in
    λ g k. c.loop-y.invariant g (gcd_nearer (omega (arith, below)) c.min-y.ensures k)

pub returns : goal.returns
returns c = c.loop-y.invariant c.loop-y.x (rw c.loop-y-test.false (gcd_end c.loop-y.x))
