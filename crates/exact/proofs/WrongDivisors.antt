-- A divisor kept from another remainder is ruled out. Nothing cites it.
use native.Mathlib.Omega.{arith}
use native.Mathlib.Nat.{mod-eq-zero_of_dvd}
use lib.IntN.{pos}
use Rattle.exact.specs.Divide.{IsDivisor}

-- 3 is the divisor of 3/6, and not that of 4/6
stale_divisor : IsDivisor (record { den = pos 6; rest = pos 4; common = pos 3 }) → ⊥
stale_divisor d = omega (arith, mod-eq-zero_of_dvd 3 d.divides.left)
