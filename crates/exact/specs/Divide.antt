-- The greatest common divisor, and the order of two fractions as an answer.
use Rattle.std.specs.Prelude.{ℕ, ◌≤◌, ℤ, pos, nat_abs, ◌*ℤ◌, ◌<ℤ◌, ◌≤ℤ◌}
use Rattle.std.specs.Int.{◌∣◌}
use Rattle.std.specs.Ordering.{int_cmp}
use Rattle.std.specs.declared.cmp.Ordering.{Ordering}
use Rattle.ground.specs.Limits.{fraction_den_most, fraction_num_most}
use Rattle.exact.specs.declared.Fraction.{Fraction}
use Rattle.exact.specs.declared.known.Divisor.{Divisor}

-- g divides a and b, and whatever divides both divides g
pub record GreatestCommonDivisor (a b g : ℕ) : Type 0 where
  pub left : g ∣ a
  pub right : g ∣ b
  pub greatest : (k : ℕ) → k ∣ a → k ∣ b → k ∣ g

-- a denominator above zero, another number, and the greatest common divisor of the two
pub record IsDivisor (d : Divisor) : Type 0 where
  pub above : pos 0 <ℤ d.den
  pub positive : pos 0 <ℤ d.common
  pub divides : GreatestCommonDivisor (nat_abs d.rest) (nat_abs d.den) (nat_abs d.common)

-- what stands for the divisor where none is known: that of 0/1
abbrev pub no_divisor : Divisor
no_divisor = record { den = pos 1; rest = pos 0; common = pos 1 }

-- where a whole number stands to another: Less, Equal or Greater
unfoldable pub order_z : ℤ → ℤ → Ordering
order_z x y = int_cmp x y

-- where a fraction stands to another, over a common denominator
unfoldable pub order_of : Fraction → Fraction → Ordering
order_of a b = order_z (a.num *ℤ b.den) (b.num *ℤ a.den)

-- the fractions that comparison and rounding away from zero take: a denominator from 1, and both within their limits
pub record InRange (q : Fraction) : Type 0 where
  pub above : pos 0 <ℤ q.den
  pub den_most : q.den ≤ℤ pos fraction_den_most
  pub num_most : nat_abs q.num ≤ fraction_num_most
