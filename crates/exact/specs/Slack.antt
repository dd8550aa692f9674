-- The slack of a gap (document 02, Item 1): "right place less left place less distance, as a fraction in lowest terms,
-- negative where the gap is broken".
use Rattle.std.specs.Prelude.{ℕ, zero, suc, ◌%◌, ◌≤◌, ℤ, pos, nat_abs, ◌<ℤ◌, ◌≤ℤ◌}
use Rattle.std.specs.Int.Signed.{quot_z}
use Rattle.ground.specs.Limits.{fraction_den_most, slack_num_most}
use Rattle.exact.specs.declared.Fraction.{Fraction}
use Rattle.exact.specs.Fraction.{◌⊖◌, whole}

-- the greatest common divisor by Euclid's remainders, in at most so many turns
unfoldable pub euclid : ℕ → ℕ → ℕ → ℕ
euclid zero a b = a
euclid (suc turns) a zero = a
euclid (suc turns) a (suc b) = euclid turns (suc b) (a % suc b)

-- every remainder is below the one before it, so that b turns suffice
abbrev pub gcd_of : ℕ → ℕ → ℕ
gcd_of a b = euclid b a b

-- numerator and denominator divided by a number that divides both
abbrev pub divided_by : ℤ → Fraction → Fraction
divided_by g q = record { num = quot_z q.num g; den = quot_z q.den g }

-- a fraction in lowest terms, where its denominator is above zero: the one that is `Reduced` (`lowest_of_lem` and `lowest_is`
-- in proofs/Slacks)
unfoldable pub lowest_of : Fraction → Fraction
lowest_of q = divided_by (pos (gcd_of (nat_abs q.num) (nat_abs q.den))) q

-- "right place less left place less distance"
abbrev pub difference : (left right : Fraction) (distance : ℤ) → Fraction
difference left right distance = right ⊖ left ⊖ whole distance

-- ".. as a fraction in lowest terms"
abbrev pub slack_between : (left right : Fraction) (distance : ℤ) → Fraction
slack_between left right distance = lowest_of (difference left right distance)

-- the fractions whose difference is taken in 64 bits: every place that 12 does not refuse, and every place of the core,
-- its label scaled by up to 3
pub record Measurable (q : Fraction) : Type 0 where
  pub above : pos 0 <ℤ q.den
  pub den_most : q.den ≤ℤ pos fraction_den_most
  pub num_most : nat_abs q.num ≤ slack_num_most
