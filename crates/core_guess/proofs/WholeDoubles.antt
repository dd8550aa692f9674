-- Whole numbers that are doubles.
use mathlib.Core.Path.{◌≡◌}
use mathlib.Core.Bool.{true, false}
use Prim.Native.Nat.{suc, ◌<◌, ◌^◌}
use native.Mathlib.Omega.{arith}
use lib.Dec.{T, le→leb}
use lib.IntN.{ℤ, pos, negsuc, neg_ℤ, nat_abs}
use lib.Signed.{◌≤ℤ◌, lt_z}
use lib.Ieee.{binary64, in_float}
use Rattle.algebra.proofs.Whole.{le_parts}
use Rattle.algebra.proofs.Quotient.{le_of_test}
use Rattle.least_move.proofs.Forest.{by_mark}
use Rattle.core_guess.specs.WholeDoubles.{bounded, whole_most}

-- ---- a number beyond the bound counts as 0, and any other as itself

pub bounded_low : (x : ℤ) → lt_z x (neg_ℤ (pos whole_most)) ≡ true → pos 0 ≡ bounded x
bounded_low x t = rw t

pub bounded_high : (x : ℤ) → lt_z x (neg_ℤ (pos whole_most)) ≡ false → lt_z (pos whole_most) x ≡ true → pos 0 ≡ bounded x
bounded_high x f t = rw (f, t)

pub bounded_not : (x : ℤ) → lt_z x (neg_ℤ (pos whole_most)) ≡ false → lt_z (pos whole_most) x ≡ false → x ≡ bounded x
bounded_not x f g = rw (f, g)

-- ---- what is within the bound is a double

small_double : (z : ℤ) → negsuc 999999999999 ≤ℤ z → z ≤ℤ pos whole_most → T (in_float binary64 z)
unfolding in_float
small_double (pos n) low high = le→leb n 9007199254740992 (omega (arith, le_parts high))
small_double (negsuc n) low high = le→leb (suc n) 9007199254740992 (omega (arith, le_parts low))

zero_double : T (in_float binary64 (pos 0))
unfolding in_float
zero_double = le→leb 0 9007199254740992 (omega arith)

pub bounded_double : (x : ℤ) → T (in_float binary64 (bounded x))
bounded_double x =
    by_mark (lt_z x (neg_ℤ (pos whole_most)))
    (λ t. rw t zero_double)
    (λ f.
    by_mark (lt_z (pos whole_most) x)
    (λ t. rw (f, t) zero_double)
    (λ g. rw (f, g) (small_double x (le_of_test f) (le_of_test g))))

-- so it fits
small_parts : (z : ℤ) → negsuc 999999999999 ≤ℤ z → z ≤ℤ pos whole_most → nat_abs z < 2 ^ 63
small_parts (pos n) low high = omega (arith, le_parts high)
small_parts (negsuc n) low high = omega (arith, le_parts low)

pub bounded_small : (x : ℤ) → nat_abs (bounded x) < 2 ^ 63
bounded_small x =
    by_mark (lt_z x (neg_ℤ (pos whole_most)))
    (λ t. rw t (omega arith))
    (λ f.
    by_mark (lt_z (pos whole_most) x)
    (λ t. rw (f, t) (omega arith))
    (λ g. rw (f, g) (small_parts x (le_of_test f) (le_of_test g))))
