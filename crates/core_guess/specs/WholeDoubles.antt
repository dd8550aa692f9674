-- Whole numbers as doubles.
use Rattle.std.specs.Prelude.{ℕ, cond, ℤ, pos, neg_ℤ, Float}
use Rattle.std.specs.Int.Signed.{lt_z}
use Rattle.std.specs.Float.{binary64}
use Rattle.std.specs.Float.Ieee.{of_int}

-- whole numbers up to this, either way, are doubles
abbrev pub whole_most : ℕ
whole_most = 1000000000000

-- a number, or 0 for one beyond the bound
abbrev pub bounded : ℤ → ℤ
bounded x = cond (lt_z x (neg_ℤ (pos whole_most))) (pos 0) (cond (lt_z (pos whole_most) x) (pos 0) x)

-- a number as a double; one beyond the bound counts as 0
abbrev pub double_of : ℤ → Float
double_of x = of_int binary64 (bounded x)
