-- Finite sums over an index that counts from 0.
use Rattle.std.specs.Prelude.{ℕ, zero, suc, Bool, true, false, ℤ, pos, ◌+ℤ◌}

-- f 0 + f 1 + .. + f (n - 1)
unfoldable pub sum : ℕ → (ℕ → ℤ) → ℤ
sum zero f = pos 0
sum (suc n) f = sum n f +ℤ f n

-- one where a test holds, else zero
abbrev pub ind : Bool → ℤ
ind true = pos 1
ind false = pos 0
