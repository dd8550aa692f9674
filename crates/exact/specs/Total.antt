-- Finite sums of fractions over an index that counts from 0.
use Rattle.std.specs.Prelude.{ℕ, zero, suc, pos}
use Rattle.exact.specs.declared.Fraction.{Fraction}
use Rattle.exact.specs.Fraction.{◌⊕◌, whole}

-- f 0 + f 1 + .. + f (n - 1)
unfoldable pub total : ℕ → (ℕ → Fraction) → Fraction
total zero f = whole (pos 0)
total (suc n) f = total n f ⊕ f n
