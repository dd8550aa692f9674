-- Fractions (document 01, "Least move"): a whole number over a whole number above zero,
-- compared and added over a common denominator.
use Rattle.std.specs.Prelude.{◌≡◌, List, ℕ, ℤ, pos, nat_abs, ◌+ℤ◌, ◌-ℤ◌, ◌*ℤ◌, ◌≤ℤ◌, ◌<ℤ◌}
use Rattle.std.specs.Int.{◌∣◌}
use Rattle.ground.specs.Entries.{int}
use Rattle.exact.specs.declared.Fraction.{Fraction}

-- a numerator of one list over the denominator of another
abbrev pub fraction_at : List ℤ → List ℤ → ℕ → Fraction
fraction_at nums dens k = record { num = int nums k; den = int dens k }

-- a whole number over a whole number above zero
abbrev pub IsFraction : Fraction → Type 0
IsFraction q = pos 0 <ℤ q.den

-- compared over a common denominator: equal, at most, below
infix 50 ◌≃◌ ◌≼◌ ◌≺◌
abbrev pub ◌≃◌ : Fraction → Fraction → Type 0
a ≃ b = a.num *ℤ b.den ≡ b.num *ℤ a.den

abbrev pub ◌≼◌ : Fraction → Fraction → Type 0
a ≼ b = (a.num *ℤ b.den) ≤ℤ (b.num *ℤ a.den)

abbrev pub ◌≺◌ : Fraction → Fraction → Type 0
a ≺ b = (a.num *ℤ b.den) <ℤ (b.num *ℤ a.den)

-- added over a common denominator
infixl 60 ◌⊕◌ ◌⊖◌
abbrev pub ◌⊕◌ : Fraction → Fraction → Fraction
a ⊕ b = record { num = a.num *ℤ b.den +ℤ b.num *ℤ a.den; den = a.den *ℤ b.den }

abbrev pub ◌⊖◌ : Fraction → Fraction → Fraction
a ⊖ b = record { num = a.num *ℤ b.den -ℤ b.num *ℤ a.den; den = a.den *ℤ b.den }

-- a whole number as a fraction, and a whole number times a fraction
abbrev pub whole : ℤ → Fraction
whole z = record { num = z; den = pos 1 }

infixl 70 ◌⊛◌
abbrev pub ◌⊛◌ : ℤ → Fraction → Fraction
k ⊛ a = record { num = k *ℤ a.num; den = a.den }

abbrev pub square : Fraction → Fraction
square a = record { num = a.num *ℤ a.num; den = a.den *ℤ a.den }

-- lowest terms: the denominator is above zero, and 1 alone divides both. Zero in lowest terms is so 0/1
pub record LowestTerms (q : Fraction) : Type 0 where
  pub above : pos 0 <ℤ q.den
  pub reduced : (k : ℕ) → k ∣ nat_abs q.num → k ∣ nat_abs q.den → k ≡ 1

-- the same fraction in lowest terms
pub record Reduced (q r : Fraction) : Type 0 where
  pub same : r ≃ q
  pub lowest : LowestTerms r
