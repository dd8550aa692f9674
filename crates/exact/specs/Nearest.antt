-- The nearest whole number to num/den, by the two rules for halves: away from zero (document 01) and to the larger number
-- (document 02, Item 4). All of it is meant for a denominator above zero.
use Rattle.std.specs.Prelude.{◌≡◌, ◌⊎◌, cond, ℕ, ◌+◌, ◌*◌, ◌/◌, ◌%◌, ◌≤◌, ◌<◌, ltb, ℤ, pos, negsuc, neg_ℤ, nat_abs, ◌+ℤ◌, ◌-ℤ◌, ◌*ℤ◌, ◌≤ℤ◌, ◌<ℤ◌}

-- ---- halves away from zero

-- the whole number of magnitude m on z's side of zero
abbrev pub on_side : ℤ → ℕ → ℤ
on_side (pos n) m = pos m
on_side (negsuc n) m = neg_ℤ (pos m)

-- the magnitude a/d to the nearest whole number: its whole part where the rest is below a half, else the next
abbrev pub nearest_magnitude : ℕ → ℕ → ℕ
nearest_magnitude a d = cond (ltb (2 * (a % d)) d) (a / d) (a / d + 1)

-- "a fraction goes to the nearest whole unit; halves go away from zero"
unfoldable pub round_ties_to_away : ℤ → ℤ → ℤ
round_ties_to_away num den = on_side num (nearest_magnitude (nat_abs num) (nat_abs den))

-- ---- halves to the larger number

-- the largest whole number at most z/d; negsuc n is -(n + 1)
abbrev pub floor_of : ℤ → ℕ → ℤ
floor_of (pos n) d = pos (n / d)
floor_of (negsuc n) d = negsuc (n / d)

-- "halves shall go to the larger number": the largest whole number at most num/den + 1/2
unfoldable pub round_half_up : ℤ → ℤ → ℤ
round_half_up num den = floor_of (pos 2 *ℤ num +ℤ den) (2 * nat_abs den)

-- ---- the laws

-- how far a whole number is from num/den, times den
abbrev pub off : ℤ → ℤ → ℤ → ℕ
off num den z = nat_abs (z *ℤ den -ℤ num)

-- z is the nearest: no whole number is nearer, and another that is as near gives way to it
abbrev pub Nearest : (GivesWay : ℤ → ℤ → Type 0) (num den z : ℤ) → Type 0
Nearest GivesWay num den z = (y : ℤ) → (off num den z ≤ off num den y) × (off num den y ≡ off num den z → (y ≡ z) ⊎ GivesWay y z)

-- IEEE 754's roundTiesToAway gives z: of two as near the one of larger magnitude
abbrev pub TiesToAway : ℤ → ℤ → ℤ → Type 0
TiesToAway = Nearest (λ y z. nat_abs y < nat_abs z)

-- "to the larger number": of two as near the larger
abbrev pub TiesUp : ℤ → ℤ → ℤ → Type 0
TiesUp = Nearest ◌<ℤ◌

-- z is above num/den - 1/2 and at most num/den + 1/2, which one whole number alone is (`half_up_one` in proofs/Nearest)
pub record HalfUp (num den z : ℤ) : Type 0 where
  pub low : (pos 2 *ℤ num -ℤ den) <ℤ (pos 2 *ℤ (z *ℤ den))
  pub high : (pos 2 *ℤ (z *ℤ den)) ≤ℤ (pos 2 *ℤ num +ℤ den)
