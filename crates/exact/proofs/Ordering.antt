-- The order of two fractions as an answer: by their whole parts, and then by their remainders.
use mathlib.Core.Path.{◌≡◌, sym, ◌∙◌, ap, ap₂}
use mathlib.Core.Logic.{◌⊎◌, inl, inr}
use Prim.Native.Nat.{◌≤◌, ◌<◌, ◌^◌}
use native.Mathlib.Omega.{arith}
use native.Mathlib.Nat.{mul-le-mul}
use lib.IntN.{ℤ, nat_abs, ◌+ℤ◌, ◌*ℤ◌}
use lib.Signed.{◌≤ℤ◌, ◌<ℤ◌, quot_z, rem_z}
use mir.Syntax.{w64}
use mir.Val.{SFits, of_z}
use mir.ValLaws.{to_z-of_z}
use Rattle.ground.specs.Limits.{fraction_den_most, fraction_num_most}
use Rattle.exact.specs.declared.Fraction.{Fraction}
use Rattle.std.specs.declared.cmp.Ordering.TheVariants.{Less, Equal, Greater}
use Rattle.std.specs.Ordering.{int_cmp}
use Rattle.std.proofs.lemmas.Cmp.{int_ranked}
use Rattle.exact.specs.Divide.{InRange, order_z, order_of}
use Rattle.algebra.proofs.Whole.{pp, nn, parts-+, le_parts, parts_le, lt_parts, parts_lt, le_antisym, le_of_lt, le_or_lt}
use Rattle.algebra.proofs.Quotient as quotient
use Rattle.algebra.proofs.Quotient.{small_fits, test_of_lt, test_of_le, nat_abs-*, above_nat_abs, quot_most, rem_most, lt_by_quot, gap_by_rem, kept, fits_as, kept_as}

-- ---- the order as an answer

pub order_below : {x y : ℤ} → x <ℤ y → Less ≡ order_z x y
unfolding order_z
order_below {x} {y} h = rw (test_of_lt h)

pub order_above : {x y : ℤ} → y <ℤ x → Greater ≡ order_z x y
unfolding order_z
order_above {x} {y} h = rw (test_of_le (le_of_lt h), test_of_lt h)

pub order_same : {x y : ℤ} → y ≤ℤ x → x ≤ℤ y → Equal ≡ order_z x y
unfolding order_z
order_same {x} {y} h k = rw (test_of_le h, test_of_le k)

-- and what an answer says
module _ (x y : ℤ) where
  pub below_means : order_z x y ≡ Less → x <ℤ y
  unfolding order_z
  below_means e = int_ranked x y Less (sym e)

  pub above_means : order_z x y ≡ Greater → y <ℤ x
  unfolding order_z
  above_means e = int_ranked x y Greater (sym e)

  pub same_means : order_z x y ≡ Equal → x ≡ y
  unfolding order_z
  same_means e = int_ranked x y Equal (sym e)

-- two pairs with the same difference stand alike
pub order_by_gap : (x y u v : ℤ) → x +ℤ v ≡ u +ℤ y → order_z u v ≡ order_z x y
order_by_gap x y u v e = go (le_or_lt v u) (le_or_lt u v)
  where
    go : (v ≤ℤ u) ⊎ (u <ℤ v) → (u ≤ℤ v) ⊎ (v <ℤ u) → order_z u v ≡ order_z x y
    go (inr h) k = sym (order_below h) ∙ order_below (parts_lt (omega (arith, lt_parts h, parts-+ x v, parts-+ u y, ap pp e, ap nn e)))
    go (inl h) (inr k) = sym (order_above k) ∙ order_above (parts_lt (omega (arith, lt_parts k, parts-+ x v, parts-+ u y, ap pp e, ap nn e)))
    go (inl h) (inl k) =
        sym (order_same h k)
        ∙ order_same
        (parts_le (omega (arith, le_parts h, parts-+ x v, parts-+ u y, ap pp e, ap nn e)))
        (parts_le (omega (arith, le_parts k, parts-+ x v, parts-+ u y, ap pp e, ap nn e)))

module _ (a b : Fraction) (in_a : InRange a) (in_b : InRange b) where
  pub order_by_quot : (quot_z a.num a.den ≡ quot_z b.num b.den → ⊥) → int_cmp (quot_z a.num a.den) (quot_z b.num b.den) ≡ order_of a b
  unfolding order_of order_z
  order_by_quot ne = go (le_or_lt (quot_z b.num b.den) (quot_z a.num a.den)) (le_or_lt (quot_z a.num a.den) (quot_z b.num b.den))
    where
      go : (quot_z b.num b.den ≤ℤ quot_z a.num a.den) ⊎ (quot_z a.num a.den <ℤ quot_z b.num b.den) → (quot_z a.num a.den ≤ℤ quot_z b.num b.den) ⊎ (quot_z b.num b.den <ℤ quot_z a.num a.den) → order_z (quot_z a.num a.den) (quot_z b.num b.den) ≡ order_z (a.num *ℤ b.den) (b.num *ℤ a.den)
      go (inr h) k = sym (order_below h) ∙ order_below (lt_by_quot a.num a.den b.num b.den in_a.above in_b.above h)
      go (inl h) (inr k) = sym (order_above k) ∙ order_above (lt_by_quot b.num b.den a.num a.den in_b.above in_a.above k)
      go (inl h) (inl k) = absurd (ne (le_antisym k h))

  pub order_by_rem : quot_z a.num a.den ≡ quot_z b.num b.den → int_cmp (rem_z a.num a.den *ℤ b.den) (rem_z b.num b.den *ℤ a.den) ≡ order_of a b
  unfolding order_of order_z
  order_by_rem p =
      order_by_gap (a.num *ℤ b.den) (b.num *ℤ a.den) (rem_z a.num a.den *ℤ b.den) (rem_z b.num b.den *ℤ a.den)
      (gap_by_rem a.num a.den b.num b.den in_a.above in_b.above p)

-- ---- in 64 bits

module _ (q : Fraction) (ok : InRange q) where
  pub den_small : nat_abs q.den ≤ fraction_den_most
  den_small = omega (arith, above_nat_abs ok.above, le_parts ok.den_most)

  pub quot_small : nat_abs (quot_z q.num q.den) ≤ fraction_num_most
  quot_small = omega (arith, ok.num_most, quot_most q.num q.den)

  pub rem_small : nat_abs (rem_z q.num q.den) < fraction_den_most
  rem_small = omega (arith, den_small, rem_most q.num ok.above)

  num_fits : SFits w64 q.num
  num_fits = small_fits q.num (omega (arith, ok.num_most))

  den_fits : SFits w64 q.den
  den_fits = small_fits q.den (omega (arith, den_small))

  pub num_kept : kept q.num ≡ q.num
  num_kept = to_z-of_z w64 q.num num_fits

  pub den_kept : kept q.den ≡ q.den
  den_kept = to_z-of_z w64 q.den den_fits

  -- what a division and a remainder ask, and what they give
  pub division_asks : (0 < of_z w64 q.den) × SFits w64 (quot_z (kept q.num) (kept q.den))
  division_asks = quotient.division_asks num_fits den_fits ok.above

  pub quot_plain : quot_z (kept q.num) (kept q.den) ≡ quot_z q.num q.den
  quot_plain = quotient.quot_read num_fits den_fits ok.above

  pub quot_kept : kept (quot_z (kept q.num) (kept q.den)) ≡ quot_z q.num q.den
  quot_kept = quotient.quot_gives num_fits den_fits ok.above

  pub rem_kept : kept (rem_z (kept q.num) (kept q.den)) ≡ rem_z q.num q.den
  rem_kept = quotient.rem_gives num_fits den_fits ok.above

-- a rest times the other fraction's denominator
module _ (a b : Fraction) (in_a : InRange a) (in_b : InRange b) where
  product_small : nat_abs (rem_z a.num a.den *ℤ b.den) < 2 ^ 63
  product_small =
      omega (
        arith,
        nat_abs-* (rem_z a.num a.den) b.den,
        mul-le-mul {n₁ = nat_abs (rem_z a.num a.den)} {m₁ = nat_abs b.den} {n₂ = fraction_den_most} {m₂ = fraction_den_most} (omega (arith, rem_small a in_a)) (den_small b in_b),
      )

  product_plain : kept (rem_z (kept a.num) (kept a.den)) *ℤ kept b.den ≡ rem_z a.num a.den *ℤ b.den
  product_plain = ap₂ ◌*ℤ◌ (rem_kept a in_a) (den_kept b in_b)

  pub product_asks : SFits w64 (kept (rem_z (kept a.num) (kept a.den)) *ℤ kept b.den)
  product_asks = fits_as product_plain product_small

  pub product_kept : kept (kept (rem_z (kept a.num) (kept a.den)) *ℤ kept b.den) ≡ rem_z a.num a.den *ℤ b.den
  product_kept = kept_as product_plain product_small
